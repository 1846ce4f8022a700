-- `least_moment`: what `min` finds is not above any moment.
use Rattle.std.proofs.Common.{◌≡◌, ◌+◌, ◌*◌, ◌<◌, Some, pos, get_or, arith}
use Rattle.std.specs.Option.{option_map}
use Rattle.std.proofs.lemmas.Grind.{common_steps}
use Rattle.std.proofs.lemmas.Int.{ints}
use Rattle.booklines.proofs.Least.{below_item}
use Rattle.booklines.proofs.least_moment.Goals as goal

pub returns-clause-none_below : goal.returns-clause-none_below
returns-clause-none_below c j h =
    let least = c.min.ensures.runs in
    let stepped = c.step_by.ensures.runs least.0 least.0.seen least.1 in
    let q = stepped.0 in
    let long : j * 3 < q.len = grind (arith, common_steps, c.iter.ensures, c.requires) in
    let is : get_or q.from.rest.now (j * 3) (pos 0) ≡ get_or c.args.words.now (3 * j + 2) (pos 0) = grind (arith, common_steps) in
    let at : option_map (λ y. y.now) (least.0.at j) ≡ Some (get_or c.args.words.now (3 * j + 2) (pos 0)) =
    rw (stepped.2.4 j, ← is) ((c.iter.ensures.runs q q.seen).2 (j * 3) (pos 0) long) in
    omega (arith, ints, below_item _ _ _ ((rw c.unwrap.ensures at least.3).1 j) at)
