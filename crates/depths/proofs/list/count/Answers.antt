-- `count`: as many as have a kind.
use Prim.Native.Nat.{◌≤◌}
use mathlib.Core.Path.{◌≡◌, sym, ap, ◌∙◌}
use native.Mathlib.Omega.{arith}
use lib.ListN.{length, take}
use Rattle.std.proofs.Common.{rules}
use Rattle.std.specs.Prelude.{map, count_by, is_some}
use Rattle.std.proofs.lemmas.List.{length-map, take-map}
use Rattle.forces.specs.Forces.{moment}
use Rattle.depths.specs.Depths.{kind_at, list_to}
use Rattle.depths.specs.Code.{marked}
use Rattle.depths.proofs.Listed.{count_most}
use Rattle.depths.proofs.Kept.{counted, marks_counted}
use Rattle.depths.proofs.list.count.Goals as goal

pub shared_ref_as_front-grid : goal.shared_ref_as_front-grid
shared_ref_as_front-grid c = omega (arith, c.last_depth-last.ensures, c.args.lawful.now.accepted.sizes.1.1)

pub returns : goal.returns
returns c =
    let s = c.args.lawful.now.section in
    let last = c.last_depth-last in
    let few : last.result ≤ 1000 = omega (arith, last.ensures, c.args.lawful.now.accepted.sizes.1.1) in
    let marks = c.args.kinds.now in
    let is : c.count.result ≡ count_by (λ m. is_some (marked m)) (take last.result marks) = search rules in
    let all =
    marks_counted (take last.result marks) ∙ ap (count_by is_some) (sym (take-map marked last.result marks))
    ∙ counted s (map marked marks) c.requires last.result (omega (arith, last.ensures)) (omega (arith, length-map marks marked)) in
    (is ∙ all ∙ ap (λ n. length (list_to (kind_at s) (moment s) n)) last.ensures, omega (arith, all, count_most (kind_at s) (moment s) last.result))
