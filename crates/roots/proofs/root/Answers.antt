-- `root`: the digits of a quotient's root.
use Rattle.std.proofs.Common.{rules, arith, ◌*◌, ◌/◌, leb, true, false}
use Rattle.std.proofs.iter.Serving.{serving}
use native.Mathlib.Nat.{pos_of_ne-zero}
use Rattle.roots.proofs.Powers.{cube_of_digits}
use Rattle.roots.proofs.Digits.{found}
use Rattle.roots.proofs.root.Goals as goal

pub by_digits-requires-clause-callable : goal.by_digits-requires-clause-callable
by_digits-requires-clause-callable c = λ n h. let small = cube_of_digits n c.min-digits.result (omega arith) h in grind (serving, arith)

pub returns-then-cube : goal.returns-then-cube
returns-then-cube c =
    let a = c.args in
    let most = a.bound / a.by in
    let w = c.by_digits.ensures (λ n. leb (n * n * n) most) (search rules) (λ n b h says. search rules) in
    rw (c.if-cube.true, ← c.min-digits.ensures) (found true a.by a.bound (pos_of_ne-zero c.if-by-eq0.false) w)

pub returns-else-cube : goal.returns-else-cube
returns-else-cube c =
    let a = c.args in
    let most = a.bound / a.by in
    let w = c.by_digits-else-cube.ensures (λ n. leb (n * n) most) (search rules) (λ n b h says. search rules) in
    rw (c.if-cube.false, ← c.min-digits.ensures) (found false a.by a.bound (pos_of_ne-zero c.if-by-eq0.false) w)
