-- `strip`: the size of the law, with the sign of its side.
use Prim.Native.Nat.{◌*◌, ◌≤◌}
use mathlib.Core.Path.{◌≡◌, sym, ap, ◌∙◌}
use native.Mathlib.Nat as NatL
use native.Mathlib.Omega.{arith}
use lib.Dec.{leb}
use lib.IntN.{pos, neg_ℤ}
use borrow.Author.Tests.{le-leb, lt-leb}
use Rattle.arith.proofs.Machine.{read_pos, minus_fits, read_minus}
use Rattle.law.specs.Stress.{signed, concrete}
use Rattle.law.specs.Sizes.{size_in}
use Rattle.law.proofs.Bounds.{size_in_most}
use Rattle.strips.specs.Strips.{reach, strip_size}
use Rattle.strips.proofs.strip.Goals as goal
use Rattle.strips.proofs.strip.Goals.{After-concrete_size-size}

size-is : (c : After-concrete_size-size) → let a = c.args in c.concrete_size-size.result ≡ strip_size a.law (leb a.axis.x a.i) a.axis a.i
size-is c =
    let a = c.args in
    let pulls = leb a.axis.x a.i in
    let strain : 500 * (a.axis.unit * c.reach.result) ≡ 500 * a.axis.unit * reach pulls a.axis.x a.i =
    sym (NatL.mul_assoc 500 a.axis.unit c.reach.result) ∙ ap (λ n. 500 * a.axis.unit * n) c.reach.ensures.0 in
    c.concrete_size-size.ensures ∙ ap (λ n. size_in a.law (concrete a.law pulls n a.axis.over)) strain

small : (c : After-concrete_size-size) → c.concrete_size-size.result ≤ 65536
small c = let a = c.args in rw (size-is c) (NatL.le_of_lt (size_in_most a.law (leb a.axis.x a.i) _ a.axis.over))

pub overflow_cast-size : goal.overflow_cast-size
overflow_cast-size c = record { sfits = omega (arith, small c) }

pub overflow_sub-result : goal.overflow_sub-result
overflow_sub-result c = minus_fits c.concrete_size-size.result (omega (arith, small (goal.at.overflow_sub-result c).After-concrete_size-size))

pub returns-then-pulls : goal.returns-then-pulls
returns-then-pulls c =
    let a = c.args in
    let k = (goal.at.returns-then-pulls c).After-concrete_size-size in
    read_minus c.concrete_size-size.result (omega (arith, small k)) ∙ ap (λ n. neg_ℤ (pos n)) (size-is k)
    ∙ ap (λ t. signed t (strip_size a.law (leb a.axis.x a.i) a.axis a.i)) (sym (le-leb a.axis.x a.i c.if-pulls.true))

pub returns-else-pulls : goal.returns-else-pulls
returns-else-pulls c =
    let a = c.args in
    let k = (goal.at.returns-else-pulls c).After-concrete_size-size in
    read_pos c.concrete_size-size.result (omega (arith, small k)) ∙ ap pos (size-is k)
    ∙ ap (λ t. signed t (strip_size a.law (leb a.axis.x a.i) a.axis a.i)) (sym (lt-leb a.axis.x a.i c.if-pulls.false))
