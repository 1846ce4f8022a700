-- `bar`: the size of the law, with the sign of its side.
use Prim.Native.Nat.{◌+◌, ◌*◌, ◌-◌, ◌≤◌}
use mathlib.Core.Path.{◌≡◌, sym, ap, ◌∙◌}
use mathlib.Core.Bool.{true}
use native.Mathlib.Nat as NatL
use native.Mathlib.Omega.{arith}
use lib.Dec.{ltb}
use borrow.Author.Tests.{lt-ltb, le-ltb}
use Rattle.arith.proofs.Machine.{read_pos, minus_fits, read_minus}
use Rattle.law.specs.Stress.{signed, size, bar}
use Rattle.law.proofs.Sides.{bar_rounded}
use Rattle.law.proofs.Bounds.{bar_most}
use Rattle.strips.specs.Strips.{scale_of}
use Rattle.forces.specs.Forces.{bar_counts}
use Rattle.forces.proofs.bar.Goals as goal
use Rattle.forces.proofs.bar.Goals.{After-bar_size-size}

most : (c : After-bar_size-size) → c.bar_size-size.result ≤ c.args.law.fyd
most c = rw c.bar_size-size.ensures (bar_most _ true _ _)

stress : (c : After-bar_size-size)
    → let a = c.args in
    signed (ltb a.axis.x a.depth) c.bar_size-size.result ≡ bar_counts a.law (scale_of a.axis) a.axis.x a.depth
stress c =
    let a = c.args in
    let strain : 500 * (a.axis.unit * (2 * c.abs_diff-apart.result)) ≡ 500 * a.axis.unit * (2 * ((a.axis.x - a.depth) + (a.depth - a.axis.x))) =
    sym (NatL.mul_assoc 500 a.axis.unit (2 * c.abs_diff-apart.result)) ∙ ap (λ n. 500 * a.axis.unit * (2 * n)) c.abs_diff-apart.ensures in
    bar_rounded a.law (ltb a.axis.x a.depth) _ a.axis.over c.bar_size-size.result
    (c.bar_size-size.ensures ∙ ap (λ n. size (bar a.law true n a.axis.over)) strain)

pub overflow_mul-axis : goal.overflow_mul-axis
overflow_mul-axis c =
    let unit = c.args.axis.unit in
    let apart = 2 * c.abs_diff-apart.result in
    let most = NatL.mul-le-mul {n₁ = unit} {m₁ = apart} {n₂ = 255} {m₂ = 131070} (omega arith) (omega (arith, c.abs_diff-apart.type_inv)) in
    record { fits = omega (arith, most) }

pub overflow_cast-size : goal.overflow_cast-size
overflow_cast-size c = record { sfits = omega (arith, most c) }

pub overflow_sub-result : goal.overflow_sub-result
overflow_sub-result c = minus_fits c.bar_size-size.result (omega (arith, most (goal.at.overflow_sub-result c).After-bar_size-size))

pub returns-then-axis-depth : goal.returns-then-axis-depth
returns-then-axis-depth c =
    let r = c.bar_size-size.result in
    let a = c.args in
    let is = read_minus r (omega (arith, most (goal.at.returns-then-axis-depth c).After-bar_size-size)) in
    is ∙ ap (λ t. signed t r) (sym (lt-ltb a.axis.x a.depth c.if-axis-depth.true)) ∙ stress (goal.at.returns-then-axis-depth c).After-bar_size-size

pub returns-else-axis-depth : goal.returns-else-axis-depth
returns-else-axis-depth c =
    let r = c.bar_size-size.result in
    let a = c.args in
    let is = read_pos r (omega (arith, most (goal.at.returns-else-axis-depth c).After-bar_size-size)) in
    is ∙ ap (λ t. signed t r) (sym (le-ltb a.axis.x a.depth c.if-axis-depth.false)) ∙ stress (goal.at.returns-else-axis-depth c).After-bar_size-size
