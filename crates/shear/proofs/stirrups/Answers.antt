-- `stirrups`: none, or the quotient.
use Rattle.std.proofs.Common.{arith, refl, ◌*◌}
use native.Mathlib.Nat.{div-le_self}
use borrow.Author.Tests.{ne_eqb}
use Rattle.shear.specs.Shear.{stirrups}
use Rattle.shear.proofs.Ranges.{stirrups_most}
use Rattle.shear.proofs.stirrups.Goals as goal

pub overflow_mul-result-3 : goal.overflow_mul-result-3
overflow_mul-result-3 c = record { fits = rw c.depth_of.ensures.0 (omega (arith, stirrups_most c.args.lawful (omega arith))) }

pub returns : goal.returns
unfolding stirrups
returns c =
    let s = c.args.lawful.section in
    let l = c.args.lawful.law in
    let product = 9 * s.asw * l.d * l.fyd in
    rw (c.depth_of.ensures.0, ne_eqb s.asw 0 c.if-section-eq0.false)
    (refl, omega (arith, stirrups_most c.args.lawful (omega arith), div-le_self product (10 * s.spacing)))
