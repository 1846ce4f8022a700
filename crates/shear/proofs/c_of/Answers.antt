-- `c_of`: where b d is not less than 50 As, c has no more than 13 digits.
use Prim.Native.Nat.{◌*◌}
use Rattle.std.proofs.Common.{arith}
use native.Mathlib.Nat as NatL
use borrow.Author.Tests.{le-ltb}
use Rattle.shear.specs.Shear.{c_of}
use Rattle.shear.proofs.Roots.{c_root}
use Rattle.shear.proofs.c_of.Goals as goal

pub returns-else-bd-steel : goal.returns-else-bd-steel
unfolding c_of
returns-else-bd-steel c =
    let a = c.args in
    let most = 100000000000 * a.steel * a.fck in
    let few = NatL.mul-le-mul_left a.steel c.requires.2 in
    let r = c_root a.bd most _ c.root-else-bd-steel.result c.requires.0 c.root-else-bd-steel.ensures (omega (arith, few)) in
    (rw (le-ltb a.bd (50 * a.steel) c.if-bd-steel.false) r.0, omega (arith, r.1))
