-- Division that rounds down: between what it lies, and that the library has it. Assumes nothing.
use Prim.Native.Nat.{ℕ, ◌/◌, ◌≤◌, ◌<◌}
use mathlib.Core.Path.{◌≡◌, refl}
use native.Mathlib.Nat as NatL
use native.Mathlib.Omega.{arith}
use lib.IntN.{ℤ, pos, negsuc, ◌*ℤ◌, nat_abs}
use Rattle.std.specs.Int.{int_div_euclid}
use Rattle.arith.specs.Floor.{floor_div, RoundsDown}
use Rattle.arith.proofs.Signed.{parts_add, up_scale, dn_scale, parts_lt, parts_le}

pub floor_is : (z : ℤ) (d : ℕ) → 0 < d → RoundsDown z d (floor_div z d)
unfolding floor_div
floor_is (pos a) d h =
    let q = pos (a / d) in
    let s = parts_add (pos d *ℤ q) (pos d) in
    let u = up_scale d q in
    let v = dn_scale d q in
    let whole = NatL.div-add-mod a d in
    let none = NatL.mul-zero d in
    (parts_le _ _ (omega arith), parts_lt _ _ (omega (arith, NatL.mod-lt a h)))
floor_is (negsuc a) d h =
    let q = negsuc (a / d) in
    let s = parts_add (pos d *ℤ q) (pos d) in
    let u = up_scale d q in
    let v = dn_scale d q in
    let whole = NatL.div-add-mod a d in
    let none = NatL.mul-zero d in
    let more = NatL.mul-suc d (a / d) in
    (parts_le _ _ (omega (arith, NatL.mod-lt a h)), parts_lt _ _ (omega arith))

-- no quotient is larger than what is divided
pub floor_most : (z : ℤ) (d : ℕ) → nat_abs (floor_div z d) ≤ nat_abs z
unfolding floor_div
floor_most (pos a) d = NatL.div-le_self a d
floor_most (negsuc a) d = omega (arith, NatL.div-le_self a d)

-- ---- it is what the library's `div_euclid` gives
pub floor_euclid : (z : ℤ) (d : ℕ) → int_div_euclid z (pos d) ≡ floor_div z d
unfolding floor_div
floor_euclid (pos a) d = refl
floor_euclid (negsuc a) d = refl
