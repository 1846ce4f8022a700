-- `concrete_share`: k and c, and the axial share; no sum leaves its bits.
use Rattle.std.proofs.Common.{arith, ◌≡◌, ◌≤◌, ◌*◌, ◌/◌, ◌^◌, ◌+ℤ◌, zero, suc, ℤ, pos, negsuc, to_z, of_z, w64, refl, ap, ◌∙◌}
use Rattle.std.specs.Int.{int_max}
use Rattle.std.proofs.lemmas.Int.{ints, clamps}
use lib.IntN.{nat_abs}
use native.Mathlib.Nat.{mul-le-mul}
use borrow.Author.Tests.{lt-ltb, le-ltb}
use Rattle.section.specs.Has.{steel_area}
use Rattle.shear.specs.Shear.{k_of, c_of, at_least_zero, axial_share, concrete_share}
use Rattle.shear.specs.Code.{most_concrete}
use Rattle.shear.proofs.concrete_share.Goals as goal

max_is : (z : ℤ) → nat_abs (int_max z (pos 0)) ≡ at_least_zero z
max_is (pos zero) = refl
max_is (pos (suc n)) = rw (lt-ltb 0 (suc n) (omega arith), le-ltb (suc n) 0 (omega arith))
max_is (negsuc n) = refl

pub returns : goal.returns
unfolding concrete_share
returns c =
    let s = c.args.lawful.section in
    let d = c.args.lawful.law.d in
    let k = c.k_of.ensures in
    let root = c.c_of-c.ensures in
    let product : 12 * c.k_of.result * c.c_of-c.result ≤ 12 * 2000 * 2 ^ 21 =
    mul-le-mul {n₂ = 12 * 2000} {m₂ = 2 ^ 21} (omega (arith, k.1)) (omega (arith, root.1)) in
    let share = 12 * c.k_of.result * c.c_of-c.result / 100000 in
    let share_is : share ≡ 12 * k_of d * c_of (s.b * d) (steel_area s) s.fck / 100000 =
    λ i. 12 * (k.0 ∙ ap k_of c.depth_of.ensures.0) i * (root.0 ∙ λ j. c_of (c.web.ensures.0 j) (c.steel.ensures.0 j) s.fck) i / 100000 in
    let sum = pos share +ℤ axial_share s in
    let held : to_z w64 (of_z w64 (to_z w64 share +ℤ to_z w64 (of_z w64 c.axial_share.result))) ≡ sum =
    omega (arith, ints, c.axial_share.ensures) in
    let is : c.max.result ≡ int_max sum (pos 0) = c.max.ensures.value ∙ ap (λ z. int_max z (pos 0)) held in
    let back : to_z w64 (of_z w64 c.max.result) ≡ c.max.result = omega (arith, ints) in
    let most : nat_abs c.max.result ≤ most_concrete = omega (arith, ints, clamps, is) in
    (ap nat_abs (back ∙ is) ∙ max_is sum ∙ ap (λ n. at_least_zero (pos n +ℤ axial_share s)) share_is, rw back most)
