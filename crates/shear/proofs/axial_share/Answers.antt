-- `axial_share`: N in mN, then the quotient; no number leaves its bits.
use Rattle.std.proofs.Common.{arith, ◌≡◌, ◌∙◌, ◌≤◌, ◌*ℤ◌, ◌*◌, pos, to_z, of_z, w64, w32}
use Rattle.std.specs.Int.{int_div_euclid}
use Rattle.std.proofs.lemmas.Int.{ints}
use lib.IntN.{nat_abs}
use Rattle.arith.proofs.Floor.{floor_euclid, floor_most}
use Rattle.section.specs.Has.{load_of, concrete_area}
use Rattle.shear.specs.Shear.{axial_share}
use Rattle.shear.specs.Code.{most_axial}
use Rattle.shear.proofs.axial_share.Goals as goal

pub returns : goal.returns
unfolding axial_share
returns c =
    let s = c.args.lawful.section in
    let area = c.area.result in
    let r = c.div_euclid.result in
    let load : nat_abs s.load ≤ 10000000 = c.args.lawful.accepted.load in
    let load_is = load_of s in
    let few : nat_abs (axial_share s) ≤ most_axial = omega (arith, ints, floor_most (pos 15 *ℤ load_is) (100 * concrete_area s)) in
    let divided : to_z w64 (of_z w64 (pos 15 *ℤ to_z w64 (of_z w64 (pos 1000 *ℤ to_z w64 (of_z w64 (to_z w32 (of_z w32 s.load)))))))
    ≡ pos 15 *ℤ load_is = omega (arith, ints) in
    let by : to_z w64 (of_z w64 (pos 100 *ℤ to_z w64 area)) ≡ pos (100 * concrete_area s) = omega (arith, ints, c.area.ensures) in
    let is : r ≡ axial_share s =
    c.div_euclid.ensures ∙ (λ i. int_div_euclid (divided i) (by i)) ∙ floor_euclid (pos 15 *ℤ load_is) (100 * concrete_area s) in
    let back : to_z w64 (of_z w64 r) ≡ r = omega (arith, ints) in
    (back ∙ is, rw (back ∙ is) few)
