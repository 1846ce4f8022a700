-- `fibre_share`: t, then its product with the size factor and kf.
use Rattle.std.proofs.Common.{arith, ◌≡◌, ◌≤◌, ◌*◌, ◌/◌, ◌-◌, max}
use native.Mathlib.Nat.{mul-le-mul}
use Rattle.shear.specs.Shear.{fibre_share}
use Rattle.shear.proofs.fibre_share.Goals as goal

pub returns : goal.returns
unfolding fibre_share
returns c =
    let x = c.args.lawful in
    let t = 12 * x.section.feq3 / 100 in
    let kf = c.kf_of.ensures in
    let factor : c.max.result ≡ max 1000 (1600 - x.law.d) = omega (arith, c.max.ensures, c.depth_of.ensures) in
    let few : t ≤ 2400 = omega (arith, x.accepted.fibres.1) in
    let product : t * c.max.result * c.kf_of.result ≤ 2400 * 1600 * 1500 =
    mul-le-mul {n₂ = 2400 * 1600} {m₂ = 1500} (mul-le-mul {n₂ = 2400} {m₂ = 1600} few (omega arith)) kf.1 in
    (λ i. t * factor i * kf.0 i / 1000000, omega (arith, product))
