-- The ranges of what a section's shear is computed from: of an accepted section with its law. Assumes nothing.
use Prim.Native.Nat.{ℕ, ◌*◌, ◌^◌, ◌≤◌, ◌<◌}
use native.Mathlib.Nat as NatL
use native.Mathlib.Omega.{arith}
use Rattle.law.specs.declared.Lawful.{Lawful}
use Rattle.law.specs.Ranges.{LawIn}
use Rattle.law.proofs.Ranges.{law_in}

module _ (x : Lawful) where
  pub ranges : LawIn x.law
  ranges = rw x.is (law_in x.accepted)

  pub depth_in : (0 < x.law.d) × (x.law.d ≤ 1000)
  depth_in = ranges.d

  -- b d
  pub web_in : (0 < x.section.b * x.law.d) × (x.section.b * x.law.d ≤ 2000000)
  web_in =
      let width = x.accepted.sizes.0 in
      (NatL.mul-pos (omega arith) depth_in.0, NatL.mul-le-mul {n₂ = 2000} {m₂ = 1000} width.1 depth_in.1)

  pub stirrups_most : x.section.asw < 65536 → 9 * x.section.asw * x.law.d * x.law.fyd ≤ 9 * 65535 * 1000 * 521739
  stirrups_most few =
      NatL.mul-le-mul (NatL.mul-le-mul {n₂ = 9 * 65535} {m₂ = 1000} (omega arith) depth_in.1) ranges.fyd.1

-- what c³ b d is held to
pub steel_product : (steel fck : ℕ) → steel ≤ 65535 * 8 → fck ≤ 50 → 100000000000 * steel * fck < 2 ^ 63
steel_product steel fck h k = omega (arith, NatL.mul-le-mul {n₂ = 65535 * 8} {m₂ = 50} h k)
