-- That the definitions mean document 01's words: the roots are the largest of all numbers, and the axial share is rounded towards minus infinity.
-- Assumes nothing.
use Prim.Native.Nat.{ℕ, ◌*◌, ◌<◌}
use mathlib.Core.Bool.{true, false}
use native.Mathlib.Omega.{arith}
use lib.IntN.{pos, ◌*ℤ◌}
use Rattle.arith.specs.Floor.{RoundsDown}
use Rattle.arith.specs.Largest.{Largest, largest}
use Rattle.arith.proofs.Largest.{largest_is}
use Rattle.arith.proofs.Floor.{floor_is}
use Rattle.section.specs.declared.Section.{Section}
use Rattle.section.specs.Accepted.{Accepted}
use Rattle.section.specs.Has.{concrete_area, load_of}
use Rattle.section.proofs.Widths.{area_some}
use Rattle.shear.specs.Shear.{squared, cubed, axial_share}
use Rattle.roots.proofs.Powers.{raised_climbs}

-- the root of k, and both roots of c
pub square_root : (d bound : ℕ) → 0 < d → Largest (squared d) bound (largest (squared d) bound)
square_root d bound h = largest_is (raised_climbs false d h) (omega arith)

pub cube_root : (bd bound : ℕ) → 0 < bd → Largest (cubed bd) bound (largest (cubed bd) bound)
cube_root bd bound h = largest_is (raised_climbs true bd h) (omega arith)

-- 15 N over 100 times the true area
pub axial_floor : {s : Section} → Accepted s → RoundsDown (pos 15 *ℤ load_of s) (100 * concrete_area s) (axial_share s)
unfolding axial_share
axial_floor {s} a = floor_is (pos 15 *ℤ load_of s) (100 * concrete_area s) (omega (arith, area_some a))
