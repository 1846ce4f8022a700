-- The axial load as the code has it: read from its 32 bits, then in mN. Assumes nothing.
use Prim.Native.Nat.{◌*◌}
use native.Mathlib.Omega.{arith}
use lib.IntN.{ℤ, pos, ◌*ℤ◌}
use mir.Syntax.{w32}
use mir.Val.{to_z, of_z}
use Rattle.arith.proofs.Machine.{back, Stands, stands, stands_i32, stands_mul, stored}
use Rattle.section.specs.declared.Section.{Section}
use Rattle.section.specs.Accepted.{Accepted}
use Rattle.section.specs.Has.{load_of}

abbrev pub load_held : Section → ℤ
load_held s = to_z w32 (of_z w32 s.load)

module _ {s : Section} (a : Accepted s) where
  pub load_held_is : Stands (load_held s) s.load 10000000
  load_held_is = stands_i32 s.load 10000000 a.load (omega arith)

  pub load_in_m_n : Stands (pos 1000 *ℤ back (load_held s)) (load_of s) (1000 * 10000000)
  load_in_m_n = stands_mul (stands (pos 1000) 1000 (omega arith)) (stored load_held_is (omega arith))
