-- `Sums::add`: products and sums that 64 bits hold.
use Prim.Native.Nat.{◌+◌, ◌*◌}
use native.Mathlib.Omega.{arith}
use lib.IntN.{ℤ, pos, ◌+ℤ◌, ◌*ℤ◌}
use mir.Syntax.{w64}
use mir.Val.{to_z}
use Rattle.arith.proofs.Machine.{back, Stands, stands, stands_pos, stands_add, stands_mul, stands_fits, stored}
use Rattle.forces.specs.Code.{most_force, most_moment}
use Rattle.forces.proofs.Sums.add.Goals as goal
use Rattle.forces.proofs.Sums.add.Goals.{Start}

abbrev meant : Start → ℤ
meant c = pos c.args.area *ℤ c.args.stress

force : (c : Start) → Stands (to_z w64 c.args.area *ℤ back c.args.stress) (meant c) most_force
force c =
    stands_mul (stands_pos c.args.area 65535 (omega arith) (omega arith))
    (stored (stands c.args.stress 521739 c.requires.sizes.1) (omega arith))

turned : (c : Start)
    → Stands (back c.args.lever *ℤ back (to_z w64 c.args.area *ℤ back c.args.stress)) (c.args.lever *ℤ meant c) most_moment
turned c = stands_mul (stored (stands c.args.lever 1000 c.requires.sizes.0) (omega arith)) (stored (force c) (omega arith))

forces : (c : Start)
    → let z = c.args.self.now.force in
    Stands (back z +ℤ back (to_z w64 c.args.area *ℤ back c.args.stress)) (z +ℤ meant c) (most_force * 999 + most_force)
forces c = stands_add (stored (stands _ _ c.requires.room.0) (omega arith)) (stored (force c) (omega arith))

moments : (c : Start)
    → let z = c.args.self.now.moment in
    Stands
    (back z +ℤ back (back c.args.lever *ℤ back (to_z w64 c.args.area *ℤ back c.args.stress)))
    (z +ℤ (c.args.lever *ℤ meant c))
    (most_moment * 999 + most_moment)
moments c = stands_add (stored (stands _ _ c.requires.room.1) (omega arith)) (stored (turned c) (omega arith))

pub overflow_mul-self : goal.overflow_mul-self
overflow_mul-self c = stands_fits (turned (goal.at.overflow_mul-self c).Start) (omega arith)

pub overflow_add-self-2 : goal.overflow_add-self-2
overflow_add-self-2 c = stands_fits (moments (goal.at.overflow_add-self-2 c).Start) (omega arith)

pub returns-clause-force : goal.returns-clause-force
returns-clause-force c = (stored (forces (goal.at.returns-clause-force c).Start) (omega arith)).is

pub returns-clause-moment : goal.returns-clause-moment
returns-clause-moment c = (stored (moments (goal.at.returns-clause-moment c).Start) (omega arith)).is
