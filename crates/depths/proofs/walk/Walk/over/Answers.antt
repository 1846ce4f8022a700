-- `Walk::over`: none was looked at.
use mathlib.Core.Path.{refl}
use native.Mathlib.Omega.{arith}
use Rattle.depths.proofs.walk.Walk.over.Goals as goal

pub invariant_of-result : goal.invariant_of-result
invariant_of-result c = record { inside = omega arith; there = refl }
