-- `strips_force`: run after run (Within).
use mathlib.Core.Path.{◌≡◌}
use Rattle.law.specs.Law.{law_of}
use Rattle.forces.specs.Forces.{strip_force}
use Rattle.depths.specs.Code.{Summed}
use Rattle.depths.proofs.sign.strips_force.Given as goal

abbrev pub invariant-loop-run : goal.invariant-loop-run
invariant-loop-run l =
    (goal.iterator-loop-run).can_next l.run-iterator
    × (goal.iterator-loop-run).is_finite l.run-iterator
    × (l.run-iterator.section ≡ l.lawful.section)
    × Summed l.lawful.section (strip_force (law_of l.lawful.section) l.lawful.section l.axis.x) l.run-iterator.from l.sum
