-- `strip_sums`: running sums over the strips.
use Rattle.forces.specs.Forces.{strip_force, strip_moment}
use Rattle.forces.specs.Code.{Summed}
use Rattle.forces.proofs.strip_sums.Given as goal

abbrev pub invariant-loop-i : goal.invariant-loop-i
invariant-loop-i l =
    Summed l.i (strip_force l.of.law l.section l.axis.x) (strip_moment l.of.law l.section l.axis.x) l.sums.force l.sums.moment
