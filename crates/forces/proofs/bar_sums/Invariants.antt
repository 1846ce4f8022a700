-- `bar_sums`: running sums over the layers.
use Rattle.forces.specs.Forces.{bar_force, bar_moment}
use Rattle.forces.specs.Code.{Summed}
use Rattle.forces.proofs.bar_sums.Given as goal

abbrev pub invariant-loop-layer : goal.invariant-loop-layer
invariant-loop-layer l =
    let s = l.fn.of.section in
    Summed l.layer-index (bar_force l.fn.of.law s l.axis.x) (bar_moment l.fn.of.law s l.axis.x) l.sums.force l.sums.moment
