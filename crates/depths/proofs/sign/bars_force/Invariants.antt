-- `bars_force`: a running sum over the layers.
use Prim.Native.Nat.{◌*◌}
use Rattle.arith.proofs.Sums.{Running}
use Rattle.law.specs.Law.{law_of}
use Rattle.forces.specs.Forces.{bar_force}
use Rattle.depths.proofs.sign.bars_force.Given as goal

abbrev pub invariant-loop-layer : goal.invariant-loop-layer
invariant-loop-layer l = Running (bar_force (law_of l.lawful.section) l.lawful.section l.axis.x) (65535 * 521739) l.layer-index l.sum
