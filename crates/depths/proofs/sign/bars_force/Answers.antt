-- `bars_force`: a running sum over the layers (Bars).
use Prim.Native.Nat.{◌+◌, ◌*◌, ◌^◌, ◌<◌}
use native.Mathlib.Omega.{arith}
use lib.IntN.{◌*ℤ◌}
use lib.ListN.{length-take}
use mir.Syntax.{w64}
use mir.Val.{to_z}
use Rattle.arith.proofs.Machine.{back, Stands, stands_fits, stands_for}
use Rattle.arith.proofs.Sums.{running_none, running_fits, running_next, running_all}
use Rattle.section.specs.declared.Layer.{Layer}
use Rattle.law.specs.Law.{law_of}
use Rattle.forces.specs.Forces.{bar_force}
use Rattle.depths.proofs.Bars.{layer, bar_stands}
use Rattle.depths.proofs.sign.bars_force.Goals as goal
use Rattle.depths.proofs.sign.bars_force.Goals.{After-bar}

-- the force of the layer in this turn
force :
    (c : After-bar)
    → let s = c.args.lawful.now.section in
    let j = c.loop-layer.layer-index in
    Stands (to_z w64 (layer s j).area *ℤ back c.bar.result) (bar_force (law_of s) s c.args.axis.x j) (65535 * 521739)
force c =
    let l = c.args.lawful.now in
    bar_stands l.accepted l.is c.args.axis c.requires c.loop-layer.layer-index (omega (arith, length-take {A = Layer})) (omega arith) c.bar.ensures

few : (c : After-bar) → 65535 * 521739 * (c.loop-layer.layer-index + 1) < 2 ^ 63
few c = omega (arith, length-take {A = Layer}, c.args.lawful.now.accepted.bars.0.few)

pub loop-layer-init : goal.loop-layer-init
loop-layer-init c = running_none _ _

pub overflow_mul-sum : goal.overflow_mul-sum
overflow_mul-sum c = stands_fits (force c) (omega arith)

pub overflow_add-sum : goal.overflow_add-sum
overflow_add-sum c = let f = stands_for (force c) in running_fits c.loop-layer.invariant _ f.0 f.1 (few c)

pub loop-layer-preserved : goal.loop-layer-preserved
loop-layer-preserved c = let f = stands_for (force c) in running_next c.loop-layer.invariant _ f.0 f.1 (few c)

pub returns : goal.returns
returns c =
    let few = c.args.lawful.now.accepted.bars.0.few in
    running_all c.args.lawful.now.section.count 8 c.loop-layer.invariant (omega (arith, length-take {A = Layer})) few
