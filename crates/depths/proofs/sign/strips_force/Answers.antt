-- `strips_force`: run after run (Within).
use mathlib.Core.Path.{◌∙◌}
use Rattle.depths.proofs.Within.{summed_none, summed_run}
use Rattle.depths.proofs.sign.strips_force.Goals as goal

pub loop-run-init : goal.loop-run-init
loop-run-init c =
    let of = c.of-run-items.ensures in
    rw c.into_iter-run-iterator.ensures.into_iter_gives (tt, tt, of.0, rw of.1 summed_none)

pub loop-run-preserved : goal.loop-run-preserved
loop-run-preserved c =
    let i = c.loop-run.invariant in
    let next = c.in-Some.ensures.steps in
    (tt, tt, next.0 ∙ i.2, summed_run c.args.lawful.now.accepted c.args.lawful.now.is c.args.axis c.requires i.2 next i.3 c.force-force.ensures)
