-- `Run::force`: so many times the bounds of a run (Within).
use Prim.Native.Nat.{◌-◌}
use native.Mathlib.Omega.{arith}
use Rattle.arith.specs.Sums.{sum_z, after}
use Rattle.arith.proofs.Machine.{stands_fits}
use Rattle.strips.specs.Strips.{strip_at}
use Rattle.strips.specs.Code.{Holds}
use Rattle.strips.proofs.Within.{bounds_hold}
use Rattle.depths.proofs.Within.{times, run_lies}
use Rattle.depths.proofs.sign.Run.force.Goals as goal
use Rattle.depths.proofs.sign.Run.force.Goals.{After-bounds-run}

held : (c : After-bounds-run) → let r = c.args.self in Holds (sum_z (r.end - r.from) (after r.from (strip_at c.args.law c.args.axis))) c.bounds-run.result
held c = let r = c.args.self in rw c.bounds-run.ensures (bounds_hold c.args.law c.args.axis r.from r.end c.requires.1 (omega arith))

pub overflow_mul-result : goal.overflow_mul-result
overflow_mul-result c = stands_fits (times c.requires.0 c.bounds-run.result.low (held (goal.at.overflow_mul-result c).After-bounds-run).low_most) (omega arith)

pub overflow_mul-result-2 : goal.overflow_mul-result-2
overflow_mul-result-2 c =
    stands_fits (times c.requires.0 c.bounds-run.result.high (held (goal.at.overflow_mul-result-2 c).After-bounds-run).high_most) (omega arith)

pub returns : goal.returns
returns c = run_lies c.requires.0 _ (held (goal.at.returns c).After-bounds-run)
