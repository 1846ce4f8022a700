-- `read_full`: what is filled lies in the space.
use Rattle.std.proofs.Common.{length, ◌-◌, ◌≤◌}
use Rattle.booklines.proofs.read_full.Given as goal

abbrev pub invariant-loop-n : goal.invariant-loop-n
invariant-loop-n g l = l.done ≤ length l.space

abbrev pub decreases-loop-n : goal.decreases-loop-n
decreases-loop-n g l = length l.space - l.done
