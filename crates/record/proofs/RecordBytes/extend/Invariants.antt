-- `extend`: two bytes more in each turn.
use Rattle.std.proofs.Common.{◌≡◌, ◌++◌}
use Rattle.arith.specs.Joined.{joined}
use Rattle.record.specs.Filed.{number_bytes}
use Rattle.record.proofs.RecordBytes.extend.Given as goal

abbrev pub invariant-loop-number : goal.invariant-loop-number
invariant-loop-number l = l.self ≡ l.initial.self ++ joined (number_bytes l.numbers) l.number-index
