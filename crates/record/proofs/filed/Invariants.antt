-- `filed`: two numbers more in each turn.
use Rattle.std.proofs.Common.{◌≡◌, ◌+◌, ◌*◌, ◌≤◌, length}
use Rattle.arith.specs.Joined.{joined}
use Rattle.record.specs.Filed.{places_of, number_bytes}
use Rattle.record.proofs.filed.Given as goal

abbrev pub invariant-loop-layer : goal.invariant-loop-layer
invariant-loop-layer l = record {
  few : l.fn.s.count ≤ 8;
  each : length l.layers ≡ l.fn.s.count;
  long : length l.record ≡ 24 + 4 * l.layer-index;
  so_far : l.record ≡ joined (number_bytes (places_of l.fn.s)) (12 + 2 * l.layer-index);
}
