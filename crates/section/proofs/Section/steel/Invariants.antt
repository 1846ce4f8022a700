-- `Section::steel`: the layers passed, of those below mid-height.
use Prim.Native.Nat.{◌*◌, ◌≤◌}
use mathlib.Core.Path.{◌≡◌}
use Rattle.arith.specs.Sums.{sum_n}
use Rattle.section.specs.Has.{area_below, moment_below}
use Rattle.section.proofs.Section.steel.Given as goal

abbrev pub invariant-loop-layer : goal.invariant-loop-layer
invariant-loop-layer l = record {
  areas : l.area ≡ sum_n l.layer-index (area_below l.fn.self);
  area_most : l.area ≤ 65535 * l.layer-index;
  moments : l.moment ≡ sum_n l.layer-index (moment_below l.fn.self);
  moment_most : l.moment ≤ 4294836225 * l.layer-index;
}
