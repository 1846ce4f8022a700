-- `kinds`: from one listed depth to the next (Kept).
use Prim.Native.Nat.{◌<◌}
use mathlib.Core.Path.{◌≡◌}
use lib.ListN.{length}
use Rattle.std.specs.Prelude.{map}
use Rattle.depths.specs.Code.{marked, Kept}
use Rattle.depths.specs.Walk.{open_at}
use Rattle.depths.proofs.list.kinds.Given as goal

abbrev pub invariant-loop-listed : goal.invariant-loop-listed
invariant-loop-listed l =
    let w = l.listed-iterator in
    (goal.iterator-loop-listed).can_next w
    × (goal.iterator-loop-listed).is_finite w
    × (length l.kinds ≡ 1000)
    × (w.lawful.section ≡ l.lawful.section)
    × (0 < open_at w)
    × Kept l.lawful.section (open_at w) (map marked l.kinds)
