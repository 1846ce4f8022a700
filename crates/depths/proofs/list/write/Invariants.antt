-- `List::write`: the row begins with the words of the list so far.
use Prim.Native.Nat.{◌*◌}
use mathlib.Core.Path.{◌≡◌}
use mathlib.Core.List.{◌++◌}
use lib.ListN.{length, drop}
use Rattle.forces.specs.Forces.{moment}
use Rattle.depths.specs.Depths.{kind_at, list_to, words}
use Rattle.depths.proofs.list.write.Given as goal

abbrev pub invariant-loop-i : goal.invariant-loop-i
invariant-loop-i l =
    let so_far = list_to (kind_at l.lawful.section) (moment l.lawful.section) l.i in
    (l.at ≡ 3 * length so_far) × (l.row ≡ words so_far ++ drop l.at l.fn.row)
