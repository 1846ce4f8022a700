-- `Walk::next`: one depth more is looked at in each turn (Next).
use mathlib.Core.Path.{◌≡◌}
use Rattle.depths.specs.Code.{Walked}
use Rattle.depths.specs.Walk.{open_at}
use Rattle.depths.proofs.walk.WalkIterator.next.Given as goal

abbrev pub invariant-loop-looked : goal.invariant-loop-looked
invariant-loop-looked l =
    (l.self.lawful.section ≡ l.fn.self.lawful.section)
    × (l.looked ≡ l.self.looked)
    × Walked l.fn.self.lawful.section (open_at l.fn.self) l.self.looked l.self.sign
