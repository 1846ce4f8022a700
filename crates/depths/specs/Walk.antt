-- The walk from one listed depth to the next. No public contract cites it.
use Rattle.std.specs.Prelude.{◌+◌, ◌≡◌, ℕ, Option, MatchOption}
use Rattle.section.specs.Has.{last_depth}
use Rattle.depths.specs.declared.walk.Listed.{Listed}
use Rattle.depths.specs.declared.walk.Walk.{Walk}
use Rattle.depths.specs.Code.{open_from, NoneTo, Next}

-- the first depth whose kind is not known yet
abbrev pub open_at : Walk → ℕ
open_at w = open_from w.looked w.sign

-- the next listed depth, or none, and then the whole grid was looked at
abbrev pub NextListed : Walk → Option Listed → Walk → Type 0
NextListed w found after =
    (after.lawful.section ≡ w.lawful.section)
    × MatchOption found ((after.looked ≡ last_depth w.lawful.section) × NoneTo w.lawful.section (open_at w) (last_depth w.lawful.section + 1))
    (λ l. Next w.lawful.section (open_at w) l after.looked after.sign)
