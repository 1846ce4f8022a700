-- What a good record is by itself: document 01's line 6 in its words.
use Rattle.std.specs.Prelude.{ℕ, ◌+◌, ◌≤◌, ◌<◌, ◌≡◌, List, length}
use Rattle.record.specs.Record.{le16_at, layers_end, layers_at, flange_at, size_at}

-- 6: a lone record has 24 + 4m bytes, and 4 more where hf is not 0; m is at most 8; and the zero behind bf is zero
abbrev pub StandsAlone : List ℕ → Type 0
StandsAlone r = (length r ≡ size_at r 0) × (layers_at r 0 ≤ 8) × (0 < flange_at r 0 → le16_at r (layers_end (layers_at r 0) + 2) ≡ 0)
