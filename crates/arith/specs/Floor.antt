-- Division that rounds towards minus infinity.
use Rattle.std.specs.Prelude.{ℕ, ◌/◌, ℤ, pos, negsuc, ◌+ℤ◌, ◌*ℤ◌, ◌≤ℤ◌, ◌<ℤ◌}

-- -(a + 1) / d is -(a / d + 1), rounded down: from -d to -1 that is -1
unfoldable pub floor_div : ℤ → ℕ → ℤ
floor_div (pos a) d = pos (a / d)
floor_div (negsuc a) d = negsuc (a / d)

-- and what q then is: d q ≤ z < d q + d
abbrev pub RoundsDown : ℤ → ℕ → ℤ → Type 0
RoundsDown z d q = ((pos d *ℤ q) ≤ℤ z) × (z <ℤ ((pos d *ℤ q) +ℤ pos d))
