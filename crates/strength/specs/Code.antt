-- What the private functions are handed and refuse. No public contract cites it.
use Rattle.std.specs.Prelude.{ℕ, ◌≤◌, Bool, List, length, ltb}
use Rattle.std.specs.List.{list_all}
use Rattle.arith.specs.Lines.{line, within}
use Rattle.strength.specs.Strength.{t10_of, ResultsIn}

-- a series that 21 and 22 pass
pub record SeriesIn (rs : List ℕ) : Type 0 where
  pub some : 3 ≤ length rs
  pub few : length rs ≤ 15
  pub each : ResultsIn rs

abbrev pub all_in_range : List ℕ → Bool
all_in_range rs = list_all (within 1 20000) rs

unfoldable pub series_refusal : List ℕ → ℕ
series_refusal rs =
    line (ltb 0 (t10_of (length rs))) 21
    (line (all_in_range rs) 22
    0)
