-- Lines of a table of refusals: what one tests, and which of two is returned.
use Rattle.std.specs.Prelude.{ℕ, ◌≤◌, Bool, cond, ◌&&◌, leb, eqb}

-- a line: its number where its test fails, else what the lines below it say
abbrev pub line : Bool → ℕ → ℕ → ℕ
line passes number below = cond passes below number

-- a refusal, or where there is none the one that is tested after it
abbrev pub first_of : ℕ → ℕ → ℕ
first_of refusal next = cond (eqb refusal 0) next refusal

-- a range, as a test and as what it asks for
abbrev pub within : ℕ → ℕ → ℕ → Bool
within low high n = leb low n && leb n high

abbrev pub Between : ℕ → ℕ → ℕ → Type 0
Between low high n = (low ≤ n) × (n ≤ high)
