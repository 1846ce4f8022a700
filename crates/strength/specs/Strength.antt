-- Document 02 [7], from beams to strengths: formulas 5 and 6 of document 002, with its Table 2. Results and strengths in kPa.
use Rattle.std.specs.Prelude.{ℕ, ◌+◌, ◌*◌, ◌-◌, ◌/◌, ◌≤◌, ◌<◌, ◌≡◌, Bool, cond, ◌⊎◌, List, [], ◌∷◌, ltb, leb, eqb}
use Rattle.std.specs.Prelude.{length, get_or}
use Rattle.arith.specs.Below.{all_below}
use Rattle.arith.specs.Lines.{line, within, Between}
use Rattle.arith.specs.Sums.{sum_over}
use Rattle.arith.specs.Largest.{largest}
use Rattle.arith.specs.Least.{least, rounded_up}
use Rattle.strength.specs.declared.answer.Strength.{Strength}

-- ---- Table 2: n, and t10 under it, in hundredths
unfoldable pub numbers : List ℕ
numbers = 3 ∷ 4 ∷ 5 ∷ 6 ∷ 8 ∷ 10 ∷ 12 ∷ 15 ∷ []

unfoldable pub fractiles : List ℕ
fractiles = 189 ∷ 164 ∷ 153 ∷ 148 ∷ 142 ∷ 138 ∷ 136 ∷ 134 ∷ []

-- what stands under n, or 0 where n is not in the table
unfoldable pub under : List ℕ → List ℕ → ℕ → ℕ
under [] ts n = 0
under (k ∷ ks) [] n = 0
under (k ∷ ks) (t ∷ ts) n = cond (eqb n k) t (under ks ts n)

unfoldable pub t10_of : ℕ → ℕ
t10_of n = under numbers fractiles n

-- ---- f, the mean, rounded
unfoldable pub mean_of : List ℕ → ℕ
mean_of rs = sum_over (λ r. r) rs / length rs

-- ---- formula 6: s, the largest whole number with s² (n - 1) at most the sum of squared distances from that f
-- r - f or f - r: the other of the two is 0
abbrev pub distance : (f r : ℕ) → ℕ
distance f r = (r - f) + (f - r)

abbrev pub square_from : (f r : ℕ) → ℕ
square_from f r = distance f r * distance f r

unfoldable pub squares_of : ℕ → List ℕ → ℕ
squares_of f rs = sum_over (square_from f) rs

abbrev pub spread : (n s : ℕ) → ℕ
spread n s = s * s * (n - 1)

unfoldable pub deviation_of : (n squares : ℕ) → ℕ
deviation_of n squares = largest (spread n) squares

-- ---- formula 5: a for s t10 over the root of n, the least whole number with 10000 a² n at least (s t10)²
abbrev pub scaled : (n a : ℕ) → ℕ
scaled n a = a * a * (10000 * n)

unfoldable pub a_of : (n s : ℕ) → ℕ
a_of n s = least (scaled n) (s * t10_of n * (s * t10_of n))

-- g for 1.645 s (1 + a / f), rounded up: 1.645 is 329 / 200
unfoldable pub g_of : (f s a : ℕ) → ℕ
g_of f s a = rounded_up (329 * s * (f + a)) (200 * f)

-- ---- of a series: s, and a and g, which are taken off f
abbrev pub series_deviation : List ℕ → ℕ
series_deviation rs = deviation_of (length rs) (squares_of (mean_of rs) rs)

abbrev pub series_a : List ℕ → ℕ
series_a rs = a_of (length rs) (series_deviation rs)

abbrev pub series_g : List ℕ → ℕ
series_g rs = g_of (mean_of rs) (series_deviation rs) (series_a rs)

-- the characteristic value
abbrev pub series_value : List ℕ → ℕ
series_value rs = mean_of rs - series_a rs - series_g rs

-- ---- 21: a number of results that Table 2 does not have; 22: a result out of range; 23: a value that would be below 0
abbrev pub right_at : List ℕ → ℕ → Bool
right_at rs i = within 1 20000 (get_or rs i 0)

abbrev pub results_right : List ℕ → Bool
results_right rs = all_below (length rs) (right_at rs)

unfoldable pub strength_refusal : List ℕ → ℕ
strength_refusal rs =
    line (ltb 0 (t10_of (length rs))) 21
    (line (results_right rs) 22
    (line (leb (series_a rs + series_g rs) (mean_of rs)) 23
    0))

-- what 21, 22 and 23 ask for
abbrev pub OneOf : List ℕ → ℕ → Type 0
OneOf [] n = ⊥
OneOf (k ∷ ks) n = (n ≡ k) ⊎ OneOf ks n

abbrev pub NumberIn : List ℕ → Type 0
NumberIn rs = OneOf numbers (length rs)

abbrev pub ResultsIn : List ℕ → Type 0
ResultsIn rs = (i : ℕ) → i < length rs → Between 1 20000 (get_or rs i 0)

abbrev pub ValueIn : List ℕ → Type 0
ValueIn rs = series_a rs + series_g rs ≤ mean_of rs

-- ---- the answer
abbrev pub answered : (mean deviation value : ℕ) → Strength
answered mean deviation value = record { mean = mean; deviation = deviation; value = value }

unfoldable pub strength_of : List ℕ → Strength
strength_of rs = answered (mean_of rs) (series_deviation rs) (series_value rs)
