-- Document 02 [7], from beams to strengths: that the order of the results does not matter, what equal results give, that the value is
-- at most the mean, and that nothing leaves 64 bits. What the answer satisfies stands in Demand2, what is refused in Demand1.
use Rattle.std.specs.Prelude.{ℕ, ◌+◌, ◌*◌, ◌^◌, ◌≤◌, ◌<◌, ◌≡◌, List, [], ◌∷◌, length, get_or, replicate, Result, Ok, Err, IfOk}
use Rattle.arith.specs.Lines.{Between}
use Rattle.arith.specs.Sums.{sum_over}
use Rattle.arith.specs.Rearranged.{Rearranged}
use Rattle.refusal.specs.declared.Refusal.{Refusal}
use Rattle.refusal.specs.declared.Refusal.TheVariants.{ResultCount, ResultRange, BelowZero}
use Rattle.strength.specs.declared.answer.Strength.{Strength}
use Rattle.strength.specs.Strength.{t10_of, mean_of, squares_of, spread, scaled, series_deviation, series_a, series_g}
use Rattle.strength.specs.Strength.{NumberIn, ResultsIn}
use Rattle.panel.specs.declared.answers.StrengthAnswer.{StrengthAnswer}
use Rattle.demands.specs.Every as Every

-- ---- equal results, in number and in range: s is 0, a is 0, g is 0 and the value is the result
abbrev pub AllAre : ℕ → List ℕ → Type 0
AllAre r rs = (i : ℕ) → i < length rs → get_or rs i 0 ≡ r

pub record Level {X : Type 0} (answer : X) (rs : List ℕ) (x : X) : Type 0 where
  pub is : x ≡ answer
  pub a : series_a rs ≡ 0
  pub g : series_g rs ≡ 0

abbrev pub Equal : {X : Type 0} → (ℕ → X) → List ℕ → X → Type 0
Equal answer rs x = (r : ℕ) → NumberIn rs → Between 1 20000 r → AllAre r rs → Level (answer r) rs x

abbrev pub level : ℕ → Result Strength Refusal
level r = Ok (record { mean = r; deviation = 0; value = r })

abbrev pub face_level : ℕ → StrengthAnswer
face_level r = record { refusal = 0; mean = r; deviation = 0; value = r }

-- ---- 64 bits hold what the formulas add up, compare and divide; a quotient that is rounded up takes its divisor more
pub record In64 (rs : List ℕ) : Type 0 where
  pub sum : sum_over (λ r. r) rs < 2 ^ 64
  pub squares : squares_of (mean_of rs) rs < 2 ^ 64
  pub spread_is : spread (length rs) (series_deviation rs) < 2 ^ 64
  pub reach : series_deviation rs * t10_of (length rs) * (series_deviation rs * t10_of (length rs)) < 2 ^ 64
  pub scaled_is : scaled (length rs) (series_a rs) < 2 ^ 64
  pub margin : 329 * series_deviation rs * (mean_of rs + series_a rs) + 200 * mean_of rs < 2 ^ 64
  pub less : series_a rs + series_g rs < 2 ^ 64

-- ---- the request's figures; the first with its a and g
abbrev pub Gives : List ℕ → Result Strength Refusal → Type 0
Gives series answer = Every.strength (λ rs x. rs ≡ series → x ≡ answer)

abbrev pub beams : List ℕ
beams = 4000 ∷ 4200 ∷ 4400 ∷ []

abbrev pub StrengthFigures : Type 0
StrengthFigures =
    Gives beams (Ok (record { mean = 4200; deviation = 200; value = 3634 }))
    × (series_a beams ≡ 219)
    × (series_g beams ≡ 347)
    × Gives (1718 ∷ 2734 ∷ 3256 ∷ []) (Ok (record { mean = 2569; deviation = 782; value = 0 }))
    × Gives (2698 ∷ 4495 ∷ 5098 ∷ []) (Err BelowZero)
    × Gives (0 ∷ 1 ∷ 2 ∷ []) (Err ResultRange)
    × Gives (replicate 7 0) (Err ResultCount)
    × Gives [] (Err ResultCount)

pub record Request7 : Type 0 where
  -- of two calls, on the same results, each as often: the whole answer is the same, refusals included
  pub any_order : Every.strength (λ rs x. Every.strength (λ qs y. Rearranged rs qs → x ≡ y))
  pub fw_any_order : Every.fw_strength (λ rs x. Every.fw_strength (λ qs y. Rearranged rs qs → x ≡ y))
  pub equal : Every.strength (Equal level)
  pub fw_equal : Every.fw_strength (Equal face_level)
  -- by the C face, beside a refusal both are 0
  pub most : Every.strength (λ rs x. IfOk x (λ y. y.value ≤ y.mean))
  pub fw_most : Every.fw_strength (λ rs x. x.value ≤ x.mean)
  -- of every series that 21 and 22 pass
  pub in_64 : (rs : List ℕ) → NumberIn rs → ResultsIn rs → In64 rs
  pub figures : StrengthFigures
