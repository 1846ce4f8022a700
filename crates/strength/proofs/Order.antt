-- The order of the results does not matter. Assumes nothing.
use Prim.Native.Nat.{ℕ, ◌+◌, ◌-◌, ◌/◌}
use mathlib.Core.Path.{◌≡◌, ap, ◌∙◌}
use mathlib.Core.List.{List}
use lib.Dec.{ltb, leb}
use Rattle.arith.specs.Lines.{line, within}
use Rattle.arith.specs.Rearranged.{Rearranged}
use Rattle.arith.proofs.Rearranged.{sum_rearranged, length_rearranged, test_rearranged}
use Rattle.strength.specs.Strength.{t10_of, mean_of, square_from, squares_of, deviation_of, a_of, g_of}
use Rattle.strength.specs.Strength.{series_deviation, series_a, series_g}
use Rattle.strength.specs.Strength.{strength_refusal, answered, strength_of}

module _ (rs qs : List ℕ) (same : Rearranged rs qs) where
  mean_same : mean_of rs ≡ mean_of qs
  unfolding mean_of
  mean_same = λ j. sum_rearranged (λ r. r) rs qs same j / length_rearranged rs qs same j

  squares_same : squares_of (mean_of rs) rs ≡ squares_of (mean_of qs) qs
  unfolding squares_of
  squares_same = ap (λ f. squares_of f rs) mean_same ∙ sum_rearranged (square_from (mean_of qs)) rs qs same

  -- an answer hangs on how many results there are, whether all are in range, their mean and the sum of squares
  deviation_same : series_deviation rs ≡ series_deviation qs
  deviation_same = λ j. deviation_of (length_rearranged rs qs same j) (squares_same j)

  a_same : series_a rs ≡ series_a qs
  a_same = λ j. a_of (length_rearranged rs qs same j) (deviation_same j)

  g_same : series_g rs ≡ series_g qs
  g_same = λ j. g_of (mean_same j) (deviation_same j) (a_same j)

  pub any_order : (strength_refusal rs ≡ strength_refusal qs) × (strength_of rs ≡ strength_of qs)
  unfolding strength_refusal strength_of
  any_order = (
    λ j.
        line (ltb 0 (t10_of (length_rearranged rs qs same j))) 21
        (line (test_rearranged (within 1 20000) rs qs same j) 22
        (line (leb (a_same j + g_same j) (mean_same j)) 23
        0)),
    λ j. answered (mean_same j) (deviation_same j) (mean_same j - a_same j - g_same j),
  )
