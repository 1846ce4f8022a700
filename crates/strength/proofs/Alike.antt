-- A series of equal results: nothing deviates, and nothing is taken off. Assumes nothing.
use Prim.Native.Nat.{ℕ, ◌+◌, ◌*◌, ◌-◌, ◌/◌, ◌<◌}
use mathlib.Core.Path.{◌≡◌, refl, sym, ap, ◌∙◌}
use mathlib.Core.Bool.{false}
use mathlib.Core.List.{List}
use native.Mathlib.Nat as NatL
use native.Mathlib.Omega.{arith}
use lib.ListN.{length, get_or}
use borrow.Author.Tests.{ltb-true}
use Rattle.arith.specs.Lines.{Between}
use Rattle.arith.specs.Sums.{placed, sum_over}
use Rattle.arith.proofs.Sums.{sum_same, sum_alike}
use Rattle.arith.proofs.Largest.{found}
use Rattle.arith.proofs.Least.{least_found, least_none, multiple_climbs}
use Rattle.roots.proofs.Powers.{raised_climbs}
use Rattle.strength.specs.Strength.{t10_of, mean_of, distance, square_from, squares_of, deviation_of, g_of, series_a, series_g}
use Rattle.strength.specs.Strength.{NumberIn, answered, strength_refusal, strength_of}
use Rattle.strength.specs.Code.{SeriesIn}
use Rattle.strength.proofs.Formula.{a_none}
use Rattle.strength.proofs.Refused.{number_is, results_are, series_in}
use Rattle.strength.proofs.Answers.{Found, a_is, g_is, by_none}

module _ (rs : List ℕ) (r : ℕ) (number : NumberIn rs) (range : Between 1 20000 r) (all : (i : ℕ) → i < length rs → get_or rs i 0 ≡ r) where
  series : SeriesIn rs
  series = series_in rs number (λ i h. rw (all i h) range)

  -- a sum over them is as many times one of them
  sum_equal : (f : ℕ → ℕ) → sum_over f rs ≡ f r * length rs
  sum_equal f = sum_same (placed f rs) (λ i. f r) (length rs) (λ i h. ap f (all i h)) ∙ sum_alike (length rs) (f r)

  mean_equal : r ≡ mean_of rs
  unfolding mean_of
  mean_equal = sym (ap (λ n. n / length rs) (sum_equal (λ n. n)) ∙ NatL.mul-div_cancel r (omega (arith, series.some)))

  squares_none : 0 ≡ squares_of r rs
  unfolding squares_of
  squares_none =
      let level : distance r r ≡ 0 = omega arith in
      sym (sum_equal (square_from r) ∙ ap (λ d. d * d * length rs) level ∙ NatL.zero-mul (length rs))

  deviation_none : 0 ≡ deviation_of (length rs) (squares_of r rs)
  unfolding deviation_of
  deviation_none =
      let c = raised_climbs false (length rs - 1) (omega (arith, series.some)) in
      rw (← squares_none) (found c (record { fits = omega (arith, NatL.zero-mul (length rs - 1)); most = λ k h. omega (arith, c.above k) }))

  g_none : 0 ≡ g_of r 0 0
  unfolding g_of
  g_none = least_found (multiple_climbs (200 * r) (omega (arith, range.0))) (rw (NatL.zero-mul (r + 0)) (least_none _))

  equal : Found rs r 0 0 0
  equal = record {
    mean = mean_equal;
    deviation = deviation_none;
    first = a_none (length rs) 0 _ series.some refl (ap (λ m. m * m) (NatL.zero-mul (t10_of (length rs))));
    second = g_none;
  }

  pub equal_answer : (strength_refusal rs ≡ 0) × (strength_of rs ≡ answered r 0 r) × (series_a rs ≡ 0) × (series_g rs ≡ 0)
  equal_answer =
      let some : 0 < t10_of (length rs) = ltb-true 0 _ ((number_is rs).1 number) in
      let right = (results_are rs).1 series.each in
      let whole : r - 0 - 0 ≡ r = omega arith in
      let passes = by_none rs some right equal (omega arith) in
      (passes.0, sym passes.1 ∙ ap (answered r 0) whole, sym (a_is equal), sym (g_is equal))
