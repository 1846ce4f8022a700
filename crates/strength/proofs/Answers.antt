-- The ways out: each is a line of the rule. Assumes nothing.
use Prim.Native.Nat.{ℕ, ◌+◌, ◌-◌, ◌≤◌, ◌<◌}
use mathlib.Core.Path.{◌≡◌, refl, sym, ap, ◌∙◌}
use mathlib.Core.Bool.{Bool, true, false}
use mathlib.Core.List.{List}
use native.Mathlib.Omega.{arith}
use lib.Dec.{ltb, leb}
use lib.ListN.{length}
use Rattle.arith.specs.Lines.{line}
use borrow.Author.Tests.{ltb-true, lt-ltb, le-ltb, le-leb, lt-leb}
use Rattle.strength.specs.Strength.{t10_of, mean_of, squares_of, deviation_of, a_of, g_of, series_deviation, series_a, series_g}
use Rattle.strength.specs.Strength.{results_right, strength_refusal, answered, strength_of}
use Rattle.strength.specs.Code.{all_in_range, series_refusal}
use Rattle.strength.proofs.Refused.{in_range_is}

-- the numbers of a series, one found by the other
pub record Found (rs : List ℕ) (f s a g : ℕ) : Type 0 where
  pub mean : f ≡ mean_of rs
  pub deviation : s ≡ deviation_of (length rs) (squares_of f rs)
  pub first : a ≡ a_of (length rs) s
  pub second : g ≡ g_of f s a

module _ {rs : List ℕ} {f s a g : ℕ} (w : Found rs f s a g) where
  deviation_is : s ≡ series_deviation rs
  deviation_is = w.deviation ∙ ap (λ m. deviation_of (length rs) (squares_of m rs)) w.mean

  pub a_is : a ≡ series_a rs
  a_is = w.first ∙ ap (a_of (length rs)) deviation_is

  pub g_is : g ≡ series_g rs
  g_is = w.second ∙ λ j. g_of (w.mean j) (deviation_is j) (a_is j)

module _ (rs : List ℕ) where
  pub by_21 : t10_of (length rs) ≤ 0 → strength_refusal rs ≡ 21
  unfolding strength_refusal
  by_21 none = rw (le-ltb 0 (t10_of (length rs)) none)

  module _ (number : 0 < t10_of (length rs)) where
    pub by_22 : results_right rs ≡ false → strength_refusal rs ≡ 22
    unfolding strength_refusal
    by_22 wrong = rw (lt-ltb 0 (t10_of (length rs)) number, wrong)

    module _ {f s a g : ℕ} (right : results_right rs ≡ true) (w : Found rs f s a g) where
      pub by_23 : f < a + g → strength_refusal rs ≡ 23
      unfolding strength_refusal
      by_23 below =
          let more : mean_of rs < series_a rs + series_g rs = omega (arith, w.mean, a_is w, g_is w) in
          rw (lt-ltb 0 (t10_of (length rs)) number, right, lt-leb (series_a rs + series_g rs) (mean_of rs) more)

      pub by_none : a + g ≤ f → (strength_refusal rs ≡ 0) × (answered f s (f - a - g) ≡ strength_of rs)
      unfolding strength_refusal strength_of
      by_none fits =
          let less : series_a rs + series_g rs ≤ mean_of rs = omega (arith, w.mean, a_is w, g_is w) in (
            rw (lt-ltb 0 (t10_of (length rs)) number, right, le-leb (series_a rs + series_g rs) (mean_of rs) less),
            λ j. answered (w.mean j) (deviation_is w j) (w.mean j - a_is w j - g_is w j),
          )

  -- the first two lines are a series' own
  pub refused_early : (n : ℕ) → 0 < n → n ≡ series_refusal rs → n ≡ strength_refusal rs
  unfolding strength_refusal series_refusal
  refused_early n some is =
      is ∙ rw (in_range_is rs) (early (ltb 0 (t10_of (length rs))) (all_in_range rs) (leb (series_a rs + series_g rs) (mean_of rs)) (omega (arith, is)))
    where
      early : (a b c : Bool) → 0 < line a 21 (line b 22 0) → line a 21 (line b 22 0) ≡ line a 21 (line b 22 (line c 23 0))
      early false b c h = refl
      early true false c h = refl
      early true true c h = absurd (omega arith)

  -- a series that passes them is refused by 23, or answered
  module _ (passes : series_refusal rs ≡ 0) where
    numbered : (0 < t10_of (length rs)) × (results_right rs ≡ true)
    unfolding series_refusal
    numbered = rw (in_range_is rs) (both (ltb 0 (t10_of (length rs))) (all_in_range rs) refl refl passes)
      where
        both : (a b : Bool) → ltb 0 (t10_of (length rs)) ≡ a → all_in_range rs ≡ b → line a 21 (line b 22 0) ≡ 0 → (0 < t10_of (length rs)) × (all_in_range rs ≡ true)
        both false b e k h = absurd (omega arith)
        both true false e k h = absurd (omega arith)
        both true true e k h = (ltb-true 0 _ e, k)

    module _ {f s a g : ℕ} (w : Found rs f s a g) where
      pub refused_late : f < a + g → 23 ≡ strength_refusal rs
      refused_late below = sym (by_23 numbered.0 numbered.1 w below)

      pub answered_by : (v : ℕ) → v + (a + g) ≡ f → (strength_refusal rs ≡ 0) × (answered f s v ≡ strength_of rs)
      answered_by v is =
          let r = by_none numbered.0 numbered.1 w (omega arith) in
          let e : v ≡ f - a - g = omega arith in
          (r.0, ap (answered f s) e ∙ r.1)
