-- What 21 and 22 decide; a series that passes both, and 23. Assumes nothing.
use Prim.Native.Nat.{ℕ, ◌+◌, ◌≤◌, ◌<◌}
use mathlib.Core.Path.{◌≡◌, refl, ◌∙◌}
use mathlib.Core.Bool.{Bool, true, false, cond, ◌&&◌, false≢true}
use mathlib.Core.Logic.{◌⊎◌, inl, inr, ⊎_elim}
use mathlib.Core.List.{List, [], ◌∷◌}
use native.Mathlib.Omega.{arith}
use lib.Dec.{ltb, eqb}
use lib.ListN.{length}
use borrow.Author.Tests.{ltb-true, lt-ltb, eqb-true, eqb-false}
use Rattle.arith.specs.Lines.{within, Between}
use Rattle.arith.proofs.Tests.{both, all_below_is, below_all, Decides, is_most, is_both}
use Rattle.arith.proofs.Lines.{between, passes}
use Rattle.arith.proofs.Chains.{all_by_place}
use Rattle.strength.specs.Strength.{numbers, fractiles, under, t10_of, mean_of, series_a, series_g}
use Rattle.strength.specs.Strength.{right_at, results_right, strength_refusal, OneOf, NumberIn, ResultsIn, ValueIn}
use Rattle.strength.specs.Code.{SeriesIn, all_in_range}

-- ---- 21: each number of Table 2 has a t10, and no other has
paired : List ℕ → List ℕ → Bool
paired [] ts = true
paired (k ∷ ks) [] = false
paired (k ∷ ks) (t ∷ ts) = (within 3 15 k && within 1 189 t) && paired ks ts

record Tabled (n : ℕ) (P : Type 0) (t : ℕ) : Type 0 where
  has : Decides (ltb 0 t) P
  most : t ≤ 189
  inside : P → Between 3 15 n

column :
    (n k t : ℕ) {P : Type 0} {below : ℕ} (same : Bool) → eqb n k ≡ same → Between 3 15 k × Between 1 189 t → Tabled n P below
    → Tabled n ((n ≡ k) ⊎ P) (cond same t below)
column n k t true e range rest = record {
  has = (λ h. inl (eqb-true n k e), λ h. lt-ltb 0 t range.1.0);
  most = range.1.1;
  inside = λ h. rw (eqb-true n k e) range.0;
}
column n k t false e range rest = record {
  has = (λ h. inr (rest.has.0 h), ⊎_elim (λ is. absurd (eqb-false n k e is)) rest.has.1);
  most = rest.most;
  inside = ⊎_elim (λ is. rw is range.0) rest.inside;
}

tabled : (n : ℕ) (ks ts : List ℕ) → paired ks ts ≡ true → Tabled n (OneOf ks n) (under ks ts n)
unfolding under paired
tabled n [] ts p = record { has = (λ h. absurd (omega (arith, ltb-true 0 0 h)), λ h. absurd h); most = omega arith; inside = λ h. absurd h }
tabled n (k ∷ ks) [] p = absurd (false≢true p)
tabled n (k ∷ ks) (t ∷ ts) p =
    let b = both (within 3 15 k && within 1 189 t) (paired ks ts) p in
    column n k t (eqb n k) refl ((is_both (between 3 15 k) (between 1 189 t)).0 b.0) (tabled n ks ts b.1)

in_table : (n : ℕ) → Tabled n (OneOf numbers n) (t10_of n)
unfolding t10_of numbers fractiles paired
in_table n = tabled n numbers fractiles refl

pub number_is : (rs : List ℕ) → Decides (ltb 0 (t10_of (length rs))) (NumberIn rs)
number_is rs = (in_table (length rs)).has

pub t10_most : (n : ℕ) → t10_of n ≤ 189
t10_most n = (in_table n).most

-- ---- 22
pub results_are : (rs : List ℕ) → Decides (results_right rs) (ResultsIn rs)
results_are rs = (
  λ e i h. (between 1 20000 _).0 (all_below_is (length rs) (right_at rs) e i h),
  λ w. below_all (length rs) (right_at rs) (λ i h. (between 1 20000 _).1 (w i h)),
)

-- ---- both, and 23
pub series_in : (rs : List ℕ) → NumberIn rs → ResultsIn rs → SeriesIn rs
series_in rs number each = let p = (in_table (length rs)).inside number in record { some = p.0; few = p.1; each = each }

pub in_range_is : (rs : List ℕ) → results_right rs ≡ all_in_range rs
in_range_is rs = all_by_place (within 1 20000) rs

pub series_by : (rs : List ℕ) → 0 < t10_of (length rs) → all_in_range rs ≡ true → SeriesIn rs
series_by rs number right = series_in rs ((number_is rs).0 (lt-ltb 0 _ number)) ((results_are rs).0 (in_range_is rs ∙ right))

pub passes_all : (rs : List ℕ) → strength_refusal rs ≡ 0 → SeriesIn rs × ValueIn rs
unfolding strength_refusal
passes_all rs none =
    let a = passes 20 _ (number_is rs) none in
    let b = passes 21 _ (results_are rs) a.1 in
    (series_in rs a.0 b.0, (passes 22 0 (is_most (series_a rs + series_g rs) (mean_of rs)) b.1).0)
