-- Formulas 5 and 6, from what the code finds: the mean, roots by their digits, a quotient that is rounded up; how large they get.
-- Assumes nothing.
use Prim.Native.Nat.{ℕ, ◌+◌, ◌*◌, ◌-◌, ◌/◌, ◌^◌, ◌≤◌, ◌<◌}
use mathlib.Core.Path.{◌≡◌, refl, sym, ap, ◌∙◌, subst}
use mathlib.Core.Bool.{false}
use mathlib.Core.List.{List}
use native.Mathlib.Nat as NatL
use native.Mathlib.Omega.{arith}
use lib.ListN.{length, get_or}
use Rattle.std.specs.Int.{div_ceil}
use Rattle.std.specs.List.{sum, sum_by}
use Rattle.arith.specs.Sums.{placed, sum_over}
use Rattle.arith.specs.Least.{Least, least}
use Rattle.arith.proofs.Sums.{sum_under, sum_alike, sum_most}
use Rattle.arith.proofs.Chains.{sum_by_place}
use Rattle.arith.proofs.Largest.{Climbs}
use Rattle.arith.proofs.Least.{least_found, least_none, least_past, multiple_climbs, rounded_up_is, div_ceil_is}
use Rattle.roots.specs.Root.{raised, Root}
use Rattle.roots.proofs.Powers.{raised_climbs}
use Rattle.roots.proofs.Theorems.{root_below, root_found}
use Rattle.strength.specs.Strength.{t10_of, mean_of, distance, square_from, squares_of, deviation_of, scaled, a_of, g_of}
use Rattle.strength.specs.Code.{SeriesIn}

-- ---- the mean lies where the results lie
module _ {rs : List ℕ} (w : SeriesIn rs) where
  pub mean_some : 0 < mean_of rs
  unfolding mean_of
  mean_some =
      let low = sum_under (λ i. 1) (placed (λ r. r) rs) (length rs) (λ i h. (w.each i h).0) in
      let some : 0 < length rs = omega (arith, w.some) in
      (NatL.le-div_iff_mul-le {x = 1} some).1 (omega (arith, low, sum_alike (length rs) 1))

  pub total_most : sum_over (λ r. r) rs ≤ 20000 * length rs
  total_most = sum_most (length rs) 20000 (placed (λ r. r) rs) (λ i h. (w.each i h).1)

  pub mean_most : mean_of rs ≤ 20000
  unfolding mean_of
  mean_most = NatL.div-le_of_le-mul (length rs) (omega (arith, total_most))

  pub mean_by : (total : ℕ) → total ≡ sum rs → (total / length rs ≡ mean_of rs) × (0 < total / length rs) × (total / length rs ≤ 20000)
  unfolding mean_of
  mean_by total e = let is : total ≡ sum_over (λ r. r) rs = e ∙ sym (sum_by_place (λ r. r) rs) in rw is (refl, mean_some, mean_most)

  -- ---- a square, and their sum
  module _ (f : ℕ) (low : f ≤ 20000) where
    square_most : (i : ℕ) → i < length rs → placed (square_from f) rs i ≤ 400000000
    square_most i h =
        let away : distance f (get_or rs i 0) ≤ 20000 = omega (arith, w.each i h) in
        NatL.mul-le-mul {n₂ = 20000} {m₂ = 20000} away away

    pub squares_under : squares_of f rs ≤ 400000000 * length rs
    unfolding squares_of
    squares_under = sum_most (length rs) 400000000 (placed (square_from f) rs) square_most

    pub squares_by : (total : ℕ) → total ≡ sum_by (square_from f) rs → (total ≡ squares_of f rs) × (total ≤ 400000000 * length rs)
    unfolding squares_of
    squares_by total e =
        let is : total ≡ sum_over (square_from f) rs = e ∙ sym (sum_by_place (square_from f) rs) in
        (is, rw is squares_under)

    pub squares_fit : sum_by (square_from f) rs < 2 ^ 64
    squares_fit = omega (arith, (squares_by (sum_by (square_from f) rs) refl).1, w.few)

-- ---- s
pub deviation_root :
    (n squares s : ℕ) → 3 ≤ n → squares ≤ 400000000 * n → Root (raised false (n - 1)) (2 ^ 15) squares s
    → (s ≡ deviation_of n squares) × (s < 2 ^ 15)
unfolding deviation_of
deviation_root n squares s some few r =
    let c = raised_climbs false (n - 1) (omega arith) in
    (root_found c r (omega arith), root_below c r)

-- ---- a
module _ (n s t : ℕ) (some : 3 ≤ n) (is : t ≡ t10_of n) where
  abbrev reach : ℕ
  reach = s * t * (s * t)

  climbs : Climbs (scaled n)
  climbs = raised_climbs false (10000 * n) (omega arith)

  a_is : {a : ℕ} → Least (scaled n) reach a → a ≡ a_of n s
  unfolding a_of
  a_is l = least_found climbs l ∙ ap (λ t. least (scaled n) (s * t * (s * t))) is

  -- nothing is to be reached
  pub a_none : reach ≡ 0 → 0 ≡ a_of n s
  a_none none = a_is (rw none (least_none (scaled n)))

  pub a_past : (r : ℕ) → 0 < reach → reach ≤ 2 ^ 46 → Root (scaled n) (2 ^ 16) (reach - 1) r → (r + 1 ≡ a_of n s) × (r < 2 ^ 16)
  a_past r more few root =
      let past = least_past climbs (root.largest (omega arith)) in
      (a_is (subst (λ m. Least (scaled n) m (r + 1)) (NatL.sub-add_cancel more) past), root_below climbs root)

pub reach_most : (s t : ℕ) → s < 2 ^ 15 → t ≤ 189 → (s * t ≤ 2 ^ 23) × (s * t * (s * t) ≤ 2 ^ 46)
reach_most s t small low =
    let one : s * t ≤ 2 ^ 23 = NatL.le_trans (NatL.mul-le-mul {n₂ = 2 ^ 15} {m₂ = 189} (omega arith) low) (omega arith) in
    (one, NatL.mul-le-mul {n₂ = 2 ^ 23} {m₂ = 2 ^ 23} one one)

-- ---- g
module _ (f s a : ℕ) (some : 0 < f) where
  pub g_is : div_ceil (329 * s * (f + a)) (200 * f) ≡ g_of f s a
  unfolding g_of
  g_is =
      let m = 329 * s * (f + a) in
      let by = 200 * f in
      div_ceil_is m by (omega arith) ∙ least_found (multiple_climbs by (omega arith)) (rounded_up_is m by (omega arith))

  pub g_most : f ≤ 20000 → s < 2 ^ 15 → a ≤ 2 ^ 16 → 329 * s * (f + a) ≤ 2 ^ 40
  g_most low small few =
      NatL.le_trans (NatL.mul-le-mul {n₂ = 329 * 2 ^ 15} {m₂ = 20000 + 2 ^ 16} (omega arith) (omega arith)) (omega arith)
