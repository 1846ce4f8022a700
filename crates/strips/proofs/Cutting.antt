-- Where the places of a run pass a limit, and a run's places as strips. Assumes nothing.
use Prim.Native.Nat.{ℕ, ◌+◌, ◌*◌, ◌-◌, ◌/◌, ◌≤◌, ◌<◌}
use Rattle.std.proofs.Common.{min, max}
use mathlib.Core.Path.{◌≡◌, sym, ap, ◌∙◌}
use mathlib.Core.Bool.{Bool, true, false}
use native.Mathlib.Nat as NatL
use native.Mathlib.Omega.{arith}
use Rattle.arith.specs.Sums.{sum_n, after}
use Rattle.arith.proofs.Sums.{sum_same, sum_back, run_same}
use Rattle.law.specs.declared.Law.{Law}
use Rattle.law.specs.Stress.{size, concrete}
use Rattle.law.proofs.Sizes.{small_is, sized}
use Rattle.strips.specs.declared.Axis.{Axis}
use Rattle.strips.specs.Strips.{middle, reach, strip_size}
use Rattle.strips.specs.Bounds.{cut_at}
use Rattle.strips.specs.Code.{Near, Fit}

-- ---- the j-th place is within the limit where its 2 j + 1 is at most the quotient
pub record Cut (limit rate from to at : ℕ) : Type 0 where
  pub between : (from ≤ at) × (at ≤ to)
  pub inside : (j : ℕ) → from ≤ j → j < at → rate * middle j ≤ limit
  pub outside : (j : ℕ) → at ≤ j → j < to → limit < rate * middle j

pub cuts : {at : ℕ} (limit rate from to : ℕ) → 0 < rate → from ≤ to → at ≡ cut_at limit rate from to → Cut limit rate from to at
cuts limit rate from to some h e = record {
  between = (omega arith, omega arith);
  inside = λ j p q.
      let odd : middle j ≤ limit / rate = omega arith in
      omega (arith, NatL.mul-le-mul_left rate odd, NatL.mul-div-le limit rate);
  outside = λ j p q.
      let odd : limit / rate + 1 ≤ middle j = omega arith in
      omega (arith, NatL.mul-le-mul_left rate odd, NatL.lt-mul-div-succ limit some);
}

-- ---- a run, by another name for its terms
pub near_same :
    {n r : ℕ} (f g : ℕ → ℕ) (from to : ℕ)
    → ((j : ℕ) → from ≤ j → j < to → f j ≡ g j)
    → Near (sum_n (to - from) (after from f)) n r
    → Near (sum_n (to - from) (after from g)) n r
near_same f g from to h p = rw (run_same f g from to h) at p

-- ---- strips by their places from the axis
-- the rounded stress of the one at place j
abbrev pub place_at : Law → Bool → Axis → ℕ → ℕ
place_at l pulls a j = size (concrete l pulls (500 * a.unit * middle j) a.over)

past : (x from to : ℕ) → to - x - (from - x) ≡ to - max from x
past x from to = omega arith

-- of the strips from..to those from `mid` on lie below the axis x; the places count from there
module _ (x from to : ℕ) {mid : ℕ} (e : mid ≡ max from (min x to)) where
  up_from : from < mid → x - to + mid ≡ x
  up_from h = omega arith

  down_from : mid < to → from - x + x ≡ mid
  down_from h = omega arith

  down_count : from ≤ to → to - x - (from - x) ≡ to - mid
  down_count h = past x from to ∙ omega arith

up_place : (x d mid from i : ℕ) → d + mid ≡ x → i < mid - from → middle (d + i) ≡ reach false x (from + (mid - from - 1 - i))
up_place x d mid from i e h = omega arith

down_place : (x d mid i : ℕ) → d + x ≡ mid → middle (d + i) ≡ reach true x (mid + i)
down_place x d mid i e = omega arith

module _ {l : Law} {a : Axis} {to : ℕ} (fit : Fit l a to) where
  placed : (i j : ℕ) (pulls : Bool) → middle j ≡ reach pulls a.x i → place_at l pulls a j ≡ strip_size l pulls a i
  placed i j pulls e =
      let low = fit.lines in
      sized l _ _
      (small_is l record { fcd = omega arith; s1 = omega arith; s2 = omega arith; s3 = omega arith; e1 = omega arith; e2 = omega arith; e3 = omega arith })
      (ap (λ m. size (concrete l pulls (500 * a.unit * m) a.over)) e)

  -- the strips from..to, those from `mid` on below the axis
  module _ {from mid : ℕ} (h : from ≤ to) (e : mid ≡ max from (min a.x to)) where
    pub above : sum_n (a.x - from - (a.x - to)) (after (a.x - to) (place_at l false a)) ≡ sum_n (mid - from) (after from (strip_size l false a))
    above =
        ap (λ n. sum_n n (after (a.x - to) (place_at l false a))) (omega arith)
        ∙ sum_back (mid - from) _ _ (λ i k. sym (placed _ (a.x - to + i) false (up_place a.x (a.x - to) mid from i (up_from a.x from to e (omega arith)) k)))

    pub below : sum_n (to - a.x - (from - a.x)) (after (from - a.x) (place_at l true a)) ≡ sum_n (to - mid) (after mid (strip_size l true a))
    below =
        ap (λ n. sum_n n (after (from - a.x) (place_at l true a))) (down_count a.x from to e h)
        ∙ sum_same _ _ (to - mid) (λ i k. placed _ (from - a.x + i) true (down_place a.x (from - a.x) mid i (down_from a.x from to e (omega arith))))
