-- The least number that reaches a bound exists and is one; it is one past the largest that stays below, or a quotient that is
-- rounded up. Assumes nothing.
use Prim.Native.Nat.{ℕ, zero, suc, ◌+◌, ◌*◌, ◌-◌, ◌/◌, ◌≤◌, ◌<◌}
use mathlib.Core.Path.{◌≡◌, refl, sym, ◌∙◌, subst}
use mathlib.Core.Bool.{Bool, true, false, cond, true≢false}
use mathlib.Core.Logic.{⊎_elim, ◌↔◌}
use native.Mathlib.Nat as NatL
use native.Mathlib.Omega.{arith}
use lib.Dec.{leb}
use borrow.Author.Tests.{le-leb, leb-true}
use Rattle.std.specs.Int.{div_ceil}
use Rattle.std.proofs.lemmas.Grind.{div_ceil_times}
use Rattle.arith.specs.Largest.{Largest}
use Rattle.arith.specs.Least.{Least, first_to, least, multiple}
use Rattle.arith.proofs.Tests.{less_or_not}
use Rattle.arith.proofs.Largest.{Climbs}

-- there is no second one
pub least_only : {f : ℕ → ℕ} {m a b : ℕ} → Least f m a → Least f m b → a ≡ b
least_only p q = NatL.le_antisymm (p.least _ q.reaches) (q.least _ p.reaches)

-- what `firstTo` of a longer run is, by what it is of the shorter
abbrev First : (ℕ → Bool) → ℕ → ℕ → Type 0
First p n r = (r ≤ n) × ((k : ℕ) → k ≤ n → p k ≡ true → (p r ≡ true) × (r ≤ k))

first_next : (p : ℕ → Bool) (n r : ℕ) (t : Bool) → p r ≡ t → First p n r → First p (suc n) (cond t r (suc n))
first_next p n r true i h = (omega arith, λ k j e. (i, ⊎_elim (λ l. (h.1 k (omega arith) e).1) (λ l. omega arith) (less_or_not k (suc n))))
first_next p n r false i h = (
  omega arith,
  λ k j e. ⊎_elim (λ l. absurd (true≢false (sym (h.1 k (omega arith) e).0 ∙ i))) (λ l. last k (NatL.le_antisymm j l) e) (less_or_not k (suc n)),
)
  where
    last : (k : ℕ) → k ≡ suc n → p k ≡ true → (p (suc n) ≡ true) × (suc n ≤ k)
    last k is e = (rw is at e, omega arith)

first_is : (p : ℕ → Bool) (n : ℕ) → First p n (first_to p n)
unfolding first_to
first_is p zero = (omega arith, λ k j e. (subst (λ x. p x ≡ true) (NatL.le_antisymm j (omega arith)) e, omega arith))
first_is p (suc n) = first_next p n (first_to p n) (p (first_to p n)) refl (first_is p n)

-- there is one
pub least_is : {f : ℕ → ℕ} {m : ℕ} → Climbs f → Least f m (least f m)
unfolding least
least_is {f} {m} c =
    let r = first_is (λ n. leb m (f n)) m in
    record {
      reaches = leb-true _ _ (r.1 m (omega arith) (le-leb m (f m) (c.above m))).0;
      least = λ k h. ⊎_elim (λ l. (r.1 k (omega arith) (le-leb m (f k) h)).1) (λ l. omega (arith, r.0)) (less_or_not k m);
    }

-- what satisfies it is the number
pub least_found : {f : ℕ → ℕ} {m n : ℕ} → Climbs f → Least f m n → n ≡ least f m
least_found c h = least_only h (least_is c)

-- 0 is reached at once
pub least_none : (f : ℕ → ℕ) → Least f 0 0
least_none f = record { reaches = omega arith; least = λ k h. omega arith }

-- the least is where the number before it is too small
pub least_at : {f : ℕ → ℕ} {m n : ℕ} → Climbs f → f n < m → m ≤ f (n + 1) → Least f m (n + 1)
least_at {f} {m} {n} c small reaches = record {
  reaches = reaches;
  least = λ k h. ⊎_elim (λ j. omega arith) (λ j. absurd (omega (arith, c.rises k n j))) (less_or_not n k);
}

-- so what is more than m is reached one past the largest that is at most m
pub least_past : {f : ℕ → ℕ} {m n : ℕ} → Climbs f → Largest f m n → Least f (m + 1) (n + 1)
least_past {f} {m} {n} c l =
    least_at c (omega (arith, l.fits)) (⊎_elim (λ h. omega arith) (λ h. absurd (omega (arith, l.most (n + 1) h))) (less_or_not m (f (n + 1))))

-- ---- rounded up
pub multiple_climbs : (by : ℕ) → 0 < by → Climbs (multiple by)
multiple_climbs by h = record { rises = λ j k l. NatL.mul-le-mul_right by l; above = λ k. NatL.le-mul_of_pos_right k h }

module _ (m by : ℕ) (some : 0 < by) where
  abbrev quotient : ℕ
  quotient = (m + (by - 1)) / by

  below : (k : ℕ) → (quotient < k + 1) ↔ (m + (by - 1) < k * by + by)
  below k =
      let next : (k + 1) * by ≡ k * by + by = omega (arith, NatL.add-mul k 1 by, NatL.one-mul by) in
      rw (← next) (NatL.div-lt_iff_lt-mul some)

  pub rounded_up_is : Least (multiple by) m quotient
  rounded_up_is = record {
    reaches = omega (arith, (below quotient).0 (omega arith));
    least = λ k h. let more = (below k).1 (omega arith) in omega arith;
  }

  -- and it is what the library's `div_ceil` gives
  pub div_ceil_is : div_ceil m by ≡ quotient
  div_ceil_is =
      let n = div_ceil m by in
      let times = div_ceil_times m by some in
      let reaches = (below n).1 (omega (arith, times.0)) in
      let most : n * by ≤ m + (by - 1) = omega (arith, times.1) in
      let least : n ≤ quotient = (NatL.le-div_iff_mul-le some).1 most in
      omega (arith, least, reaches)
