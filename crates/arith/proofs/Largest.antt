-- The largest number with a bound on it exists and is one, and counting up finds it. Assumes nothing.
use Prim.Native.Nat.{ℕ, zero, suc, ◌+◌, ◌-◌, ◌≤◌, ◌<◌}
use mathlib.Core.Path.{◌≡◌, refl, sym, ◌∙◌, subst}
use mathlib.Core.Bool.{Bool, true, false, cond, true≢false}
use mathlib.Core.Logic.{⊎_elim}
use native.Mathlib.Nat as NatL
use native.Mathlib.Omega.{arith}
use lib.Dec.{leb}
use borrow.Author.Tests.{le-leb, leb-true}
use Rattle.arith.specs.Largest.{Largest, last_to, largest}

-- what lets a largest number be found: f never falls, and no number is above its f
pub record Climbs (f : ℕ → ℕ) : Type 0 where
  pub rises : (j k : ℕ) → j ≤ k → f j ≤ f k
  pub above : (k : ℕ) → k ≤ f k

-- there is no second one
pub largest_only : {f : ℕ → ℕ} {m a b : ℕ} → Largest f m a → Largest f m b → a ≡ b
largest_only p q = NatL.le_antisymm (q.most _ p.fits) (p.most _ q.fits)

-- what `last_to` of a longer run is, by what it is of the shorter
abbrev Last : (ℕ → Bool) → ℕ → ℕ → Type 0
Last p n r = (p r ≡ true) × ((k : ℕ) → k ≤ n → p k ≡ true → k ≤ r)

last_next : (p : ℕ → Bool) (n r : ℕ) (t : Bool) → p (suc n) ≡ t → Last p n r → Last p (suc n) (cond t (suc n) r)
last_next p n r true i h = (i, λ k j t. j)
last_next p n r false i h =
    (h.0, λ k j t. ⊎_elim (λ e. absurd (true≢false (sym t ∙ subst (λ x. p x ≡ false) (sym e) i))) (λ l. h.1 k (omega arith) t) (NatL.eq-or-lt_of_le j))

last_is : (p : ℕ → Bool) (n : ℕ) → p 0 ≡ true → Last p n (last_to p n)
unfolding last_to
last_is p zero e = (e, λ k h t. h)
last_is p (suc n) e = last_next p n (last_to p n) (p (suc n)) refl (last_is p n e)

-- there is one
pub largest_is : {f : ℕ → ℕ} {m : ℕ} → Climbs f → f 0 ≤ m → Largest f m (largest f m)
unfolding largest
largest_is {f} {m} c h =
    let r = last_is (λ n. leb (f n) m) m (le-leb (f 0) m h) in
    record { fits = leb-true _ _ r.0; most = λ k j. r.1 k (omega (arith, c.above k)) (le-leb (f k) m j) }

-- what satisfies it is the number
pub found : {f : ℕ → ℕ} {m n : ℕ} → Climbs f → Largest f m n → n ≡ largest f m
found {n = n} c h = largest_only h (largest_is c (omega (arith, c.rises 0 n (omega arith), h.fits)))

-- a number that fits is below one that is too large
pub fits_below : {f : ℕ → ℕ} {m : ℕ} (n k : ℕ) → Climbs f → f n ≤ m → m < f k → n < k
fits_below n k c fits large = ⊎_elim (λ j. absurd (omega (arith, c.rises k n (omega arith)))) (λ j. omega arith) (NatL.eq-zero-or-pos (k - n))

-- so the largest is where the next number is too large
pub counted_up : {f : ℕ → ℕ} {m n : ℕ} → Climbs f → f n ≤ m → m < f (n + 1) → Largest f m n
counted_up {n = n} c fits next = record { fits = fits; most = λ k h. omega (arith, fits_below k (n + 1) c h next) }
