-- Sums of terms over one denominator, against the sum's own quotient. Assumes nothing.
use Prim.Native.Nat.{ℕ, zero, suc, ◌+◌, ◌*◌, ◌/◌, ◌≤◌, ◌<◌}
use mathlib.Core.Path.{◌≡◌}
use native.Mathlib.Nat as NatL
use native.Mathlib.Omega.{arith}
use Rattle.arith.specs.Sums.{sum_n}
use Rattle.strips.specs.Code.{Near}

-- ---- a quotient takes less than one off each term
module _ {D : ℕ} (some : 0 < D) where
  multiplied : (n : ℕ) (f a : ℕ → ℕ) → ((i : ℕ) → i < n → f i ≡ a i / D) → (D * sum_n n f ≤ sum_n n a) × (sum_n n a ≤ D * (sum_n n f + n))
  unfolding sum_n
  multiplied zero f a h = (omega arith, omega arith)
  multiplied (suc n) f a h =
      let before = multiplied n f a (λ i k. h i (omega arith)) in
      let least : D * f n ≤ a n = rw (h n (omega arith)) (NatL.mul-div-le (a n) D) in
      let most : a n < D * (f n + 1) = rw (h n (omega arith)) (NatL.lt-mul-div-succ (a n) some) in
      (omega arith, omega arith)

  pub quotients : (n A : ℕ) (f a : ℕ → ℕ) → ((i : ℕ) → i < n → f i ≡ a i / D) → sum_n n a ≡ A → Near (sum_n n f) n (A / D)
  quotients n A f a h e =
      let m = multiplied n f a h in
      record { least = (NatL.le-div_iff_mul-le some).1 (omega arith); rest = NatL.div-le_of_le-mul D (omega arith) }

-- ---- a linear equation of every term is one of the sums
pub weighed : (n b c d e : ℕ) (f g h : ℕ → ℕ) → ((i : ℕ) → i < n → f i + b * g i + c ≡ d * h i + e)
    → sum_n n f + b * sum_n n g + c * n ≡ d * sum_n n h + e * n
unfolding sum_n
weighed zero b c d e f g h k = omega arith
weighed (suc n) b c d e f g h k = omega (arith, weighed n b c d e f g h (λ i j. k i (omega arith)), k n (omega arith))

-- ---- a product, by the largest that its factors can be
pub within : {a b : ℕ} (m n : ℕ) → a ≤ m → b ≤ n → a * b ≤ m * n
within m n h k = NatL.mul-le-mul h k
