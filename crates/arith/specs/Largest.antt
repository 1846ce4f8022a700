-- The largest number with a bound on it: what it satisfies, and the number.
use Rattle.std.specs.Prelude.{ℕ, zero, suc, ◌≤◌, Bool, cond, leb}

-- n is the largest number with f n at most m: it is such a number, and no such number is above it
pub record Largest (f : ℕ → ℕ) (m n : ℕ) : Type 0 where
  pub fits : f n ≤ m
  pub most : (k : ℕ) → f k ≤ m → k ≤ n

-- the last of 0 to n that passes, or 0
unfoldable pub last_to : (ℕ → Bool) → ℕ → ℕ
last_to passes zero = 0
last_to passes (suc n) = cond (passes (suc n)) (suc n) (last_to passes n)

-- the number: the last of 0 to m with f n at most m. No other could be, where k is never above f k
unfoldable pub largest : (ℕ → ℕ) → ℕ → ℕ
largest f m = last_to (λ n. leb (f n) m) m
