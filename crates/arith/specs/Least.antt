-- The least number that reaches a bound: what it satisfies, and the number.
use Rattle.std.specs.Prelude.{ℕ, zero, suc, ◌*◌, ◌≤◌, Bool, cond, leb}

-- n is the least number with f n at least m: it is such a number, and no such number is below it
pub record Least (f : ℕ → ℕ) (m n : ℕ) : Type 0 where
  pub reaches : m ≤ f n
  pub least : (k : ℕ) → m ≤ f k → n ≤ k

-- the first of 0 to n that passes, or n
unfoldable pub first_to : (ℕ → Bool) → ℕ → ℕ
first_to passes zero = 0
first_to passes (suc n) = cond (passes (first_to passes n)) (first_to passes n) (suc n)

-- the number: the first of 0 to m with f n at least m. There is one, where k is never above f k
unfoldable pub least : (ℕ → ℕ) → ℕ → ℕ
least f m = first_to (λ n. leb m (f n)) m

-- a quotient, rounded up: the least n with n times `by` at least m
abbrev pub multiple : (by n : ℕ) → ℕ
multiple by n = n * by

abbrev pub rounded_up : (m by : ℕ) → ℕ
rounded_up m by = least (multiple by) m
