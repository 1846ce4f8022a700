-- The same numbers in any order.
use Rattle.std.specs.Prelude.{ℕ, ◌≡◌, cond, List, eqb}
use Rattle.arith.specs.Sums.{sum_over}

-- how often v is in a list: 1 for each place where it stands
abbrev pub counts : (v n : ℕ) → ℕ
counts v n = cond (eqb n v) 1 0

abbrev pub times : ℕ → List ℕ → ℕ
times v l = sum_over (counts v) l

-- the same numbers, each as often
abbrev pub Rearranged : List ℕ → List ℕ → Type 0
Rearranged l k = (v : ℕ) → times v l ≡ times v k
