-- Sums of n terms, counted from 0.
use Rattle.std.specs.Prelude.{ℕ, zero, suc, ◌+◌, List, ℤ, pos, ◌+ℤ◌, length, get_or}

unfoldable pub sum_n : ℕ → (ℕ → ℕ) → ℕ
sum_n zero f = 0
sum_n (suc n) f = sum_n n f + f n

unfoldable pub sum_z : ℕ → (ℕ → ℤ) → ℤ
sum_z zero f = pos 0
sum_z (suc n) f = sum_z n f +ℤ f n

-- the terms from one on
abbrev pub after : {X : Type 0} → ℕ → (ℕ → X) → ℕ → X
after from f i = f (from + i)

-- what f makes of the number at a place of a list, and the sum over all of them
abbrev pub placed : (ℕ → ℕ) → List ℕ → ℕ → ℕ
placed f l i = f (get_or l i 0)

abbrev pub sum_over : (ℕ → ℕ) → List ℕ → ℕ
sum_over f l = sum_n (length l) (placed f l)
