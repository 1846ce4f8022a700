-- The largest number with a bound on its square or cube, times a number: the roots of document 01, 'Shear', by what they satisfy.
use Rattle.std.specs.Prelude.{ℕ, ◌+◌, ◌*◌, ◌^◌, ◌≤◌, ◌<◌, min, ◌≡◌, Bool, cond}
use Rattle.arith.specs.Largest.{Largest}

-- n² or n³
abbrev pub power : Bool → ℕ → ℕ
power cube n = cond cube (n * n * n) (n * n)

abbrev pub raised : (cube : Bool) (by n : ℕ) → ℕ
raised cube by n = power cube n * by

-- the first number of more than so many binary digits; no more than 21 are looked for, the most whose cube 64 bits hold
abbrev pub past : (digits : ℕ) → ℕ
past digits = 2 ^ min digits 21

-- of the numbers below `end`, n is the largest with f n at most the bound: the largest of all, or, where `end` fits too, the last below it
pub record Root (f : ℕ → ℕ) (end bound n : ℕ) : Type 0 where
  pub largest : bound < f end → Largest f bound n
  pub last : f end ≤ bound → n + 1 ≡ end
