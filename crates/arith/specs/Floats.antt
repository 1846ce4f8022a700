-- Whole numbers and fractions in f64: the float of a whole number, the one nearest to a fraction, and how near that is.
use Rattle.std.specs.Prelude.{ℕ, ◌+◌, ◌*◌, ◌≤◌, ◌<◌, ◌≡◌, Bool, true, false, ℤ, pos, negsuc, nat_abs, ◌*ℤ◌, Float}
use Rattle.std.specs.Float.{nan, inf, fin, binary64}
use Rattle.std.specs.Float.Ieee.{up, down, of_int, round}

abbrev pub is_neg : ℤ → Bool
is_neg (pos n) = false
is_neg (negsuc n) = true

-- the f64 of a whole number, plus zero for 0
abbrev pub whole : ℤ → Float
whole z = of_int binary64 z

-- the f64 nearest to n / d, to the even one of two: what one rounded division gives
abbrev pub frac : ℤ → ℕ → Float
frac n d = round binary64 (is_neg n) (nat_abs n) d

-- x holds z itself: it is ± m * up e / down e, a whole number times a power of two, and that is z
abbrev pub Holds : Float → ℤ → Type 0
Holds nan z = ⊥
Holds (inf s) z = ⊥
Holds (fin s m e) z = (s ≡ is_neg z) × (m * up e ≡ nat_abs z * down e)

-- x has n's sign and lies within one k-th of n / d: | x - n / d | ≤ 1 / k, multiplied out to whole numbers
abbrev pub Close : ℕ → Float → ℤ → ℕ → Type 0
Close k nan n d = ⊥
Close k (inf s) n d = ⊥
Close k (fin s m e) n d =
    (s ≡ is_neg n) × (m * up e * d * k ≤ nat_abs n * down e * k + d * down e) × (nat_abs n * down e * k ≤ m * up e * d * k + d * down e)

-- x is n / d as it is drawn: within one millionth, n / d itself where that is whole, and zero only where n is 0, and then plus zero
pub record Near (x : Float) (n : ℤ) (d : ℕ) : Type 0 where
  pub proper : 0 < d
  pub close : Close 1000000 x n d
  pub exact : (q : ℤ) → n ≡ q *ℤ pos d → x ≡ whole q
  pub zero : (s : Bool) (e : ℤ) → x ≡ fin s 0 e → (n ≡ pos 0) × (x ≡ fin false 0 (pos 0))
