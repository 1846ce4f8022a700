-- Document 02 [3], the roots of the shear rule, digit by digit: what `root` answers of so many digits as they have is what the rule names.
use Rattle.std.specs.Prelude.{ℕ, ◌+◌, ◌*◌, ◌≤◌, ◌<◌, min, ◌≡◌, true, false}
use Rattle.arith.specs.Largest.{largest}
use Rattle.shear.specs.Shear.{cubed, k_of, c_of}
use Rattle.demands.specs.Every as Every

-- b, d, As and fck give k and c
abbrev pub Give : (b d steel fck k c : ℕ) → Type 0
Give b d steel fck k c = (k_of d ≡ k) × (c_of (b * d) steel fck ≡ c)

pub record Request3 : Type 0 where
  -- k, by 10 binary digits of r, since it is at most 2000; c, by 13, both with a limit and without
  pub k : Every.root (λ cube digits by bound r. cube ≡ false → digits ≡ 10 → bound ≡ 200000000 → 0 < by → min (1000 + r) 2000 ≡ k_of by)
  pub c : Every.root (λ cube digits by bound c. cube ≡ true → digits ≡ 13 → bound ≤ 100000000000 * by → 0 < by → c ≡ largest (cubed by) bound)
  pub figures :
      Give 300 999 1000 20 1447 1882
      × Give 2000 26 65535 50 2000 4641
      × Give 50 26 1 20 2000 1154
      × Give 300 400 2400 30 1707 3914
      × Give 300 400 2401 30 1707 3914
