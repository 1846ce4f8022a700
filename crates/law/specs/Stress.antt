-- Document 01, 'Stress at a strain': the exact stress of concrete and bars at an exact strain p / q. Nothing is rounded before `size`.
use Rattle.std.specs.Prelude.{ℕ, ◌+◌, ◌*◌, ◌-◌, ◌/◌, ◌≡◌, Bool, true, false, cond, leb, ℤ, pos, neg_ℤ}
use Rattle.law.specs.declared.Law.{Law}

-- a stress in kPa: whether it pulls, and its size, num / den
pub record Stress : Type 0 where
  pub pulls : Bool
  pub num : ℕ
  pub den : ℕ

-- compression is positive
abbrev pub signed : Bool → ℕ → ℤ
signed pulls n = cond pulls (neg_ℤ (pos n)) (pos n)

-- the size rounded down, and so the stress rounded towards zero
unfoldable pub size : Stress → ℕ
size t = t.num / t.den

unfoldable pub rounded : Stress → ℤ
rounded t = signed t.pulls (size t)

-- a stress that is a whole number before any rounding
abbrev pub Is : Stress → ℕ → Type 0
Is t n = t.num ≡ n * t.den

-- ---- pieces
abbrev pub flat : Bool → ℕ → Stress
flat pulls stress = record { pulls = pulls; num = stress; den = 1 }

-- straight from (ea, sa) to (eb, sb): both ends are weighed, so that nothing in it is below zero
abbrev pub ramp : ℕ → ℕ → ℕ → ℕ → ℕ → ℕ → Stress
ramp ea sa eb sb p q = record { pulls = true; num = sa * (eb * q - p) + sb * (p - ea * q); den = (eb - ea) * q }

-- fcd x e x (4000 - e) / 4,000,000
abbrev pub parabola : ℕ → ℕ → ℕ → Stress
parabola fcd p q = record { pulls = false; num = fcd * p * (4000 * q - p); den = 4000000 * q * q }

-- 200 kPa per µ
abbrev pub elastic : Bool → ℕ → ℕ → Stress
elastic pulls p q = record { pulls = pulls; num = 200 * p; den = q }

-- ---- materials
-- compression up to 2000; above that, fcd
unfoldable pub compressed : Law → ℕ → ℕ → Stress
compressed l p q = cond (leb p (2000 * q)) (parabola l.fcd p q) (flat false l.fcd)

-- tension, straight from (0, 0) to (e1, s1) to (e2, s2) to (e3, s3); beyond e3 it is zero, at e3 it is s3
unfoldable pub stretched : Law → ℕ → ℕ → Stress
stretched l p q =
    cond (leb p (l.e1 * q)) (ramp 0 0 l.e1 l.s1 p q)
    (cond (leb p (l.e2 * q)) (ramp l.e1 l.s1 l.e2 l.s2 p q)
    (cond (leb p (l.e3 * q)) (ramp l.e2 l.s2 l.e3 l.s3 p q)
    (flat true 0)))

abbrev pub concrete : Law → Bool → ℕ → ℕ → Stress
concrete l pulls p q = cond pulls (stretched l p q) (compressed l p q)

-- a bar, the same in tension and compression: up to fyd, then fyd
unfoldable pub bar : Law → Bool → ℕ → ℕ → Stress
bar l pulls p q = cond (leb (200 * p) (l.fyd * q)) (elastic pulls p q) (flat pulls l.fyd)
