-- kf of a section: within its range, and 1000 where the flange adds nothing. Assumes nothing.
use Prim.Native.Nat.{ℕ, ◌+◌, ◌*◌, ◌-◌, ◌/◌, ◌≤◌, ◌<◌, min}
use mathlib.Core.Path.{◌≡◌, ap, ◌∙◌}
use native.Mathlib.Nat as NatL
use native.Mathlib.Omega.{arith}
use Rattle.section.specs.declared.Section.{Section}
use Rattle.section.specs.Accepted.{Accepted}
use Rattle.section.proofs.Widths.{flange_inside}
use Rattle.shear.specs.Shear.{kf_of}

-- q, the least of the three
abbrev pub least_of : Section → ℕ
least_of s = min (s.bf - s.b) (min (3 * s.hf) (3 * s.b))

plain : (q hf bd : ℕ) → q * hf ≡ 0 → min (1000 + 1000 * q * hf / bd) 1500 ≡ 1000
plain q hf bd e = rw (NatL.mul_assoc 1000 q hf, e, NatL.zero-div bd)

module _ (d : ℕ) (s : Section) where
  pub kf_without : s.hf ≡ 0 → kf_of d s ≡ 1000
  unfolding kf_of
  kf_without e = plain (least_of s) s.hf (s.b * d) (ap (λ n. least_of s * n) e ∙ NatL.mul-zero (least_of s))

  -- no wider than the web
  pub kf_level : s.bf ≡ s.b → kf_of d s ≡ 1000
  unfolding kf_of
  kf_level e =
      let none : least_of s ≡ 0 = omega (arith, NatL.min-le_left (s.bf - s.b) (min (3 * s.hf) (3 * s.b))) in
      plain (least_of s) s.hf (s.b * d) (ap (λ n. n * s.hf) none ∙ NatL.zero-mul s.hf)

pub product_most : {s : Section} → Accepted s → 0 < s.hf → 1000 * least_of s * s.hf ≤ 2000000 * 1000
product_most {s} a some =
    let wide = (a.flange some).1.1 in
    NatL.mul-le-mul {n₂ = 2000000} {m₂ = 1000}
    (omega (arith, NatL.min-le_left (s.bf - s.b) (min (3 * s.hf) (3 * s.b)))) (omega (arith, flange_inside a, a.sizes.1.1))
