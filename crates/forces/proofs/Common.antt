-- The stresses of a depth have whole numerators over one denominator, the product of all of theirs. Assumes nothing.
use Prim.Native.Nat.{ℕ, ◌*◌, ◌/◌, ◌≤◌, ◌<◌, ◌∣◌}
use mathlib.Core.Path.{◌≡◌, sym, ap, ◌∙◌}
use native.Mathlib.Nat as NatL
use native.Mathlib.Omega.{arith}
use lib.IntN.{ℤ}
use Rattle.arith.proofs.Sums.{prod_n, prod_positive, factor_divides}
use Rattle.section.specs.declared.Section.{Section}
use Rattle.section.specs.Accepted.{Accepted}
use Rattle.law.specs.Law.{law_of}
use Rattle.law.specs.Stress.{Stress, signed}
use Rattle.law.proofs.Sides.{signed_scale}
use Rattle.forces.specs.Forces.{strip_stress, bar_stress}
use Rattle.forces.proofs.Rounded.{Over, strip_proper, bar_at_proper}

-- over a denominator that its own divides
abbrev pub over : ℕ → Stress → ℤ
over C t = signed t.pulls (t.num * (C / t.den))

over_is : (C : ℕ) (t : Stress) → t.den ∣ C → Over C (over C t) t
over_is C t v =
    let is : t.den * (t.num * (C / t.den)) ≡ C * t.num = omega (arith, ap (λ n. t.num * n) (NatL.mul-div_cancel' t.den v)) in
    signed_scale t.den _ t.pulls ∙ ap (signed t.pulls) is ∙ sym (signed_scale C t.num t.pulls)

module _ (s : Section) (x : ℕ) where
  abbrev stripDen : ℕ → ℕ
  stripDen i = (strip_stress (law_of s) s x i).den

  abbrev barDen : ℕ → ℕ
  barDen j = (bar_stress (law_of s) s x j).den

  abbrev pub common : ℕ
  common = prod_n s.h stripDen * prod_n s.count barDen

  pub common_positive : Accepted s → 1 ≤ x → 0 < common
  common_positive a from =
      NatL.mul-pos (prod_positive s.h stripDen (λ i h. strip_proper a x from i))
      (prod_positive s.count barDen (λ j h. bar_at_proper a x from j))

  pub strip_over : (i : ℕ) → i < s.h → Over common (over common (strip_stress (law_of s) s x i)) (strip_stress (law_of s) s x i)
  strip_over i h = over_is common (strip_stress (law_of s) s x i) (NatL.dvd-mul_right_of_dvd _ (factor_divides s.h stripDen i h) _)

  pub bar_over : (j : ℕ) → j < s.count → Over common (over common (bar_stress (law_of s) s x j)) (bar_stress (law_of s) s x j)
  bar_over j h = over_is common (bar_stress (law_of s) s x j) (NatL.dvd-mul_left_of_dvd _ (factor_divides s.count barDen j h) _)
