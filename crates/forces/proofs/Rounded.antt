-- How far the rounded sums of a depth lie from the exact ones, over any denominator. Assumes nothing.
use Prim.Native.Nat.{ℕ, ◌+◌, ◌*◌, ◌/◌, ◌≤◌, ◌<◌}
use mathlib.Core.Path.{◌≡◌, refl, ap, ◌∙◌}
use mathlib.Core.Bool.{Bool, true, false, cond}
use native.Mathlib.Nat as NatL
use native.Mathlib.Omega.{arith}
use lib.Dec.{ltb, leb}
use lib.IntN.{ℤ, pos, neg_ℤ, nat_abs, neg_ℤ-neg_ℤ, ◌+ℤ◌, ◌-ℤ◌, ◌*ℤ◌}
use lib.Signed.{◌≤ℤ◌, ◌<ℤ◌}
use borrow.Author.Tests.{ltb-true}
use Rattle.arith.specs.Sums.{sum_n, sum_z}
use Rattle.arith.proofs.Signed.{up, dn, same, up_scale, dn_scale, mul_neg, lever_most}
use Rattle.arith.proofs.Rounding.{Within, within_exact, within_floor, within_neg, within_add, within_scale, within_sum}
use Rattle.arith.proofs.Rounding.{within_wider, within_above, within_below}
use Rattle.section.specs.declared.Section.{Section}
use Rattle.section.specs.Accepted.{Accepted}
use Rattle.section.specs.Has.{width_at, depth_at, area_at, load_of}
use Rattle.section.proofs.Widths.{area_some}
use Rattle.law.specs.declared.Law.{Law}
use Rattle.law.specs.Edition.{edition}
use Rattle.law.specs.Law.{law_of}
use Rattle.law.specs.Stress.{Stress, signed, size, rounded}
use Rattle.law.proofs.Ranges.{law_in}
use Rattle.law.proofs.Continuous.{either, compressed_proper, stretched_proper, bar_proper}
use Rattle.strips.specs.Strips.{Scale, middle, strip}
use Rattle.forces.specs.Forces.{strain_scale, strip_stress, bar_stress, strip_force, bar_force, strip_moment, bar_moment, forces, moments, imbalance, moment}
use Rattle.forces.proofs.Strains.{below_axis}

-- ---- a stress over any denominator: n is its numerator over C where den n is C num, sign included
abbrev pub Over : ℕ → ℤ → Stress → Type 0
Over C n t = pos t.den *ℤ n ≡ pos C *ℤ signed t.pulls t.num

none_left : (d n : ℕ) → 0 < d → d * n ≡ 0 → n ≡ 0
none_left d n proper e = omega (arith, NatL.mul-le-mul_right n proper)

size_within : (C d a : ℕ) (n : ℤ) → 0 < C → 0 < d → pos d *ℤ n ≡ pos C *ℤ pos a → Within C n (pos (a / d)) 1
size_within C d a n some proper is =
    let all : d * up n ≡ C * a = omega (arith, ap up is, up_scale d n) in
    let none : dn n ≡ 0 = none_left d (dn n) proper (omega (arith, ap dn is, dn_scale d n)) in
    let low : d * (C * (a / d)) ≤ d * up n = omega (arith, all, NatL.mul-le-mul_left C (NatL.div-mul-le_self a d)) in
    let high : d * up n < d * (C * (a / d) + C) =
    omega (arith, all, NatL.mul-le-mul_left C (NatL.lt-div-mul-add {a = a} proper), NatL.mul-suc C a) in
    rw (same n (pos (up n)) (omega arith))
    (within_floor C (up n) (a / d) (NatL.le_of_mul-le-mul_left low proper) (NatL.lt_of_mul-lt-mul_left d high))

signed_within : (C d a : ℕ) (pulls : Bool) (n : ℤ) → 0 < C → 0 < d → pos d *ℤ n ≡ pos C *ℤ signed pulls a → Within C n (signed pulls (a / d)) 1
signed_within C d a false n some proper is = size_within C d a n some proper is
signed_within C d a true n some proper is =
    let back : pos d *ℤ neg_ℤ n ≡ pos C *ℤ pos a =
    mul_neg (pos d) n ∙ ap neg_ℤ is ∙ ap neg_ℤ (mul_neg (pos C) (pos a)) ∙ neg_ℤ-neg_ℤ (pos C *ℤ pos a) in
    rw (neg_ℤ-neg_ℤ n) at (within_neg (size_within C d a (neg_ℤ n) some proper back))

stress_within : (C : ℕ) (t : Stress) (n : ℤ) → 0 < C → 0 < t.den → Over C n t → Within C n (rounded t) 1
unfolding rounded size
stress_within C t n = signed_within C t.den t.num t.pulls n

-- ---- the forces of n stresses on areas, and their moments, whatever they are
module _ {C : ℕ} (some : 0 < C) (n : ℕ) (t : ℕ → Stress) (e : ℕ → ℤ) (w : ℕ → ℕ) (near : (i : ℕ) → i < n → Within C (e i) (rounded (t i)) 1) where
  force_within : (i : ℕ) → i < n → Within C (pos (w i) *ℤ e i) (pos (w i) *ℤ rounded (t i)) (w i * 1)
  force_within i h = within_scale (near i h) (pos (w i))

  forces_within : Within C (sum_z n (λ i. pos (w i) *ℤ e i)) (sum_z n (λ i. pos (w i) *ℤ rounded (t i))) (sum_n n w * 1)
  forces_within = within_sum n C 1 _ _ w force_within

  moments_within :
      (H : ℕ) (place : ℕ → ℕ)
      → ((i : ℕ) → i < n → place i ≤ 2 * H)
      → Within C
      (sum_z n (λ i. (pos H -ℤ pos (place i)) *ℤ (pos (w i) *ℤ e i)))
      (sum_z n (λ i. (pos H -ℤ pos (place i)) *ℤ (pos (w i) *ℤ rounded (t i))))
      (sum_n n w * H)
  moments_within H place inside =
      within_sum n C H _ _ w
      (λ i h.
      within_wider (within_scale (force_within i h) (pos H -ℤ pos (place i))) some
      (omega (arith, NatL.mul-le-mul_right (w i) (lever_most H (place i) (inside i h)))))

-- ---- no denominator is 0
whichever : (t : Bool) (a b : Scale) → (t ≡ true → 0 < a.den) → (t ≡ false → 0 < b.den) → 0 < (cond t a b).den
whichever true a b h k = h refl
whichever false a b h k = k refl

scale_proper : (l : Law) (x : ℕ) → 7 ≤ l.ratio → 1 ≤ x → 0 < (strain_scale l x).den
unfolding strain_scale
scale_proper l x seven from = whichever (ltb (l.ratio * x) (7 * l.limit)) _ _ (λ e. omega (arith, below_axis x seven (ltb-true _ _ e))) (λ e. omega arith)

module _ {s : Section} (a : Accepted s) (x : ℕ) (from : 1 ≤ x) where
  proper : 0 < (strain_scale (law_of s) x).den
  unfolding edition
  proper = scale_proper (law_of s) x (omega (arith, (law_in a).ratio)) from

  pub strip_proper : (i : ℕ) → 0 < (strip_stress (law_of s) s x i).den
  unfolding strip
  strip_proper i = either (leb x i) _ _ (stretched_proper (law_of s) _ _ proper (law_in a).lines) (compressed_proper (law_of s) _ _ proper)

  pub bar_at_proper : (j : ℕ) → 0 < (bar_stress (law_of s) s x j).den
  bar_at_proper j = bar_proper (law_of s) _ _ proper _

-- ---- at one depth of an accepted section
abbrev area : Section → ℕ
area s = sum_n s.h (width_at s) + sum_n s.count (area_at s)

pub area_positive : {s : Section} → Accepted s → 0 < area s
area_positive a = omega (arith, area_some a)

-- over any C, and of any numerators that are the stresses over it
module _ {s : Section} (a : Accepted s) {x C : ℕ} (from : 1 ≤ x) (some : 0 < C) (strip bar : ℕ → ℤ)
    (strips : (i : ℕ) → i < s.h → Over C (strip i) (strip_stress (law_of s) s x i))
    (bars : (j : ℕ) → j < s.count → Over C (bar j) (bar_stress (law_of s) s x j)) where
  strip_near : (i : ℕ) → i < s.h → Within C (strip i) (rounded (strip_stress (law_of s) s x i)) 1
  strip_near i h = stress_within C _ (strip i) some (strip_proper a x from i) (strips i h)

  bar_near : (j : ℕ) → j < s.count → Within C (bar j) (rounded (bar_stress (law_of s) s x j)) 1
  bar_near j h = stress_within C _ (bar j) some (bar_at_proper a x from j) (bars j h)

  abbrev exact_imbalance : ℤ
  exact_imbalance = (sum_z s.h (λ i. pos (width_at s i) *ℤ strip i) +ℤ sum_z s.count (λ j. pos (area_at s j) *ℤ bar j)) -ℤ (pos C *ℤ load_of s)

  abbrev exact_moment : ℤ
  exact_moment =
      sum_z s.h (λ i. (pos s.h -ℤ pos (middle i)) *ℤ (pos (width_at s i) *ℤ strip i))
      +ℤ sum_z s.count (λ j. (pos s.h -ℤ pos (2 * depth_at s j)) *ℤ (pos (area_at s j) *ℤ bar j))

  imbalance_within : Within C exact_imbalance (imbalance s x) (area s)
  unfolding imbalance forces strip_force bar_force
  imbalance_within =
      let strips = forces_within some s.h (strip_stress (law_of s) s x) strip (width_at s) strip_near in
      let bars = forces_within some s.count (bar_stress (law_of s) s x) bar (area_at s) bar_near in
      within_wider (within_add (within_add strips bars) (within_neg (within_exact C (load_of s)))) some (omega arith)

  moment_within : Within C exact_moment (moment s x) (area s * s.h)
  unfolding moment moments strip_moment bar_moment strip_force bar_force
  moment_within =
      let strips = moments_within some s.h (strip_stress (law_of s) s x) strip (width_at s) strip_near s.h middle (λ i h. omega arith) in
      let bars =
      moments_within some s.count (bar_stress (law_of s) s x) bar (area_at s) bar_near s.h (λ j. 2 * depth_at s j)
      (λ j h. omega (arith, (a.bars.0.each j h).inside)) in
      within_wider (within_add strips bars) some (omega arith)

  -- the rounded sums lie within one kPa times the area of the exact ones, the moments within that times h
  pub imbalance_close : nat_abs (exact_imbalance -ℤ (pos C *ℤ imbalance s x)) < C * area s
  imbalance_close = omega (arith, imbalance_within.within, area_positive a)

  pub moment_close : nat_abs (exact_moment -ℤ (pos C *ℤ moment s x)) ≤ C * (area s * s.h)
  moment_close = omega (arith, moment_within.within)

  -- where the exact imbalance is clearly on one side of zero, so is the rounded one
  pub above : pos (C * area s) ≤ℤ exact_imbalance → pos 0 <ℤ imbalance s x
  above = within_above imbalance_within (area_positive a)

  pub below : exact_imbalance ≤ℤ neg_ℤ (pos (C * area s)) → imbalance s x <ℤ pos 0
  below = within_below imbalance_within (area_positive a)
