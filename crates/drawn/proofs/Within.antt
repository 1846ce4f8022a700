-- A drawn point holds the strain that was asked for, and its stress is within one millionth of a kPa of the exact fraction. Assumes nothing.
use Prim.Native.Nat.{ℕ, suc, ◌*◌, ◌-◌, ◌^◌, ◌≤◌, ◌<◌}
use mathlib.Core.Path.{◌≡◌}
use mathlib.Core.Bool.{Bool, true, false}
use native.Mathlib.Nat as NatL
use native.Mathlib.Omega.{arith}
use lib.IntN.{ℤ, pos, negsuc}
use Rattle.arith.specs.Floats.{Near}
use Rattle.arith.specs.Lines.{line}
use Rattle.arith.proofs.Floats.{holds}
use Rattle.arith.proofs.Nearest.{near_frac}
use Rattle.arith.proofs.Lines.{passed, none_of}
use Rattle.law.proofs.Sides.{abs_signed}
use Rattle.section.specs.declared.Section.{Section}
use Rattle.section.specs.Refusal.{section_refusal}
use Rattle.section.proofs.Accepted.{accepted}
use Rattle.law.specs.declared.Law.{Law}
use Rattle.law.specs.Law.{law_of}
use Rattle.law.specs.Ranges.{Lawful}
use Rattle.law.specs.Stress.{Stress, signed, flat, ramp, parabola}
use Rattle.law.specs.Sizes.{Small}
use Rattle.law.proofs.Ranges.{law_in}
use Rattle.law.proofs.Sizes.{law_small}
use Rattle.drawn.specs.Drawn.{stress_at, drawn_stress, PointNear, in_drawn_range, point_at, drawn_refusal}
use Rattle.drawn.proofs.Cases.{compressed_by, stretched_by}
use Rattle.drawn.proofs.Strains.{drawn_size}

-- a fraction that f64 comes so near to
record Fine (t : Stress) : Type 0 where
  some : 0 < t.den
  short : t.den < 2 ^ 34
  low : t.num < t.den * 2 ^ 20

near : (t : Stress) → Fine t → Near (drawn_stress t) (signed t.pulls t.num) t.den
near t f = near_frac (signed t.pulls t.num) t.den f.some f.short (rw (abs_signed t.pulls t.num) f.low)

module _ (ea sa eb sb p : ℕ) (long : ea < eb) (from : ea ≤ p) (to : p ≤ eb) (E : eb < 65536) (A : sa < 65536) (B : sb < 65536) where
  ramp_fine : Fine (ramp ea sa eb sb p 1)
  ramp_fine =
      let a = NatL.mul-le-mul_right {m = sa} {n = 65535} (eb - p) (omega arith) in
      let b = NatL.mul-le-mul_right {m = sb} {n = 65535} (p - ea) (omega arith) in
      let e : (eb - ea) * 1 ≡ eb - ea = NatL.mul-one (eb - ea) in
      let k : ea * 1 ≡ ea = NatL.mul-one ea in
      let m : eb * 1 ≡ eb = NatL.mul-one eb in
      record { some = omega arith; short = omega arith; low = rw (k, m) (omega arith) }

parabola_fine : (fcd p : ℕ) → fcd < 65536 → p ≤ 2000 → Fine (parabola fcd p 1)
parabola_fine fcd p h k =
    let a = NatL.mul-le-mul {n₁ = fcd} {m₁ = p} {n₂ = 65535} {m₂ = 2000} (omega arith) k in
    let b = NatL.mul-le-mul {n₁ = fcd * p} {m₁ = 4000 - p} {n₂ = 131070000} {m₂ = 4000} (omega arith) (omega arith) in
    record { some = omega arith; short = omega arith; low = omega arith }

level_fine : (pulls : Bool) (s : ℕ) → s < 65536 → Fine (flat pulls s)
level_fine pulls s h = record { some = omega arith; short = omega arith; low = omega arith }

fine : (l : Law) → Lawful l → Small l → (e : ℤ) → Fine (stress_at l e)
fine l o n (pos p) = compressed_by (λ a t. Fine t) l p (parabola_fine l.fcd p n.fcd) (level_fine false l.fcd n.fcd)
fine l o n (negsuc k) = stretched_by (λ a t. Fine t) l (suc k) o n (λ ea sa eb sb. ramp_fine ea sa eb sb (suc k)) (level_fine true 0 (omega arith))

pub point_near : (s : Section) (e : ℤ) → drawn_refusal s e ≡ 0 → PointNear (law_of s) e (point_at (law_of s) e)
unfolding drawn_refusal
point_near s e h =
    let p = none_of (section_refusal s) (line (in_drawn_range e) 18 0) h in
    let q = (passed (in_drawn_range e) 17 0 p.1).0 in
    let a = accepted s p.0 in
    (holds e (omega (arith, drawn_size e q)), near (stress_at (law_of s) e) (fine (law_of s) (law_in a).lines (law_small a) e))
