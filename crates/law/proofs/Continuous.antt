-- The pieces of the law meet: at e1, e2 and e3 each line is the strength that they are named for, and the parabola ends in the plateau. Assumes nothing.
use Prim.Native.Nat.{ℕ, ◌*◌, ◌-◌, ◌<◌}
use mathlib.Core.Path.{◌≡◌, refl, sym, ap, ◌∙◌}
use mathlib.Core.Bool.{Bool, true, false, cond}
use native.Mathlib.Nat as NatL
use native.Mathlib.Omega.{arith}
use lib.Dec.{leb}
use Rattle.arith.proofs.Products.{sub_scale}
use Rattle.law.specs.declared.Law.{Law}
use Rattle.law.specs.Ranges.{Lawful}
use Rattle.law.specs.Stress.{Stress, Is, size, flat, ramp, parabola, elastic, compressed, stretched, bar}

-- ---- a line at its two ends
module _ (ea sa eb sb q : ℕ) where
  pub starts : Is (ramp ea sa eb sb (ea * q) q) sa
  starts = rw (NatL.sub_self (ea * q), NatL.mul-zero sb, ← sub_scale eb ea q) (NatL.add-zero (sa * (eb * q - ea * q)))

  pub ends : Is (ramp ea sa eb sb (eb * q) q) sb
  ends = rw (NatL.sub_self (eb * q), NatL.mul-zero sa, ← sub_scale eb ea q) (NatL.zero-add (sb * (eb * q - ea * q)))

module _ (l : Law) (q : ℕ) where
  pub meet_at_e1 : Is (ramp 0 0 l.e1 l.s1 (l.e1 * q) q) l.s1 × Is (ramp l.e1 l.s1 l.e2 l.s2 (l.e1 * q) q) l.s1
  meet_at_e1 = (ends 0 0 l.e1 l.s1 q, starts l.e1 l.s1 l.e2 l.s2 q)

  pub meet_at_e2 : Is (ramp l.e1 l.s1 l.e2 l.s2 (l.e2 * q) q) l.s2 × Is (ramp l.e2 l.s2 l.e3 l.s3 (l.e2 * q) q) l.s2
  meet_at_e2 = (ends l.e1 l.s1 l.e2 l.s2 q, starts l.e2 l.s2 l.e3 l.s3 q)

  pub end_at_e3 : Is (ramp l.e2 l.s2 l.e3 l.s3 (l.e3 * q) q) l.s3
  end_at_e3 = ends l.e2 l.s2 l.e3 l.s3 q

  pub meet_at_2000 : Is (parabola l.fcd (2000 * q) q) l.fcd
  meet_at_2000 =
      let half : 4000 * q - 2000 * q ≡ 2000 * q = omega arith in
      rw (half, NatL.mul_assoc l.fcd (2000 * q) (2000 * q)) (ap (λ m. l.fcd * m) (NatL.mul-mul-mul_comm 2000 q 2000 q ∙ sym (NatL.mul_assoc 4000000 q q)))

-- ---- what is under the fraction's line is above zero
pub either : (c : Bool) (t u : Stress) → 0 < t.den → 0 < u.den → 0 < (cond c t u).den
either true t u h k = h
either false t u h k = k

module _ (l : Law) (p q : ℕ) (some : 0 < q) where
  pub compressed_proper : 0 < (compressed l p q).den
  unfolding compressed
  compressed_proper = either (leb p (2000 * q)) _ _ (NatL.mul-pos (omega arith) some) (omega arith)

  pub stretched_proper : Lawful l → 0 < (stretched l p q).den
  unfolding stretched
  stretched_proper h =
      either (leb p (l.e1 * q)) _ _ (NatL.mul-pos (omega (arith, h.first)) some)
      (either (leb p (l.e2 * q)) _ _ (NatL.mul-pos (omega (arith, h.second)) some)
      (either (leb p (l.e3 * q)) _ _ (NatL.mul-pos (omega (arith, h.third)) some) (omega arith)))

  pub bar_proper : (pulls : Bool) → 0 < (bar l pulls p q).den
  unfolding bar
  bar_proper pulls = either (leb (200 * p) (l.fyd * q)) _ _ some (omega arith)

-- ---- bars are the same in tension and compression
pub either_way : (l : Law) (a b : Bool) (p q : ℕ) → size (bar l a p q) ≡ size (bar l b p q)
unfolding bar size
either_way l a b p q = same (leb (200 * p) (l.fyd * q))
  where
    same : (c : Bool) → size (cond c (elastic a p q) (flat a l.fyd)) ≡ size (cond c (elastic b p q) (flat b l.fyd))
    same true = refl
    same false = refl
