-- The rounded sizes as the code computes them, without the factors that numerator and denominator share. Assumes nothing.
use Prim.Native.Nat.{ℕ, zero, suc, ◌+◌, ◌*◌, ◌-◌, ◌/◌, ◌≤◌, ◌<◌}
use mathlib.Core.Path.{◌≡◌, refl, sym, ap, ◌∙◌}
use mathlib.Core.Bool.{Bool, true, false, cond}
use native.Mathlib.Nat as NatL
use native.Mathlib.Omega.{arith}
use lib.Dec.{ltb}
use borrow.Author.Tests.{ltb-true, lt-ltb, le-leb, lt-leb}
use Rattle.arith.proofs.Tests.{both}
use Rattle.section.specs.declared.Section.{Section}
use Rattle.section.specs.Accepted.{Accepted}
use Rattle.law.specs.declared.Law.{Law}
use Rattle.law.specs.Edition.{edition}
use Rattle.law.specs.Law.{law_of}
use Rattle.law.specs.Stress.{Stress, size, ramp, compressed, stretched, concrete, bar}
use Rattle.law.specs.Sizes.{Small, small, size_in}
use Rattle.law.proofs.Ranges.{law_in}

-- ---- a law whose numbers are small
pub smalls : (l : Law) → small l ≡ true → Small l
smalls l e =
    let p6 = both _ (ltb l.e3 65536) e in
    let p5 = both _ (ltb l.e2 65536) p6.0 in
    let p4 = both _ (ltb l.e1 65536) p5.0 in
    let p3 = both _ (ltb l.s3 65536) p4.0 in
    let p2 = both _ (ltb l.s2 65536) p3.0 in
    let p1 = both (ltb l.fcd 65536) (ltb l.s1 65536) p2.0 in
    record {
      fcd = ltb-true _ _ p1.0;
      s1 = ltb-true _ _ p1.1;
      s2 = ltb-true _ _ p2.1;
      s3 = ltb-true _ _ p3.1;
      e1 = ltb-true _ _ p4.1;
      e2 = ltb-true _ _ p5.1;
      e3 = ltb-true _ _ p6.1;
    }

pub small_is : (l : Law) → Small l → small l ≡ true
small_is l n =
    rw (
      lt-ltb l.fcd 65536 n.fcd,
      lt-ltb l.s1 65536 n.s1,
      lt-ltb l.s2 65536 n.s2,
      lt-ltb l.s3 65536 n.s3,
      lt-ltb l.e1 65536 n.e1,
      lt-ltb l.e2 65536 n.e2,
      lt-ltb l.e3 65536 n.e3,
    )

-- there is no size of a law whose numbers are not, and none without stress
pub unsized : (l : Law) (t : Stress) → small l ≡ false → size_in l t ≡ 0
unfolding size_in
unsized l t k = rw k

pub sized_none : (l : Law) (t : Stress) → size t ≡ 0 → size_in l t ≡ 0
unfolding size_in
sized_none l t z = pick (small l)
  where
    pick : (r : Bool) → cond r (size t) 0 ≡ 0
    pick true = z
    pick false = refl

pub sized : (l : Law) (t : Stress) (n : ℕ) → small l ≡ true → n ≡ size t → n ≡ size_in l t
unfolding size_in
sized l t n k e = rw k e

-- ---- compression
shared : (a t u : ℕ) → a * (500 * t) * (500 * u) ≡ 250000 * (a * (t * u))
shared a t u =
    ap (λ m. m * (500 * u)) (NatL.mul_left_comm a 500 t)
    ∙ NatL.mul_assoc 500 (a * t) (500 * u)
    ∙ ap (λ m. 500 * m) (NatL.mul_left_comm (a * t) 500 u ∙ ap (λ m. 500 * m) (NatL.mul_assoc a t u))
    ∙ omega arith

module _ (l : Law) (t q : ℕ) where
  compressed_none : t ≡ 0 → size (compressed l (500 * t) q) ≡ 0
  unfolding size compressed
  compressed_none e = rw (e, le-leb 0 (2000 * q) (omega arith), NatL.mul-zero l.fcd, NatL.zero-mul (4000 * q - 0)) (NatL.zero-div (4000000 * q * q))

  pub compressed_level : 4 * q < t → l.fcd ≡ size (compressed l (500 * t) q)
  unfolding size compressed
  compressed_level k = rw (lt-leb (500 * t) (2000 * q) (omega arith)) (sym (NatL.div-one l.fcd))

  pub compressed_rises : 0 < q → t ≤ 4 * q → l.fcd * (t * (8 * q - t)) / (16 * q * q) ≡ size (compressed l (500 * t) q)
  unfolding size compressed
  compressed_rises h k =
      let less : 4000 * q - 500 * t ≡ 500 * (8 * q - t) = omega arith in
      let den : 4000000 * q * q ≡ 250000 * (16 * q * q) = ap (λ m. m * q) (NatL.mul_assoc 250000 16 q) ∙ NatL.mul_assoc 250000 (16 * q) q in
      rw (le-leb (500 * t) (2000 * q) (omega arith), less, shared l.fcd t (8 * q - t), den)
      (sym (NatL.mul-div-mul_left {m = 250000} (l.fcd * (t * (8 * q - t))) (16 * q * q) (omega arith)))

-- ---- tension
module _ (l : Law) (p q : ℕ) where
  stretched_none : p ≡ 0 → size (stretched l p q) ≡ 0
  unfolding size stretched
  stretched_none e =
      let nought : l.s1 * (0 - 0 * q) ≡ 0 = ap (λ m. l.s1 * (0 - m)) (NatL.zero-mul q) ∙ NatL.mul-zero l.s1 in
      rw (e, le-leb 0 (l.e1 * q) (omega arith), NatL.zero-mul (l.e1 * q - 0), nought) (NatL.zero-div ((l.e1 - 0) * q))

  pub stretched_first : p ≤ l.e1 * q → size (ramp 0 0 l.e1 l.s1 p q) ≡ size (stretched l p q)
  unfolding stretched
  stretched_first a = rw (le-leb p (l.e1 * q) a)

  pub stretched_second : l.e1 * q < p → p ≤ l.e2 * q → size (ramp l.e1 l.s1 l.e2 l.s2 p q) ≡ size (stretched l p q)
  unfolding stretched
  stretched_second a b = rw (lt-leb p (l.e1 * q) a, le-leb p (l.e2 * q) b)

  pub stretched_third : l.e1 * q < p → l.e2 * q < p → p ≤ l.e3 * q → size (ramp l.e2 l.s2 l.e3 l.s3 p q) ≡ size (stretched l p q)
  unfolding stretched
  stretched_third a b c = rw (lt-leb p (l.e1 * q) a, lt-leb p (l.e2 * q) b, le-leb p (l.e3 * q) c)

  pub stretched_beyond : l.e1 * q < p → l.e2 * q < p → l.e3 * q < p → 0 ≡ size (stretched l p q)
  unfolding stretched size
  stretched_beyond a b c = rw (lt-leb p (l.e1 * q) a, lt-leb p (l.e2 * q) b, lt-leb p (l.e3 * q) c)

-- ---- either
pub concrete_none : (l : Law) (pulls : Bool) (t q : ℕ) → t ≡ 0 → size (concrete l pulls (500 * t) q) ≡ 0
concrete_none l true t q e = stretched_none l (500 * t) q (omega arith)
concrete_none l false t q e = compressed_none l t q e

-- ---- a line that a strain is on has a length
pub length_of : (ea eb p q : ℕ) → ea * q < p → p ≤ eb * q → (ea < eb) × ((eb - ea) * q + ea * q ≡ eb * q)
length_of ea eb p q h k =
    let l : ea < eb = NatL.lt_of_mul-lt-mul_right q (omega arith) in
    (l, sym (NatL.add-mul (eb - ea) ea q) ∙ ap (λ m. m * q) (omega arith))

-- ---- bars
module _ (l : Law) (t q : ℕ) where
  pub bar_none : t ≡ 0 → 0 ≡ size (bar l true (500 * t) q)
  unfolding bar size
  bar_none e = rw (e, le-leb 0 (l.fyd * q) (omega arith)) (sym (NatL.zero-div q))

  pub bar_yields : l.fyd * q < 100000 * t → l.fyd ≡ size (bar l true (500 * t) q)
  unfolding bar size
  bar_yields a = rw (lt-leb (200 * (500 * t)) (l.fyd * q) (omega arith)) (sym (NatL.div-one l.fyd))

  pub bar_elastic : 100000 * t ≤ l.fyd * q → 100000 * t / q ≡ size (bar l true (500 * t) q)
  unfolding bar size
  bar_elastic a = rw (le-leb (200 * (500 * t)) (l.fyd * q) (omega arith)) (ap (λ m. m / q) (omega arith))

-- what bears a load has an area to bear it on
pub divides : (a b q : ℕ) → 0 < a → a ≤ b * q → 0 < q
divides a b zero h k = absurd (omega arith)
divides a b (suc q) h k = omega arith

-- ---- what each function's goals want
pub ruleset in_compression = (compressed_level, compressed_rises)

pub ruleset in_tension = (stretched_first, stretched_second, stretched_third, stretched_beyond)

pub ruleset of_concrete = (smalls, unsized, sized_none, sized, concrete_none)

pub ruleset of_bars = (bar_none, bar_yields, bar_elastic, divides)

-- ---- every accepted section's law is small
pub law_small : {s : Section} → Accepted s → Small (law_of s)
unfolding edition
law_small a =
    let n = law_in a in
    record {
      fcd = omega (arith, n.fcd.1);
      s1 = omega (arith, n.s1.1);
      s2 = omega (arith, n.s2);
      s3 = omega (arith, n.s3);
      e1 = omega (arith, n.e1.1);
      e2 = omega (arith, n.e2.1);
      e3 = omega (arith, n.e3);
    }

pub small_law : {s : Section} → Accepted s → small (law_of s) ≡ true
small_law {s} a = small_is (law_of s) (law_small a)
