-- How large a rounded stress gets: no larger than the largest number of stress in its law, and of the concrete below 2¹⁶. Assumes nothing.
use Prim.Native.Nat.{ℕ, ◌+◌, ◌*◌, ◌-◌, ◌≤◌, ◌<◌}
use mathlib.Core.Path.{◌≡◌, refl, sym, ap, ◌∙◌}
use mathlib.Core.Bool.{Bool, true, false, cond}
use native.Mathlib.Nat as NatL
use native.Mathlib.Omega.{arith}
use lib.Dec.{leb}
use borrow.Author.Tests.{leb-true, leb-false}
use Rattle.arith.proofs.Products.{sub_scale}
use Rattle.law.specs.declared.Law.{Law}
use Rattle.law.specs.Stress.{Stress, size, flat, ramp, parabola, elastic, compressed, stretched, concrete, bar}
use Rattle.law.specs.Sizes.{Small, small, size_in}
use Rattle.law.proofs.Sizes.{smalls}

-- ---- one piece or another
by : (p a m : ℕ) (t u : Stress) → (p ≤ a → size t ≤ m) → (a < p → size u ≤ m) → size (cond (leb p a) t u) ≤ m
by p a m t u h k = pick (leb p a) (leb-true p a) (leb-false p a)
  where
    pick : (c : Bool) → (c ≡ true → p ≤ a) → (c ≡ false → a < p) → size (cond c t u) ≤ m
    pick true e f = h (e refl)
    pick false e f = k (f refl)

flat_most : (pulls : Bool) (n : ℕ) → size (flat pulls n) ≤ n
unfolding size
flat_most pulls n = NatL.div-le_self n 1

ramp_most : (ea sa eb sb p q m : ℕ) → ea * q ≤ p → p ≤ eb * q → sa ≤ m → sb ≤ m → size (ramp ea sa eb sb p q) ≤ m
unfolding size
ramp_most ea sa eb sb p q m h k i j =
    let long : (eb - ea) * q ≡ (eb * q - p) + (p - ea * q) = sym (sub_scale eb ea q) ∙ omega arith in
    let first = NatL.mul-le-mul_right (eb * q - p) i in
    let second = NatL.mul-le-mul_right (p - ea * q) j in
    NatL.div-le_of_le-mul ((eb - ea) * q) (rw long (omega (arith, first, second, NatL.add-mul (eb * q - p) (p - ea * q) m)))

-- (m - w) (m + w) is at most m m
under_square : (p w m : ℕ) → p + w ≡ m → p * (m + w) ≤ m * m
under_square p w m e =
    let h : p ≤ m = omega arith in
    omega (arith, NatL.mul-add p m w, ap (λ n. n * m) e, NatL.add-mul p w m, NatL.mul_comm p w, NatL.mul-le-mul_left w h)

parabola_most : (fcd p q : ℕ) → p ≤ 2000 * q → size (parabola fcd p q) ≤ fcd
unfolding size
parabola_most fcd p q h =
    let up : 4000 * q - p ≡ 2000 * q + (2000 * q - p) = omega arith in
    let all : 2000 * q * (2000 * q) ≡ 4000000 * q * q = NatL.mul-mul-mul_comm 2000 q 2000 q ∙ sym (NatL.mul_assoc 4000000 q q) in
    let under = under_square p (2000 * q - p) (2000 * q) (omega arith) in
    NatL.div-le_of_le-mul (4000000 * q * q)
    (rw (up, NatL.mul_assoc fcd p (2000 * q + (2000 * q - p)), NatL.mul_comm (4000000 * q * q) fcd, ← all) (NatL.mul-le-mul_left fcd under))

-- ---- materials
compressed_most : (l : Law) (p q : ℕ) → size (compressed l p q) ≤ l.fcd
unfolding compressed
compressed_most l p q = by p (2000 * q) l.fcd _ _ (parabola_most l.fcd p q) (λ k. flat_most false l.fcd)

stretched_most : (l : Law) (p q m : ℕ) → l.s1 ≤ m → l.s2 ≤ m → l.s3 ≤ m → size (stretched l p q) ≤ m
unfolding stretched
stretched_most l p q m a b c =
    by p (l.e1 * q) m _ _ (λ h. ramp_most 0 0 l.e1 l.s1 p q m (omega (arith, NatL.zero-mul q)) h (omega arith) a)
    (λ i. by p (l.e2 * q) m _ _ (λ h. ramp_most l.e1 l.s1 l.e2 l.s2 p q m (omega arith) h a b)
    (λ j. by p (l.e3 * q) m _ _ (λ h. ramp_most l.e2 l.s2 l.e3 l.s3 p q m (omega arith) h b c)
    (λ k. omega (arith, flat_most true 0))))

concrete_most : (l : Law) (pulls : Bool) (p q : ℕ) → Small l → size (concrete l pulls p q) < 65536
concrete_most l true p q n = omega (arith, stretched_most l p q 65535 (omega (arith, n.s1)) (omega (arith, n.s2)) (omega (arith, n.s3)))
concrete_most l false p q n = omega (arith, compressed_most l p q, n.fcd)

pub size_in_most : (l : Law) (pulls : Bool) (p q : ℕ) → size_in l (concrete l pulls p q) < 65536
unfolding size_in
size_in_most l pulls p q = pick (small l) refl
  where
    pick : (c : Bool) → small l ≡ c → cond c (size (concrete l pulls p q)) 0 < 65536
    pick true e = concrete_most l pulls p q (smalls l e)
    pick false e = omega arith

pub bar_most : (l : Law) (pulls : Bool) (p q : ℕ) → size (bar l pulls p q) ≤ l.fyd
unfolding bar size
bar_most l pulls p q = by (200 * p) (l.fyd * q) l.fyd _ _ elastic_most (λ k. flat_most pulls l.fyd)
  where
    elastic_most : 200 * p ≤ l.fyd * q → size (elastic pulls p q) ≤ l.fyd
    elastic_most h = NatL.div-le_of_le-mul q (omega (arith, NatL.mul_comm l.fyd q))
