-- The side of a stress: its sign, what concrete and bars do on each side, and a stress from its rounded size. Assumes nothing.
use Prim.Native.Nat.{ℕ, ◌+◌, ◌*◌}
use mathlib.Core.Path.{◌≡◌, refl, sym, ◌∙◌}
use mathlib.Core.Bool.{Bool, true, false, cond}
use lib.Dec.{leb}
use lib.IntN.{pos, nat_abs, ◌+ℤ◌, ◌*ℤ◌, neg_ℤ-+ℤ}
use Rattle.arith.proofs.Signed.{abs_neg, mul_neg}
use Rattle.law.specs.declared.Law.{Law}
use Rattle.law.specs.Stress.{Stress, signed, size, rounded, flat, ramp, parabola, elastic, compressed, stretched, concrete, bar}
use Rattle.law.proofs.Continuous.{either_way}

-- ---- a number with a side's sign
pub abs_signed : (pulls : Bool) (n : ℕ) → nat_abs (signed pulls n) ≡ n
abs_signed true n = abs_neg (pos n)
abs_signed false n = refl

pub signed_add : (pulls : Bool) (m n : ℕ) → signed pulls (m + n) ≡ signed pulls m +ℤ signed pulls n
signed_add true m n = neg_ℤ-+ℤ (pos m) (pos n)
signed_add false m n = refl

pub signed_scale : (d n : ℕ) (pulls : Bool) → pos d *ℤ signed pulls n ≡ signed pulls (d * n)
signed_scale d n true = mul_neg (pos d) (pos n)
signed_scale d n false = refl

-- ---- what is stretched pulls
same_side : (c p : Bool) (t u : Stress) → t.pulls ≡ p → u.pulls ≡ p → (cond c t u).pulls ≡ p
same_side true p t u h k = h
same_side false p t u h k = k

concrete_pulls : (l : Law) (pulls : Bool) (p q : ℕ) → (concrete l pulls p q).pulls ≡ pulls
unfolding compressed stretched
concrete_pulls l true p q =
    same_side (leb p (l.e1 * q)) true (ramp 0 0 l.e1 l.s1 p q) _ refl
    (same_side (leb p (l.e2 * q)) true (ramp l.e1 l.s1 l.e2 l.s2 p q) _ refl
    (same_side (leb p (l.e3 * q)) true (ramp l.e2 l.s2 l.e3 l.s3 p q) (flat true 0) refl refl))
concrete_pulls l false p q = same_side (leb p (2000 * q)) false (parabola l.fcd p q) (flat false l.fcd) refl refl

bar_pulls : (l : Law) (pulls : Bool) (p q : ℕ) → (bar l pulls p q).pulls ≡ pulls
unfolding bar
bar_pulls l pulls p q = same_side (leb (200 * p) (l.fyd * q)) pulls (elastic pulls p q) (flat pulls l.fyd) refl refl

-- ---- a stress from its size
pub concrete_rounded : (l : Law) (pulls : Bool) (p q : ℕ) → signed pulls (size (concrete l pulls p q)) ≡ rounded (concrete l pulls p q)
unfolding rounded
concrete_rounded l pulls p q i = signed (sym (concrete_pulls l pulls p q) i) (size (concrete l pulls p q))

-- a bar's is the same both ways
pub bar_rounded : (l : Law) (pulls : Bool) (p q n : ℕ) → n ≡ size (bar l true p q) → signed pulls n ≡ rounded (bar l pulls p q)
unfolding rounded
bar_rounded l pulls p q n e i = signed (sym (bar_pulls l pulls p q) i) ((e ∙ either_way l true pulls p q) i)
