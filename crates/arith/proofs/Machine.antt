-- Signed numbers in the machine: what it holds, what it reads back from their bits, and what an expression of the code stands for. Assumes nothing.
use Prim.Native.Nat.{ℕ, suc, ◌+◌, ◌*◌, ◌/◌, ◌^◌, ◌≤◌, ◌<◌}
use mathlib.Core.Path.{◌≡◌, refl, sym, ◌∙◌, subst}
use native.Mathlib.Nat as NatL
use native.Mathlib.Omega.{arith}
use lib.IntN.{ℤ, pos, negsuc, ◌+ℤ◌, ◌-ℤ◌, ◌*ℤ◌, neg_ℤ, +ℤ_idl, nat_abs}
use lib.Signed.{quot_z}
use mir.Syntax.{w32, w64}
use mir.Val.{SFits, to_z, of_z}
use mir.Facts as F
use Rattle.arith.proofs.Signed.{abs_neg, abs_add, abs_sub, abs_mul}

-- ---- what it holds
pub sfits_abs : (z : ℤ) → nat_abs z < 2 ^ 63 → SFits w64 z
sfits_abs (pos n) h = record { sfits = h }
sfits_abs (negsuc n) h = record { sfits = omega arith }

sfits_i32 : (z : ℤ) → nat_abs z < 2 ^ 31 → SFits w32 z
sfits_i32 (pos n) h = record { sfits = h }
sfits_i32 (negsuc n) h = record { sfits = omega arith }

-- ---- what it reads back
pub read32 : {z : ℤ} → SFits w32 z → to_z w32 (of_z w32 z) ≡ z
read32 s = F.to_z-of_z s

pub read : {z : ℤ} → SFits w64 z → to_z w64 (of_z w64 z) ≡ z
read s = F.to_z-of_z s

-- a number as it is read back where it was stored
abbrev pub back : ℤ → ℤ
back z = to_z w64 (of_z w64 z)

pub read_pos : (n : ℕ) → n < 2 ^ 63 → to_z w64 n ≡ pos n
read_pos n h = F.to_z_pos w64 h

-- the code's -n, of an unsigned n
minus_pos : (n : ℕ) → n < 2 ^ 63 → pos 0 -ℤ to_z w64 n ≡ neg_ℤ (pos n)
minus_pos n h = rw (read_pos n h) (+ℤ_idl (neg_ℤ (pos n)))

pub minus_fits : (n : ℕ) → n < 2 ^ 63 → SFits w64 (pos 0 -ℤ to_z w64 n)
minus_fits n h = subst (SFits w64) (sym (minus_pos n h)) (sfits_abs (neg_ℤ (pos n)) (omega (arith, abs_neg (pos n))))

pub read_minus : (n : ℕ) → n < 2 ^ 63 → to_z w64 (of_z w64 (pos 0 -ℤ to_z w64 n)) ≡ neg_ℤ (pos n)
read_minus n h = read (minus_fits n h) ∙ minus_pos n h

-- ---- an expression of the code stands for a number: what it is, and the most that its size can be
pub record Stands (x z : ℤ) (n : ℕ) : Type 0 where
  pub is : x ≡ z
  pub most : nat_abs z ≤ n

pub stands : (z : ℤ) (n : ℕ) → nat_abs z ≤ n → Stands z z n
stands z n h = record { is = refl; most = h }

module _ {x y z w : ℤ} {m n : ℕ} (h : Stands x z m) (k : Stands y w n) where
  pub stands_add : Stands (x +ℤ y) (z +ℤ w) (m + n)
  stands_add = record { is = λ i. h.is i +ℤ k.is i; most = omega (arith, abs_add z w, h.most, k.most) }

  pub stands_sub : Stands (x -ℤ y) (z -ℤ w) (m + n)
  stands_sub = record { is = λ i. h.is i -ℤ k.is i; most = omega (arith, abs_sub z w, h.most, k.most) }

  pub stands_mul : Stands (x *ℤ y) (z *ℤ w) (m * n)
  stands_mul = record { is = λ i. h.is i *ℤ k.is i; most = omega (arith, abs_mul z w, NatL.mul-le-mul h.most k.most) }

-- divided by an unsigned number, towards zero
quot_most : (z : ℤ) (d : ℕ) → nat_abs (quot_z z (pos d)) ≤ nat_abs z
quot_most (pos a) d = NatL.div-le_self a d
quot_most (negsuc a) d = omega (arith, abs_neg (pos (suc a / d)), NatL.div-le_self (suc a) d)

pub stands_quot : {x z : ℤ} {n : ℕ} (d : ℕ) → d < 2 ^ 63 → Stands x z n → Stands (quot_z x (to_z w64 d)) (quot_z z (pos d)) n
stands_quot {x} {z} d room h = record { is = λ i. quot_z (h.is i) (read_pos d room i); most = omega (arith, quot_most z d, h.most) }

module _ {x z : ℤ} {n : ℕ} (h : Stands x z n) (room : n < 2 ^ 63) where
  pub stands_fits : SFits w64 x
  stands_fits = rw h.is (sfits_abs z (omega (arith, h.most)))

  pub stored : Stands (back x) z n
  stored = record { is = read stands_fits ∙ h.is; most = h.most }

-- what a call gave, with a bound on what it is, or on itself
pub given : {x z : ℤ} (n : ℕ) → x ≡ z → nat_abs z ≤ n → n < 2 ^ 63 → Stands (back x) z n
given n e h room = stored (record { is = e; most = h }) room

pub returned : {x z : ℤ} (n : ℕ) → x ≡ z → nat_abs x ≤ n → n < 2 ^ 63 → Stands (back x) z n
returned n e h room = given n e (rw (← e) h) room

-- an unsigned number
pub stands_pos : (k n : ℕ) → k ≤ n → n < 2 ^ 63 → Stands (to_z w64 k) (pos k) n
stands_pos k n h room = record { is = read_pos k (omega arith); most = h }

-- an i32
pub stands_i32 : (z : ℤ) (n : ℕ) → nat_abs z ≤ n → n < 2 ^ 31 → Stands (to_z w32 (of_z w32 z)) z n
stands_i32 z n h room = record { is = read32 (sfits_i32 z (omega arith)); most = h }

-- what it stands for, and that it is no larger
pub stands_for : {x z : ℤ} {n : ℕ} → Stands x z n → (x ≡ z) × (nat_abs x ≤ n)
stands_for h = (h.is, rw h.is h.most)
