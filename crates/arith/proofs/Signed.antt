-- Signed numbers, by their two parts, so that what is to be shown of one is a fact of ℕ, which `omega` proves. Assumes nothing.
--     up z, dn z   z is up z - dn z, and one of them is 0
use Prim.Native.Nat.{ℕ, zero, suc, ◌+◌, ◌-◌, ◌*◌, ◌≤◌, ◌<◌}
use mathlib.Core.Path.{◌≡◌, refl, sym, ap, ◌∙◌, subst}
use mathlib.Core.Bool.{Bool, true, false, not, cond, true≢false}
use mathlib.Core.Logic.{◌⊎◌, inl, inr, ⊎_elim}
use native.Mathlib.Nat as NatL
use native.Mathlib.Omega.{arith}
use lib.Dec.{T, ltb, ltb→lt, nltb→le, lt→ltb, le→leb, leb→le}
use lib.IntN.{ℤ, pos, negsuc, ◌+ℤ◌, ◌-ℤ◌, ◌*ℤ◌, neg_ℤ, sub_ℕ, *ℤ-zero, *ℤ-negsuc, neg_ℤ-neg_ℤ, nat_abs}
use lib.Ieee.Bits.{is_true}
use lib.Signed.{non_neg, lt_z, le_z, ◌≤ℤ◌, ◌<ℤ◌, le_z_yes, lt_z_yes, lt_z_no}
use Rattle.arith.proofs.Tests.{Decides}

-- ---- the two parts of an integer
abbrev pub up : ℤ → ℕ
up (pos n) = n
up (negsuc n) = 0

abbrev pub dn : ℤ → ℕ
dn (pos n) = 0
dn (negsuc n) = suc n

-- one part is 0
pub one_part : (z : ℤ) → (up z ≡ 0) ⊎ (dn z ≡ 0)
one_part (pos n) = inr refl
one_part (negsuc n) = inl refl

-- two integers are one where their parts say so
pub same : (x y : ℤ) → up x + dn y ≡ up y + dn x → x ≡ y
same (pos a) (pos b) e = ap pos (omega arith)
same (pos a) (negsuc b) e = absurd (omega arith)
same (negsuc a) (pos b) e = absurd (omega arith)
same (negsuc a) (negsuc b) e = ap negsuc (omega arith)

-- ---- the operations, by the parts: linear facts for `omega`
cond_ind : (c : Bool) (x y : ℤ) (P : ℤ → Type 0) → (T c → P x) → (T (not c) → P y) → P (cond c x y)
cond_ind true x y P f g = f tt
cond_ind false x y P f g = g tt

parts_sub : (a b : ℕ) → up (sub_ℕ a b) + b ≡ a + dn (sub_ℕ a b)
parts_sub a b = cond_ind (ltb a b) (negsuc (b - suc a)) (pos (a - b)) (λ z. up z + b ≡ a + dn z)
    (λ t. let h : a < b = ltb→lt a b t in omega arith) (λ t. let h : b ≤ a = nltb→le a b t in omega arith)

pub parts_add : (x y : ℤ) → up (x +ℤ y) + (dn x + dn y) ≡ (up x + up y) + dn (x +ℤ y)
parts_add (pos a) (pos b) = omega arith
parts_add (pos a) (negsuc b) = omega (arith, parts_sub a (suc b))
parts_add (negsuc a) (pos b) = omega (arith, parts_sub b (suc a))
parts_add (negsuc a) (negsuc b) = omega arith

pub up_neg : (x : ℤ) → up (neg_ℤ x) ≡ dn x
up_neg (pos zero) = refl
up_neg (pos (suc n)) = refl
up_neg (negsuc n) = refl

pub dn_neg : (x : ℤ) → dn (neg_ℤ x) ≡ up x
dn_neg (pos zero) = refl
dn_neg (pos (suc n)) = refl
dn_neg (negsuc n) = refl

pub parts_minus : (x y : ℤ) → up (x -ℤ y) + (dn x + up y) ≡ (up x + dn y) + dn (x -ℤ y)
parts_minus x y = omega (arith, parts_add x (neg_ℤ y), up_neg y, dn_neg y)

pub up_scale : (n : ℕ) (x : ℤ) → up (pos n *ℤ x) ≡ n * up x
up_scale n (pos a) = refl
up_scale n (negsuc a) = up_neg (pos (n * suc a)) ∙ sym (NatL.mul-zero n)

pub dn_scale : (n : ℕ) (x : ℤ) → dn (pos n *ℤ x) ≡ n * dn x
dn_scale n (pos a) = sym (NatL.mul-zero n)
dn_scale n (negsuc a) = dn_neg (pos (n * suc a))

-- ---- the product of two integers
pub parts_mul : (x y : ℤ) → up (x *ℤ y) + (up x * dn y + dn x * up y) ≡ (up x * up y + dn x * dn y) + dn (x *ℤ y)
parts_mul (pos a) (pos b) = omega (arith, NatL.mul-zero a, NatL.zero-mul b)
parts_mul (pos a) (negsuc b) = omega (arith, NatL.mul-zero a, NatL.zero-mul (suc b), up_neg (pos (a * suc b)), dn_neg (pos (a * suc b)))
parts_mul (negsuc a) (pos b) = omega (arith, NatL.mul-zero (suc a), NatL.zero-mul b, up_neg (pos (suc a * b)), dn_neg (pos (suc a * b)))
parts_mul (negsuc a) (negsuc b) = omega (arith, NatL.mul-zero (suc a), NatL.zero-mul (suc b))

pub mul_neg : (x y : ℤ) → x *ℤ neg_ℤ y ≡ neg_ℤ (x *ℤ y)
mul_neg x (pos zero) = rw (*ℤ-zero x)
mul_neg x (pos (suc n)) = *ℤ-negsuc x n
mul_neg x (negsuc n) = rw (*ℤ-negsuc x n) (sym (neg_ℤ-neg_ℤ (x *ℤ pos (suc n))))

pub mul_add : (x y z : ℤ) → x *ℤ (y +ℤ z) ≡ (x *ℤ y) +ℤ (x *ℤ z)
mul_add x y z = same _ _ (omega (
  arith,
  parts_mul x (y +ℤ z),
  parts_add (x *ℤ y) (x *ℤ z),
  parts_mul x y,
  parts_mul x z,
  ap (λ n. up x * n) (parts_add y z),
  ap (λ n. dn x * n) (parts_add y z),
))

pub mul_swap : (x y z : ℤ) → x *ℤ (y *ℤ z) ≡ y *ℤ (x *ℤ z)
mul_swap x y z = same _ _ (omega (
  arith,
  parts_mul x (y *ℤ z),
  parts_mul y (x *ℤ z),
  ap (λ n. up x * n) (parts_mul y z),
  ap (λ n. dn x * n) (parts_mul y z),
  ap (λ n. up y * n) (parts_mul x z),
  ap (λ n. dn y * n) (parts_mul x z),
))

-- ---- the size of an integer
pub abs_parts : (z : ℤ) → nat_abs z ≡ up z + dn z
abs_parts (pos n) = omega arith
abs_parts (negsuc n) = omega arith

pub abs_neg : (z : ℤ) → nat_abs (neg_ℤ z) ≡ nat_abs z
abs_neg (pos zero) = refl
abs_neg (pos (suc n)) = refl
abs_neg (negsuc n) = refl

pub abs_add : (x y : ℤ) → nat_abs (x +ℤ y) ≤ nat_abs x + nat_abs y
abs_add x y =
    ⊎_elim (λ e. omega (arith, parts_add x y, abs_parts x, abs_parts y, abs_parts (x +ℤ y)))
    (λ e. omega (arith, parts_add x y, abs_parts x, abs_parts y, abs_parts (x +ℤ y)))
    (one_part (x +ℤ y))

pub abs_sub : (x y : ℤ) → nat_abs (x -ℤ y) ≤ nat_abs x + nat_abs y
abs_sub x y = omega (arith, abs_add x (neg_ℤ y), abs_neg y)

pub abs_mul : (x y : ℤ) → nat_abs (x *ℤ y) ≡ nat_abs x * nat_abs y
abs_mul (pos a) (pos b) = refl
abs_mul (pos a) (negsuc b) = abs_neg (pos (a * suc b))
abs_mul (negsuc a) (pos b) = abs_neg (pos (suc a * b))
abs_mul (negsuc a) (negsuc b) = refl

-- of the distance between two numbers
pub abs_apart : (a b : ℕ) → nat_abs (pos a -ℤ pos b) ≡ (a - b) + (b - a)
abs_apart a b =
    let z : ℤ = pos a -ℤ pos b in
    let p = parts_minus (pos a) (pos b) in
    let n = abs_parts z in
    ⊎_elim (λ e. omega arith) (λ e. omega arith) (one_part z)

-- how far a position of 0 to 2 h lies from h
pub lever_most : (h position : ℕ) → position ≤ 2 * h → nat_abs (pos h -ℤ pos position) ≤ h
lever_most h position k = rw (abs_apart h position) (omega arith)

-- ---- the order
pub lt_parts : {x y : ℤ} → x <ℤ y → up x + dn y < up y + dn x
lt_parts {x = pos a} {y = pos b} h = omega (arith, ltb→lt a b h.lt)
lt_parts {x = pos a} {y = negsuc b} h = absurd h.lt
lt_parts {x = negsuc a} {y = pos b} h = omega arith
lt_parts {x = negsuc a} {y = negsuc b} h = omega (arith, ltb→lt b a h.lt)

pub le_parts : {x y : ℤ} → x ≤ℤ y → up x + dn y ≤ up y + dn x
le_parts {x = pos a} {y = pos b} h = omega (arith, leb→le a b h.le)
le_parts {x = pos a} {y = negsuc b} h = absurd h.le
le_parts {x = negsuc a} {y = pos b} h = omega arith
le_parts {x = negsuc a} {y = negsuc b} h = omega (arith, leb→le b a h.le)

pub parts_lt : (x y : ℤ) → up x + dn y < up y + dn x → x <ℤ y
parts_lt (pos a) (pos b) h = record { lt = lt→ltb a b (omega arith) }
parts_lt (pos a) (negsuc b) h = absurd (omega arith)
parts_lt (negsuc a) (pos b) h = record { lt = tt }
parts_lt (negsuc a) (negsuc b) h = record { lt = lt→ltb b a (omega arith) }

pub parts_le : (x y : ℤ) → up x + dn y ≤ up y + dn x → x ≤ℤ y
parts_le (pos a) (pos b) h = record { le = le→leb a b (omega arith) }
parts_le (pos a) (negsuc b) h = absurd (omega arith)
parts_le (negsuc a) (pos b) h = record { le = tt }
parts_le (negsuc a) (negsuc b) h = record { le = le→leb b a (omega arith) }

pub eq_parts : {x y : ℤ} → x ≡ y → up x + dn y ≡ up y + dn x
eq_parts e = rw e

-- a test's flag
pub lt_test : {x y : ℤ} → x <ℤ y → lt_z x y ≡ true
lt_test h = is_true _ h.lt

pub test_lt : {x y : ℤ} → lt_z x y ≡ true → x <ℤ y
test_lt e = lt_z_yes (subst T (sym e) tt)

pub test_le : {x y : ℤ} → lt_z x y ≡ false → y ≤ℤ x
test_le e = lt_z_no (subst (λ (b : Bool). T (not b)) (sym e) tt)

pub is_le_z : (x y : ℤ) → Decides (le_z x y) (x ≤ℤ y)
is_le_z x y = (λ e. le_z_yes (subst T (sym e) tt), λ h. is_true _ h.le)

pub not_below : (z : ℤ) → lt_z z (pos 0) ≡ false → T (non_neg z)
not_below (pos n) e = tt
not_below (negsuc n) e = absurd (true≢false e)

-- `omega (arith, zarith, ..)` reads and proves orders and equations of ℤ. What it does not find by itself is listed at its operands:
-- `parts_add x y`, `parts_minus x y`, `up_scale n x`, `dn_scale n x`, `up_neg x`, `dn_neg x`, `abs_parts x`
pub ruleset zarith = (lt_parts, le_parts, eq_parts, parts_lt, parts_le, same)
