-- A rounded sum against the exact one, whatever the terms are: how far they lie apart, and what that says of the sign. Assumes nothing.
--     Within C E T A   the exact E over C lies within A of the rounded T, and strictly where A is not 0
use Prim.Native.Nat.{ℕ, zero, suc, ◌+◌, ◌-◌, ◌*◌, ◌≤◌, ◌<◌}
use mathlib.Core.Path.{◌≡◌, ap}
use native.Mathlib.Nat as NatL
use native.Mathlib.Omega.{arith}
use lib.IntN.{ℤ, pos, ◌+ℤ◌, ◌-ℤ◌, ◌*ℤ◌, neg_ℤ, nat_abs, +ℤ_invr, neg_ℤ-+ℤ}
use lib.Signed.{◌≤ℤ◌, ◌<ℤ◌}
use Rattle.arith.specs.Sums.{sum_n, sum_z}
use Rattle.arith.proofs.Signed.{up, dn, same, parts_minus, parts_add, up_neg, dn_neg, up_scale, dn_scale, mul_neg, mul_add, mul_swap, zarith}
use Rattle.arith.proofs.Signed.{abs_parts, abs_neg, abs_add, abs_mul, abs_apart}

pub record Within (C : ℕ) (E T : ℤ) (A : ℕ) : Type 0 where
  pub within : nat_abs (E -ℤ (pos C *ℤ T)) + A ≤ C * A

-- ---- a term: not rounded, or a size rounded down
pub within_exact : (C : ℕ) (T : ℤ) → Within C (pos C *ℤ T) T 0
within_exact C T = record { within = rw (+ℤ_invr (pos C *ℤ T)) (omega arith) }

within_none : (C : ℕ) → Within C (pos 0) (pos 0) 0
within_none C = rw (NatL.mul-zero C) at (within_exact C (pos 0))

pub within_floor : (C e t : ℕ) → C * t ≤ e → e < C * t + C → Within C (pos e) (pos t) 1
within_floor C e t low high = record { within = rw (abs_apart e (C * t)) (omega arith) }

-- ---- terms together
module _ {C A : ℕ} {E T : ℤ} (h : Within C E T A) where
  pub within_neg : Within C (neg_ℤ E) (neg_ℤ T) A
  within_neg = record { within = rw (mul_neg (pos C) T, ← neg_ℤ-+ℤ E (neg_ℤ (pos C *ℤ T)), abs_neg (E -ℤ (pos C *ℤ T))) h.within }

  -- with a weight of either sign
  pub within_scale : (z : ℤ) → Within C (z *ℤ E) (z *ℤ T) (nat_abs z * A)
  within_scale z = record {
    within = rw (mul_swap (pos C) z T, ← mul_neg z (pos C *ℤ T), ← mul_add z E (neg_ℤ (pos C *ℤ T)), abs_mul z (E -ℤ (pos C *ℤ T)))
        (omega (arith, NatL.mul-le-mul_left (nat_abs z) h.within));
  }

  pub within_wider : {B : ℕ} → 0 < C → A ≤ B → Within C E T B
  within_wider {B} p k = record { within = omega (arith, h.within, NatL.mul-le-mul_right (B - A) p, ap (λ n. C * n) (NatL.sub-add_cancel k)) }

  pub within_add : {B : ℕ} {F U : ℤ} → Within C F U B → Within C (E +ℤ F) (T +ℤ U) (A + B)
  within_add {B} {F} {U} k = record {
    within = rw (mul_add (pos C) T U, regroup E F (pos C *ℤ T) (pos C *ℤ U))
        (omega (arith, h.within, k.within, abs_add (E -ℤ (pos C *ℤ T)) (F -ℤ (pos C *ℤ U))));
  }
    where
      regroup : (s f p q : ℤ) → (s +ℤ f) -ℤ (p +ℤ q) ≡ (s -ℤ p) +ℤ (f -ℤ q)
      regroup s f p q = same _ _ (omega (arith, parts_minus (s +ℤ f) (p +ℤ q), parts_add s f, parts_add p q, parts_add (s -ℤ p) (f -ℤ q), parts_minus s p, parts_minus f q))

  -- ---- what it says of the sign
  pub within_above : 0 < A → pos (C * A) ≤ℤ E → pos 0 <ℤ T
  within_above p k =
      let m : C * dn T < C * up T = omega (arith, zarith, h.within, parts_minus E (pos C *ℤ T), abs_parts (E -ℤ (pos C *ℤ T)), up_scale C T, dn_scale C T) in
      omega (arith, zarith, NatL.lt_of_mul-lt-mul_left C m)

pub within_below : {C A : ℕ} {E T : ℤ} → Within C E T A → 0 < A → E ≤ℤ neg_ℤ (pos (C * A)) → T <ℤ pos 0
within_below {C} {A} {E} {T} h p k =
    let m = within_above (within_neg h) p (omega (arith, zarith, up_neg E, dn_neg E, up_neg (pos (C * A)), dn_neg (pos (C * A)))) in
    omega (arith, zarith, up_neg T, dn_neg T)

-- ---- n terms, each within H times a weight of its own
pub within_sum : (n C H : ℕ) (E T : ℕ → ℤ) (w : ℕ → ℕ) → ((i : ℕ) → i < n → Within C (E i) (T i) (w i * H)) → Within C (sum_z n E) (sum_z n T) (sum_n n w * H)
unfolding sum_z sum_n
within_sum zero C H E T w h = rw NatL.zero-mul (within_none C)
within_sum (suc n) C H E T w h = rw NatL.add-mul (within_add (within_sum n C H E T w (λ i k. h i (omega arith))) (h n (omega arith)))
