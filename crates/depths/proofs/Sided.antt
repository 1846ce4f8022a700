-- The kind that a depth has by the signs of its imbalance and the next one. Assumes nothing.
use Prim.Native.Nat.{ℕ, zero, suc, ◌+◌, ◌≤◌, ◌<◌}
use mathlib.Core.Path.{◌≡◌, refl}
use mathlib.Core.Bool.{Bool, true, false, cond, ◌&&◌, ◌||◌, or-true, false≢true}
use mathlib.Core.Logic.{⊎_elim}
use native.Mathlib.Omega.{arith}
use lib.Dec.{ltb, eqb}
use lib.IntN.{ℤ, pos, negsuc, nat_abs}
use lib.Signed.{lt_z, ◌<ℤ◌}
use borrow.Author.Tests.{lt-ltb, le-ltb, ne_eqb}
use Rattle.std.specs.declared.cmp.Ordering.{Ordering}
use Rattle.std.specs.declared.cmp.Ordering.TheVariants.{Less, Equal, Greater}
use Rattle.std.specs.Ordering.{is_lt, is_gt}
use Rattle.std.specs.Prelude.{Some}
use Rattle.arith.proofs.Signed.{abs_parts, lt_test, zarith}
use Rattle.arith.proofs.Tests.{less_or_not}
use Rattle.section.specs.declared.Section.{Section}
use Rattle.forces.specs.Forces.{imbalance}
use Rattle.section.specs.Has.{last_depth}
use Rattle.depths.specs.declared.Kind.{Kind}
use Rattle.depths.specs.declared.Kind.TheVariants.{Zero, Pair}
use Rattle.depths.specs.Depths.{kind_number, opposite, kind_at}
use Rattle.depths.specs.Code.{sign_of, opposed}

pub falls : {a b : ℤ} → pos 0 <ℤ a → b <ℤ pos 0 → opposite a b ≡ true
falls p q = rw (lt_test p, lt_test q, or-true)

pub rises : {a b : ℤ} → a <ℤ pos 0 → pos 0 <ℤ b → opposite a b ≡ true
rises p q = rw (lt_test p, lt_test q)

-- ---- the sign of a number, by its two tests
by_sign : (P : Bool → Bool → Ordering → Type 0) → P true false Less → P false true Greater → P false false Equal
    → (z : ℤ) → P (lt_z z (pos 0)) (lt_z (pos 0) z) (sign_of z)
by_sign P below above none (pos zero) = rw (le-ltb 0 0 (omega arith)) none
by_sign P below above none (pos (suc n)) = rw (le-ltb (suc n) 0 (omega arith), lt-ltb 0 (suc n) (omega arith)) above
by_sign P below above none (negsuc n) = below

tests : (z : ℤ) → (lt_z z (pos 0) ≡ is_lt (sign_of z)) × (lt_z (pos 0) z ≡ is_gt (sign_of z))
tests z = by_sign (λ p q n. (p ≡ is_lt n) × (q ≡ is_gt n)) (refl, refl) (refl, refl) (refl, refl) z

pub opposite_signs : (a b : ℤ) → opposite a b ≡ opposed (Some (sign_of a)) (sign_of b)
opposite_signs a b = λ j. ((tests a).0 j && (tests b).1 j) || ((tests a).1 j && (tests b).0 j)

-- a kind is none of 0
pub kind_some : (k : Kind) → kind_number k ≡ 0 → ⊥
kind_some Zero e = omega arith
kind_some Pair e = omega arith

module _ (s : Section) (x : ℕ) where
  pub kind_one : imbalance s x ≡ pos 0 → kind_at s x ≡ 1
  unfolding kind_at
  kind_one e = rw e

  other : (imbalance s x ≡ pos 0 → ⊥) → eqb (nat_abs (imbalance s x)) 0 ≡ false
  other h = ne_eqb (nat_abs (imbalance s x)) 0 (λ z. h (omega (arith, zarith, abs_parts (imbalance s x))))

  pub kind_two : x < last_depth s → opposite (imbalance s x) (imbalance s (x + 1)) ≡ true → kind_at s x ≡ 2
  unfolding kind_at
  kind_two h e = rw (other (λ z. false≢true (rw z at e)), lt-ltb x (last_depth s) h, e)

  module _ (some : imbalance s x ≡ pos 0 → ⊥) where
    pub kind_none : x < last_depth s → opposite (imbalance s x) (imbalance s (x + 1)) ≡ false → kind_at s x ≡ 0
    unfolding kind_at
    kind_none h e = rw (other some, lt-ltb x (last_depth s) h, e)

    pub kind_last : last_depth s ≤ x → kind_at s x ≡ 0
    unfolding kind_at
    kind_last h = rw (other some, le-ltb x (last_depth s) h)

  -- the last depth has not kind 2
  pub two_inside : kind_at s x ≡ 2 → x < last_depth s
  unfolding kind_at
  two_inside e =
      ⊎_elim (λ less. less) (λ past. absurd (pick (eqb (nat_abs (imbalance s x)) 0) (rw (le-ltb x (last_depth s) past) at e)))
      (less_or_not x (last_depth s))
    where
      pick : (t : Bool) → cond {A = ℕ} t 1 0 ≡ 2 → ⊥
      pick true e = omega arith
      pick false e = omega arith

  pub kind_most : kind_at s x ≤ 2
  unfolding kind_at
  kind_most = pick (eqb (nat_abs (imbalance s x)) 0) (ltb x (last_depth s) && opposite (imbalance s x) (imbalance s (x + 1)))
    where
      pick : (t u : Bool) → cond t 1 (cond u 2 0) ≤ 2
      pick true u = omega arith
      pick false true = omega arith
      pick false false = omega arith
