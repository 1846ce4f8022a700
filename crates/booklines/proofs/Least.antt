-- The least of some numbers is one of them, and none is below it. Assumes nothing.
use Prim.Native.Nat.{ℕ, zero, suc, ◌≤◌}
use mathlib.Core.Path.{◌≡◌, refl}
use mathlib.Core.Bool.{Bool, true, false, cond}
use mathlib.Core.Logic.{⊎_elim}
use native.Mathlib.Nat.{eq-or-lt_of_le}
use native.Mathlib.Omega.{arith}
use lib.IntN.{ℤ}
use Rattle.std.proofs.Common.{Option, Some, None, Bor}
use Rattle.std.specs.Option.{IfSome, option_map}
use Rattle.std.specs.Ordering.{is_lt, int_cmp}
use Rattle.std.proofs.lemmas.Int.{ints}
use lib.Signed.{lt_z, ◌≤ℤ◌, ◌<ℤ◌}
use Rattle.arith.proofs.Signed.{lt_parts, le_parts, parts_le, test_lt, test_le}
use Rattle.booklines.specs.Line.{lesser, least_to}

pub record Least (f : ℕ → ℤ) (n : ℕ) (z : ℤ) : Type 0 where
  pub below : (i : ℕ) → i ≤ n → z ≤ℤ f i
  pub at : ℕ
  pub inside : at ≤ n
  pub is : z ≡ f at

-- with one number more
least_next : (f : ℕ → ℤ) (n : ℕ) (z : ℤ) → Least f n z → Least f (suc n) (lesser z (f (suc n)))
least_next f n z l = go (lt_z (f (suc n)) z) refl
  where
    falls : lt_z (f (suc n)) z ≡ true → f (suc n) <ℤ z
    falls e = test_lt e

    go : (t : Bool) → lt_z (f (suc n)) z ≡ t → Least f (suc n) (cond t (f (suc n)) z)
    go true e = record {
      below = λ i h.
          ⊎_elim (λ q. rw q (parts_le _ _ (omega arith))) (λ q. parts_le _ _ (omega (arith, lt_parts (falls e), le_parts (l.below i (omega arith)))))
          (eq-or-lt_of_le h);
      at = suc n;
      inside = omega arith;
      is = refl;
    }
    go false e = record {
      below = λ i h. ⊎_elim (λ q. rw q (test_le e)) (λ q. l.below i (omega arith)) (eq-or-lt_of_le h);
      at = l.at;
      inside = omega (arith, l.inside);
      is = l.is;
    }

pub least_is : (f : ℕ → ℤ) (n : ℕ) → Least f n (least_to f n)
unfolding least_to
least_is f zero = record {
  below = λ i h. let e : i ≡ 0 = omega arith in rw e (parts_le _ _ (omega arith));
  at = 0;
  inside = omega arith;
  is = refl;
}
least_is f (suc n) = least_next f n (least_to f n) (least_is f n)

-- there is no second
pub least_found : {f : ℕ → ℤ} {n : ℕ} {z : ℤ} → Least f n z → z ≡ least_to f n
least_found {f} {n} {z} l =
    let m = least_is f n in
    let over : least_to f n ≤ℤ z = rw l.is (m.below l.at l.inside) in
    let under : z ≤ℤ least_to f n = rw m.is (l.below m.at m.inside) in
    omega (arith, ints)

-- what `min` picks, which no item is below, is not above the item at a place
pub below_item : (o : Option (Bor ℤ)) (m x : ℤ) → IfSome o (λ y. is_lt (int_cmp y.now m) ≡ false) → option_map (λ y. y.now) o ≡ Some x → m ≤ℤ x
below_item None m x h e = cc
below_item (Some y) m x h e = let is : y.now ≡ x = cc in let le : m ≤ℤ y.now = grind (arith, ints) in rw is at le
