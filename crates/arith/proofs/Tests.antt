-- Tests that hold together, what a test decides, and a test that the checker computes over a whole table. Assumes nothing.
use Prim.Native.Nat.{ℕ, zero, suc, ◌-◌, ◌≤◌, ◌<◌}
use mathlib.Core.Path.{◌≡◌, refl}
use mathlib.Core.Bool.{Bool, true, false, not, ◌&&◌, ◌||◌, true≢false, false≢true}
use mathlib.Core.Logic.{◌⊎◌, inl, inr, ⊎_elim, ◌↔◌}
use native.Mathlib.Nat.{eq-or-lt_of_le, eq-zero-or-pos}
use native.Mathlib.Omega.{arith}
use lib.Dec.{ltb, leb, eqb, eqb-suc-zero}
use borrow.Author.Tests.{ltb-true, ltb-false, leb-true, eqb-true, not-true, lt-ltb, le-ltb, le-leb, eq-eqb}
use Rattle.arith.specs.Below.{all_below}

pub both : (a b : Bool) → a && b ≡ true → (a ≡ true) × (b ≡ true)
both true b e = (refl, e)
both false b e = absurd (false≢true e)

pub neither : (a b : Bool) → a || b ≡ false → (a ≡ false) × (b ≡ false)
neither false b e = (refl, e)
neither true b e = absurd (true≢false e)

pub all_below_is : (n : ℕ) (p : ℕ → Bool) → all_below n p ≡ true → (i : ℕ) → i < n → p i ≡ true
unfolding all_below
all_below_is zero p e i h = absurd (omega arith)
all_below_is (suc n) p e i h =
    let k = both (all_below n p) (p n) e in
    ⊎_elim (λ j. rw j k.1) (λ j. all_below_is n p k.0 i j) (eq-or-lt_of_le {n = i} {m = n} (omega arith))

pub below_all : (n : ℕ) (p : ℕ → Bool) → ((i : ℕ) → i < n → p i ≡ true) → all_below n p ≡ true
unfolding all_below
below_all zero p h = refl
below_all (suc n) p h = rw (below_all n p (λ i l. h i (omega arith)), h n (omega arith))

pub less_or_not : (a b : ℕ) → (a < b) ⊎ (b ≤ a)
less_or_not a b = ⊎_elim (λ e. inr (omega arith)) (λ h. inl (omega arith)) (eq-zero-or-pos (b - a))

-- ---- a test that passes exactly where something holds
abbrev pub Decides : Bool → Type 0 → Type 0
Decides t P = (t ≡ true) ↔ P

pub is_less : (a b : ℕ) → Decides (ltb a b) (a < b)
is_less a b = (ltb-true a b, lt-ltb a b)

pub is_most : (a b : ℕ) → Decides (leb a b) (a ≤ b)
is_most a b = (leb-true a b, le-leb a b)

pub is_same : (a b : ℕ) → Decides (eqb a b) (a ≡ b)
is_same a b = (eqb-true a b, eq-eqb a b)

pub is_both : {s t : Bool} {P Q : Type 0} → Decides s P → Decides t Q → Decides (s && t) (P × Q)
is_both {s} {t} p q = (λ e. let k = both s t e in (p.0 k.0, q.0 k.1), λ w. rw (p.1 w.0, q.1 w.1))

pub is_not_less : (a b : ℕ) → Decides (not (ltb a b)) (b ≤ a)
is_not_less a b = (λ e. ltb-false a b (not-true _ e), λ h. rw (le-ltb a b h))

-- asked only of a number that is not 0
pub is_unless_zero : (n : ℕ) {t : Bool} {P : Type 0} → Decides t P → Decides (eqb n 0 || t) (0 < n → P)
is_unless_zero zero p = (λ e h. absurd (omega arith), λ f. refl)
is_unless_zero (suc n) p = rw eqb-suc-zero (λ e h. p.0 e, λ f. p.1 (f (omega arith)))
