-- An array made by a closure that no call changes, place by place. Assumes nothing.
use Prim.Native.Nat.{ℕ, zero, suc, ◌+◌, ◌≤◌, ◌<◌}
use mathlib.Core.Path.{◌≡◌, refl, subst, ◌∙◌}
use mathlib.Core.List.{List}
use mathlib.Core.Logic.{⊎_elim}
use native.Mathlib.Nat.{eq-or-lt_of_le}
use native.Mathlib.Omega.{arith}
use lib.ListN.{get_or}
use denote.Param.Members.{Mut, Called}
use Rattle.std.specs.Array.{IsFromFnResultFrom, IsFromFnResult}

module _
    {F B : Type 0} {g : Mut F (ℕ × Unit {0}) B} (value : ℕ → B) {f : F}
    (says : (i : ℕ) (y : B) (q : F) → Called g f (i, tt) y q → (y ≡ value i) × (q ≡ f)) where
  made_from :
      (ys : List B) (q : F) (i n : ℕ) → q ≡ f → IsFromFnResultFrom g q ys i n
      → (k : ℕ) (d : B) → i ≤ k → k < i + n → get_or ys k d ≡ value k
  made_from ys q i zero e r k d l h = absurd (omega arith)
  made_from ys q i (suc n) e r k d l h =
      let one = says i r.1 r.0 (subst (λ (x : F). Called g x (i, tt) r.1 r.0) e r.3) in
      ⊎_elim (λ here. subst (λ (j : ℕ). get_or ys j d ≡ value j) here (r.2.1 d ∙ one.0))
      (λ past. made_from ys r.0 (i + 1) n one.1 r.4 k d (omega arith) (omega arith)) (eq-or-lt_of_le l)

  pub made : {ys : List B} {n : ℕ} → IsFromFnResult g f ys n → (k : ℕ) (d : B) → k < n → get_or ys k d ≡ value k
  made r k d h = made_from _ f 0 _ refl r.each k d (omega arith) (omega arith)
