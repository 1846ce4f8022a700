-- Answers that are a Result: what one tells where nothing is refused, and that there is one. Assumes nothing.
use Prim.Native.Nat.{ℕ}
use mathlib.Core.Path.{◌≡◌, refl, sym, ap, ◌∙◌}
use mathlib.Core.Bool.{false≢true}
use mathlib.Core.Logic.{◌↔◌}
use mathlib.Core.List.{List}
use native.Mathlib.Omega.{arith}
use Rattle.std.specs.Prelude.{Result, Ok, Err, IfOk, IfErr, IsOk}
use Rattle.std.specs.Result.{result_map_both}
use Rattle.refusal.specs.declared.Refusal.{Refusal}
use Rattle.refusal.specs.Refusal.{number_of, Answers}
use Rattle.refusal.proofs.Answers.{number_in, number_own, of_result, one_answer}
use Rattle.section.specs.declared.Section.{Section}
use Rattle.section.specs.declared.NotAdded.{NotAdded}
use Rattle.section.specs.Added.{by_refusal}
use Rattle.demands.specs.Table.{Line, First}
use Rattle.demands.specs.Demand1.{ByTable}
use Rattle.demands.proofs.Table.{exactly}

module _ {X : Type 0} where
  -- by the table
  pub by_lines : (ls : List Line) {n : ℕ} {y : X} {x : Result X Refusal} → First ls n → Answers n y x → ByTable ls (number_of x)
  by_lines ls {n} f a = rw a.number (exactly ls n f)

  -- what holds of the value where there is no refusal
  pub if_ok : (P : X → Type 0) {n : ℕ} {y : X} {x : Result X Refusal} → (n ≡ 0 → P y) → Answers n y x → IfOk x P
  if_ok P h a = of_result (λ r. IfOk r P) a h (λ e k. tt)

  pub value_is : {n : ℕ} {y z : X} {x : Result X Refusal} → y ≡ z → Answers n y x → IfOk x (λ v. v ≡ z)
  value_is {z = z} e = if_ok (λ v. v ≡ z) (λ none. e)

  pub and_so : (P Q : X → Type 0) → ((y : X) → P y → Q y) → (x : Result X Refusal) → IfOk x P → IfOk x Q
  and_so P Q h (Ok y) p = h y p
  and_so P Q h (Err e) p = tt

  -- it is no refusal where its number is 0
  pub ok_exactly : (x : Result X Refusal) → IsOk x ↔ (number_of x ≡ 0)
  ok_exactly (Ok y) = (λ h. refl, λ h. refl)
  ok_exactly (Err e) = (λ h. absurd (false≢true h), λ h. absurd (omega (arith, (number_in e).0)))

  -- ---- two answers by one number, and by what decides the value
  pub one_by :
      (P : X → Type 0) → ((v w : X) → P v → P w → v ≡ w) → (x y : Result X Refusal) → number_of x ≡ number_of y
      → IfOk x P → IfOk y P → x ≡ y
  one_by P only (Ok v) (Ok w) n p q = ap (λ r. Ok r) (only v w p q)
  one_by P only (Ok v) (Err e) n p q = absurd (omega (arith, (number_in e).0))
  one_by P only (Err e) (Ok w) n p q = absurd (omega (arith, (number_in e).0))
  one_by P only (Err e) (Err f) n p q = ap (λ r. Err r) (number_own e f n)

  pub alike : {n m : ℕ} {v w : X} {x y : Result X Refusal} → n ≡ m → (n ≡ 0 → v ≡ w) → Answers n v x → Answers m w y → x ≡ y
  alike {w = w} e f a b = one_answer (record { number = a.number ∙ e; value = if_ok (λ v. v ≡ w) f a }) b

-- of a value that is made from another
pub made : {X Y : Type 0} (f : X → Y) {n : ℕ} {v : X} {x : Result X Refusal} → Answers n v x → Answers n (f v) (result_map_both f (λ e. e) x)
made f {n} {v} a =
    of_result (λ r. Answers n (f v) (result_map_both f (λ e. e) r)) a (λ e. record { number = sym e; value = refl }) (λ e k. record { number = k; value = tt })

-- of one without a value, by its number
pub by_number : {n : ℕ} (x : Result Unit Refusal) → number_of x ≡ n → Answers n tt x
by_number (Ok u) e = record { number = e; value = refl }
by_number (Err f) e = record { number = e; value = tt }

-- ---- of a layer that is added
pub added_ok : (P : Section → Type 0) (x : Result Section NotAdded) → IfOk (by_refusal x) P → IfOk x P
added_ok P (Ok s) p = p
added_ok P (Err e) p = tt

-- by what it is refused by, and the section beside that
abbrev returned : Section → Result Section Refusal → Result Section NotAdded
returned s = result_map_both (λ t. t) (λ r. record { refusal = r; section = s })

back_is : (s : Section) (x : Result Section NotAdded) → IfErr x (λ e. e.section ≡ s) → returned s (by_refusal x) ≡ x
back_is s (Ok t) p = refl
back_is s (Err e) p = λ i. Err (record { refusal = e.refusal; section = sym p i })

pub one_added :
    (s : Section) (x y : Result Section NotAdded) → by_refusal x ≡ by_refusal y
    → IfErr x (λ e. e.section ≡ s) → IfErr y (λ e. e.section ≡ s) → x ≡ y
one_added s x y e p q = sym (back_is s x p) ∙ ap (returned s) e ∙ back_is s y q
