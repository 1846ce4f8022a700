-- What holds of an answer, refused or not. Assumes nothing.
use Prim.Native.Nat.{ℕ, zero, suc}
use mathlib.Core.Path.{◌≡◌, refl, sym, ◌∙◌}
use native.Mathlib.Nat.{suc-ne-zero}
use lib.Dec.{eqb-suc-zero}
use native.Mathlib.Omega.{arith}
use borrow.Author.Tests.{ne_eqb}
use Rattle.std.specs.Prelude.{Result, Err}
use Rattle.refusal.specs.declared.Refusal.{Refusal}
use Rattle.refusal.specs.Refusal.{number, Answers}
use Rattle.refusal.proofs.Answers.{number_in, of_result, refuses as refuses_by}
use Rattle.arith.specs.Lines.{first_of}
use Rattle.arith.specs.Answers.{unless_refused, shape}

-- what holds in both cases
pub of_answer :
    {X : Type 0} (P : X → Type 0) (n : ℕ) (answered : X) (refused : ℕ → X)
    → (n ≡ 0 → P answered) → ((n ≡ 0 → ⊥) → P (refused n)) → P (unless_refused n answered refused)
of_answer P zero answered refused a r = a refl
of_answer P (suc n) answered refused a r = rw eqb-suc-zero (r (suc-ne-zero n))

-- of two answers by one refusal
pub of_answers :
    {X Y : Type 0} (P : X → Y → Type 0) (n : ℕ) (x : X) (y : Y) (f : ℕ → X) (g : ℕ → Y)
    → (n ≡ 0 → P x y) → ((n ≡ 0 → ⊥) → P (f n) (g n)) → P (unless_refused n x f) (unless_refused n y g)
of_answers P zero x y f g a r = a refl
of_answers P (suc n) x y f g a r = rw eqb-suc-zero (r (suc-ne-zero n))

-- it bears the number that it is refused by
pub bears :
    {X : Type 0} (f : X → ℕ) (n : ℕ) (answered : X) (refused : ℕ → X)
    → f answered ≡ 0 → f (refused n) ≡ n → f (unless_refused n answered refused) ≡ n
bears f n answered refused a r = of_answer (λ x. f x ≡ n) n answered refused (λ e. a ∙ sym e) (λ h. r)

-- it is what goes with a number that is not 0
pub refuses :
    {X : Type 0} {n k : ℕ} (answered : X) (refused : ℕ → X)
    → k ≡ n → (k ≡ 0 → ⊥) → refused k ≡ unless_refused n answered refused
refuses {n = n} answered refused is some = rw (is, ne_eqb n 0 (λ e. some (is ∙ e)))

-- where it bears no number, it is what is answered
pub granted :
    {X : Type 0} (f : X → ℕ) (n : ℕ) (answered : X) (refused : ℕ → X) → f (refused n) ≡ n
    → {x : X} → x ≡ unless_refused n answered refused → f x ≡ 0 → (n ≡ 0) × (x ≡ answered)
granted f n answered refused r is =
    rw is (of_answer (λ x. f x ≡ 0 → (n ≡ 0) × (x ≡ answered)) n answered refused (λ e h. (e, refl)) (λ k h. absurd (k (sym r ∙ h))))

-- ---- of a result
-- as one value
pub shaped :
    {X Z : Type 0} (answered : X → Z) (refused : ℕ → Z) {n : ℕ} {x : X} {r : Result X Refusal}
    → Answers n x r → shape answered refused r ≡ unless_refused n (answered x) refused
shaped answered refused {n} {x} a =
    of_result (λ r. shape answered refused r ≡ unless_refused n (answered x) refused) a
    (λ h. rw h)
    (λ e h. rw (h, ne_eqb n 0 (λ k. absurd (omega (arith, (number_in e).0)))))

-- of two tests, one after the other: the refusal of the first is handed on, or the second answers
pub handed_on : {X : Type 0} (n next : ℕ) (x : X) {e : Refusal} → number e ≡ n → Answers (first_of n next) x (Err e)
handed_on n next x {e} h = refuses_by (rw (ne_eqb n 0 (λ k. absurd (omega (arith, (number_in e).0)))) h)

pub goes_on : {X : Type 0} {n next : ℕ} {x : X} {r : Result X Refusal} → n ≡ 0 → Answers next x r → Answers (first_of n next) x r
goes_on h a = rw h a
