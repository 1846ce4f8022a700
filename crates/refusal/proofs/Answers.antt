-- The numbers of the refusals, and what is known of an answer that may be refused. Assumes nothing.
use Prim.Native.Nat.{ℕ, ◌+◌, ◌≤◌, ◌<◌}
use mathlib.Core.Path.{◌≡◌, refl, sym, ap, ◌∙◌}
use native.Mathlib.Omega.{arith}
use Rattle.std.proofs.Common.{List, [], ◌∷◌, get_or, lit<, subst}
use Rattle.std.specs.Prelude.{Result, Ok, Err}
use Rattle.refusal.specs.declared.Refusal.{Refusal}
use Rattle.refusal.specs.declared.Refusal.TheVariants.{
  BookLength,
  BookLetters,
  BookIndex,
  BookRecords,
  RecordNumber,
  LoneRecord,
  Concrete,
  Sizes,
  BarStrength,
  Fibres,
  Load,
  Bars,
  Stirrups,
  NoDepth,
  RowLength,
  NoBars,
  Class,
  OffRange,
  Room,
  Flange,
  ResultCount,
  ResultRange,
  BelowZero,
}
use Rattle.refusal.specs.Refusal.{number, number_of, Answers}

-- ---- the numbers
-- in their order
all : List Refusal
all =
    BookLength ∷ BookLetters ∷ BookIndex ∷ BookRecords ∷ RecordNumber ∷ LoneRecord ∷ Concrete ∷ Sizes ∷
    BarStrength ∷ Fibres ∷ Load ∷ Bars ∷ Stirrups ∷ NoDepth ∷ RowLength ∷ NoBars ∷ Class ∷ OffRange ∷ Room ∷
    Flange ∷ ResultCount ∷ ResultRange ∷ BelowZero ∷ []

place : (e : Refusal) → (i : ℕ) × (i < 23) × (number e ≡ i + 1) × (get_or all i BookLength ≡ e)
unfolding all
place BookLength = (0, lit< tt, refl, refl)
place BookLetters = (1, lit< tt, refl, refl)
place BookIndex = (2, lit< tt, refl, refl)
place BookRecords = (3, lit< tt, refl, refl)
place RecordNumber = (4, lit< tt, refl, refl)
place LoneRecord = (5, lit< tt, refl, refl)
place Concrete = (6, lit< tt, refl, refl)
place Sizes = (7, lit< tt, refl, refl)
place BarStrength = (8, lit< tt, refl, refl)
place Fibres = (9, lit< tt, refl, refl)
place Load = (10, lit< tt, refl, refl)
place Bars = (11, lit< tt, refl, refl)
place Stirrups = (12, lit< tt, refl, refl)
place NoDepth = (13, lit< tt, refl, refl)
place RowLength = (14, lit< tt, refl, refl)
place NoBars = (15, lit< tt, refl, refl)
place Class = (16, lit< tt, refl, refl)
place OffRange = (17, lit< tt, refl, refl)
place Room = (18, lit< tt, refl, refl)
place Flange = (19, lit< tt, refl, refl)
place ResultCount = (20, lit< tt, refl, refl)
place ResultRange = (21, lit< tt, refl, refl)
place BelowZero = (22, lit< tt, refl, refl)

pub number_in : (e : Refusal) → (1 ≤ number e) × (number e ≤ 23)
number_in e = let p = place e in (omega arith, omega arith)

-- each has its own
pub number_own : (e f : Refusal) → number e ≡ number f → e ≡ f
number_own e f h =
    let p = place e in
    let q = place f in
    let k : p.0 ≡ q.0 = omega arith in
    sym p.3 ∙ ap (λ i. get_or all i BookLength) k ∙ q.3

-- ---- answers
module _ {X : Type 0} where
  -- by the number alone
  pub granted : (r : Result X Refusal) → number_of r ≡ 0 → (x : X) × (r ≡ Ok x)
  granted (Ok x) h = (x, refl)
  granted (Err e) h = absurd (omega (arith, (number_in e).0))

  pub refused : (r : Result X Refusal) → (number_of r ≡ 0 → ⊥) → (e : Refusal) × (r ≡ Err e) × (number e ≡ number_of r)
  refused (Ok x) h = absurd (h refl)
  refused (Err e) h = (e, refl, refl)

  module _ {n : ℕ} {x : X} where
    -- what answers x where n is 0
    pub answers : {y : X} → n ≡ 0 → y ≡ x → Answers n x (Ok y)
    answers h is = record { number = sym h; value = is }

    pub refuses : {e : Refusal} → number e ≡ n → Answers n x (Err e)
    refuses h = record { number = h; value = tt }

    -- and what it is: x where n is 0, else the refusal of that number
    pub answered : {r : Result X Refusal} → Answers n x r → n ≡ 0 → r ≡ Ok x
    answered {r = Ok y} a h = ap (λ z. Ok z) a.value
    answered {r = Err e} a h = absurd (omega (arith, (number_in e).0, a.number))

    pub not_answered : {r : Result X Refusal} → Answers n x r → (n ≡ 0 → ⊥) → (e : Refusal) × (r ≡ Err e) × (number e ≡ n)
    not_answered {r = Ok y} a h = absurd (h (sym a.number))
    not_answered {r = Err e} a h = (e, refl, a.number)

    -- what holds in both cases
    pub of_result :
        (P : Result X Refusal → Type 0) {r : Result X Refusal}
        → Answers n x r → (n ≡ 0 → P (Ok x)) → ((e : Refusal) → number e ≡ n → P (Err e)) → P r
    of_result P {r = Ok y} a h k = subst (λ z. P (Ok z)) (sym a.value) (h (sym a.number))
    of_result P {r = Err e} a h k = k e a.number

    -- there is one
    pub one_answer : {r q : Result X Refusal} → Answers n x r → Answers n x q → r ≡ q
    one_answer {r = Ok y} {q = Ok z} a b = ap (λ v. Ok v) (a.value ∙ sym b.value)
    one_answer {r = Ok y} {q = Err e} a b = absurd (omega (arith, (number_in e).0, a.number, b.number))
    one_answer {r = Err e} {q = Ok y} a b = absurd (omega (arith, (number_in e).0, a.number, b.number))
    one_answer {r = Err e} {q = Err f} a b = ap (λ v. Err v) (number_own e f (a.number ∙ sym b.number))
