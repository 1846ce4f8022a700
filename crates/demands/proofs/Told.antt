-- The list's answer and the first depth's are decided by what they tell: 14 and 15 of an accepted section have work beside them, and so are told from a
-- refusal that is handed on. Assumes nothing.
use Prim.Native.Nat.{ℕ, ◌<◌}
use mathlib.Core.Path.{◌≡◌, refl, sym, ap, ◌∙◌}
use mathlib.Core.Bool.{true}
use mathlib.Core.Logic.{⊎_elim}
use native.Mathlib.Nat.{mul-pos, eq-zero-or-pos}
use native.Mathlib.Omega.{arith}
use borrow.Author.Tests.{ne_eqb}
use Rattle.std.specs.Prelude.{Result, Ok, Err}
use Rattle.arith.proofs.Answers.{of_answer}
use Rattle.refusal.specs.declared.Refusal.{Refusal}
use Rattle.refusal.specs.Refusal.{number}
use Rattle.refusal.proofs.Answers.{number_in, number_own}
use Rattle.section.specs.declared.Section.{Section}
use Rattle.section.specs.Refusal.{section_refusal}
use Rattle.section.proofs.Accepted.{accepted}
use Rattle.depths.specs.declared.Kind.{Kind}
use Rattle.depths.specs.declared.Kind.TheVariants.{Zero, Pair}
use Rattle.depths.specs.declared.Listing.{Listing}
use Rattle.depths.specs.declared.FirstDepth.{FirstDepth}
use Rattle.depths.specs.declared.Unlisted.{Unlisted}
use Rattle.depths.specs.declared.Unlisted.TheVariants.{Refused, NoDepth, RowShort}
use Rattle.depths.specs.Depths.{kind_number}
use Rattle.depths.specs.Answers.{ListAnswer, FirstAnswer, depths_refusal, whole_work, unlisted, list_answer, first_answer, told, told_first}
use Rattle.depths.proofs.Answers.{of_first, first_number}
use Rattle.demands.specs.Table.{section_lines, first_lines}
use Rattle.demands.proofs.Table.{lacks, never, section_first, depth_first}

some_number : (e : Refusal) → 0 < number e
some_number e = omega (arith, (number_in e).0)

-- ---- work beside 14 and 15
module _ (s : Section) where
  some_work : section_refusal s ≡ 0 → 0 < whole_work s
  some_work ok =
      let high = (accepted s ok).sizes in
      mul-pos (omega arith) (omega arith)

  pub list_worked :
      (room k : ℕ) → lacks k (section_lines s) ≡ true → 0 < k → {x : ListAnswer} → x ≡ list_answer s room → x.refusal ≡ k → 0 < x.work
  unfolding list_answer
  list_worked room k t some is =
      rw is
      (of_answer (λ (x : ListAnswer). x.refusal ≡ k → 0 < x.work) (section_refusal s) _ unlisted (λ ok e. some_work ok)
      (λ f e. absurd (never k (section_lines s) some t (section_first s) e)))

  -- 14 is no section's
  by_14 : depths_refusal s ≡ 14 → section_refusal s ≡ 0
  unfolding depths_refusal
  by_14 e =
      ⊎_elim (λ ok. ok)
      (λ some. absurd (never 14 (section_lines s) (omega arith) refl (section_first s) (rw (ne_eqb (section_refusal s) 0 (λ z. omega arith)) at e)))
      (eq-zero-or-pos (section_refusal s))

  pub first_worked : {x : FirstAnswer} → x ≡ first_answer s → x.refusal ≡ 14 → 0 < x.work
  first_worked =
      of_first (λ (x : FirstAnswer). x.refusal ≡ 14 → 0 < x.work) s
      (λ f e. absurd (never 14 (section_lines s) (omega arith) refl (section_first s) e))
      (λ e h. some_work (by_14 e)) (λ e h. absurd (omega arith))

  pub first_not_short : {x : FirstAnswer} → x ≡ first_answer s → x.refusal ≡ 15 → ⊥
  first_not_short is e = never 15 (first_lines s) (omega arith) refl (depth_first s) (sym (first_number s is) ∙ e)

-- ---- the list
unlisted_some : (u : Unlisted) → 0 < (told (Err u)).refusal
unlisted_some (Refused e) = some_number e
unlisted_some (NoDepth w) = omega arith
unlisted_some (RowShort c w) = omega arith

pub one_list :
    (x y : Result Listing Unlisted) → told x ≡ told y → ((told x).refusal ≡ 14 → 0 < (told x).work) → ((told x).refusal ≡ 15 → 0 < (told x).work)
    → x ≡ y
one_list (Ok l) (Ok m) e h k = λ i. Ok (record { count = (e i).count; work = (e i).work })
one_list (Ok l) (Err u) e h k = absurd (omega (arith, unlisted_some u, ap (λ (a : ListAnswer). a.refusal) e))
one_list (Err u) (Ok l) e h k = absurd (omega (arith, unlisted_some u, ap (λ (a : ListAnswer). a.refusal) e))
one_list (Err (Refused f)) (Err (Refused g)) e h k = ap (λ r. Err (Refused r)) (number_own f g (ap (λ (a : ListAnswer). a.refusal) e))
one_list (Err (NoDepth v)) (Err (NoDepth w)) e h k = λ i. Err (NoDepth (e i).work)
one_list (Err (RowShort c v)) (Err (RowShort d w)) e h k = λ i. Err (RowShort (e i).count (e i).work)
one_list x y e h k = absurd (omega (arith, ap (λ (a : ListAnswer). a.refusal) e, ap (λ (a : ListAnswer). a.work) e, h, k))

-- ---- the first depth: never refused by 15
kind_own : (a b : Kind) → kind_number a ≡ kind_number b → a ≡ b
kind_own Zero Zero e = refl
kind_own Pair Pair e = refl
kind_own a b e = absurd (omega arith)

no_first_some : (u : Unlisted) → 0 < (told_first (Err u)).refusal
no_first_some (Refused e) = some_number e
no_first_some (NoDepth w) = omega arith
no_first_some (RowShort c w) = omega arith

pub one_first :
    (x y : Result FirstDepth Unlisted) → told_first x ≡ told_first y → ((told_first x).refusal ≡ 14 → 0 < (told_first x).work)
    → ((told_first x).refusal ≡ 15 → ⊥) → x ≡ y
one_first (Ok f) (Ok g) e h k =
    let kind = kind_own f.kind g.kind (ap (λ (a : FirstAnswer). a.kind) e) in
    λ i. Ok (record { depth = (e i).depth; kind = kind i; work = (e i).work; moment = (e i).moment })
one_first (Ok f) (Err u) e h k = absurd (omega (arith, no_first_some u, ap (λ (a : FirstAnswer). a.refusal) e))
one_first (Err u) (Ok f) e h k = absurd (omega (arith, no_first_some u, ap (λ (a : FirstAnswer). a.refusal) e))
one_first (Err (Refused f)) (Err (Refused g)) e h k = ap (λ r. Err (Refused r)) (number_own f g (ap (λ (a : FirstAnswer). a.refusal) e))
one_first (Err (NoDepth v)) (Err (NoDepth w)) e h k = λ i. Err (NoDepth (e i).work)
one_first (Err (RowShort c v)) (Err u) e h k = absurd (k refl)
one_first x y e h k = absurd (omega (arith, ap (λ (a : FirstAnswer). a.refusal) e, ap (λ (a : FirstAnswer). a.work) e, h, k))
