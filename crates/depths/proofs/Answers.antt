-- The answers of `depths` and `first`, and what they tell. Assumes nothing.
use Prim.Native.Nat.{ℕ, suc, ◌*◌, ◌≤◌, ◌<◌}
use mathlib.Core.Path.{◌≡◌, refl, sym, ap, ◌∙◌}
use mathlib.Core.Bool.{Bool, true, false}
use mathlib.Core.List.{List}
use native.Mathlib.Nat.{pos_of_ne-zero}
use native.Mathlib.Omega.{arith}
use lib.Dec.{ltb, leb, eqb}
use lib.IntN.{ℤ}
use lib.ListN.{length}
use borrow.Author.Tests.{ltb-false, ne_eqb, lt-ltb, lt-leb, le-leb}
use Rattle.std.specs.Prelude.{Option, None, Some}
use Rattle.refusal.specs.declared.Refusal.{Refusal}
use Rattle.refusal.specs.Refusal.{number}
use Rattle.refusal.proofs.Answers.{number_in}
use Rattle.arith.specs.Lines.{line, first_of}
use Rattle.arith.proofs.Tests.{is_less}
use Rattle.arith.proofs.Answers.{of_answer}
use Rattle.arith.proofs.Lines.{passes, none_of}
use Rattle.section.specs.declared.Section.{Section}
use Rattle.section.specs.Refusal.{section_refusal}
use Rattle.section.specs.Has.{last_depth}
use Rattle.forces.specs.Forces.{moment}
use Rattle.depths.specs.declared.walk.Listed.{Listed}
use Rattle.depths.specs.declared.walk.Walk.{Walk}
use Rattle.depths.specs.Depths.{kind_number, entry_of, kind_at, listed, written}
use Rattle.depths.specs.Answers.{ListAnswer, FirstAnswer, depths_refusal, list_refusal, work_to, whole_work, last_looked, unlisted, no_depth, no_first}
use Rattle.depths.specs.Answers.{list_answer, row_after, first_of_list, first_answer}
use Rattle.depths.specs.Walk.{open_at, NextListed}
use Rattle.depths.proofs.Sided.{kind_some}
use Rattle.depths.proofs.Listed.{empty_list, list_first}

-- ---- a section that is refused
refused_by : (s : Section) (e : Refusal) → number e ≡ section_refusal s → eqb (section_refusal s) 0 ≡ false
refused_by s e is = ne_eqb (section_refusal s) 0 (λ z. omega (arith, (number_in e).0))

-- ---- the list
module _ (s : Section) (row : List ℤ) where
  abbrev Answered : ListAnswer → List ℤ → Type 0
  Answered a after = (a ≡ list_answer s (length row)) × (after ≡ row_after s row)

  pub refuses_list : (e : Refusal) → number e ≡ section_refusal s → Answered (unlisted (number e)) row
  unfolding list_answer list_refusal depths_refusal row_after
  refuses_list e is = let some = refused_by s e is in (rw (some, is), rw (some, some, some))

  module _ (ok : section_refusal s ≡ 0) {n w : ℕ} (count : n ≡ length (listed s)) (took : w ≡ whole_work s) where
    pub lists_none : n ≡ 0 → Answered (record { refusal = 14; count = 0; work = w }) row
    unfolding list_answer list_refusal depths_refusal row_after
    lists_none e = let c = sym count ∙ e in (rw (ok, c, took), rw (ok, c))

    module _ (has : n ≡ 0 → ⊥) where
      there : ltb 0 (length (listed s)) ≡ true
      there = lt-ltb 0 (length (listed s)) (pos_of_ne-zero (λ z. has (count ∙ z)))

      pub lists_short : length row < 3 * n → Answered (record { refusal = 15; count = n; work = w }) row
      unfolding list_answer list_refusal depths_refusal row_after
      lists_short h =
          let f = lt-leb (3 * length (listed s)) (length row) (rw count at h) in
          (rw (ok, there, f, count, took), rw (ok, there, f))

      pub lists : 3 * n ≤ length row → Answered (record { refusal = 0; count = n; work = w }) (written (listed s) row)
      unfolding list_answer list_refusal depths_refusal row_after
      lists h =
          let f = le-leb (3 * length (listed s)) (length row) (rw count at h) in
          (rw (ok, there, f, count, took), rw (ok, there, f))

-- ---- the first depth alone, by the next listed from depth 1 on
module _ (s : Section) where
  pub refuses_first : (e : Refusal) → number e ≡ section_refusal s → no_first (number e) ≡ first_answer s
  unfolding first_answer
  refuses_first e is = rw (refused_by s e is, is)

  -- w is the walk before it begins, v after its first step
  module _ (ok : section_refusal s ≡ 0) (w v : Walk) (of : w.lawful.section ≡ s) (new : open_at w ≡ 1) {found : Option Listed} (next : NextListed w found v)
      {work : ℕ} (took : work ≡ work_to v.lawful.section v.looked) where
    pub first_none : found ≡ None → no_depth work 14 ≡ first_answer s
    unfolding first_answer depths_refusal
    first_none e =
        let same = next.0 ∙ of in
        let end = (rw (e, of, new) at next).1 in
        rw (ok, empty_list (kind_at s) (moment s) (last_depth s) (λ x low high. end.1 x low (omega arith)))
        (λ j. no_depth ((took ∙ (λ i. work_to (same i) (end.0 i))) j) 14)

    pub first_at :
        {l : Listed} → found ≡ Some l → {z : ℤ} → z ≡ moment v.lawful.section l.depth
        → record { refusal = 0; depth = l.depth; kind = kind_number l.kind; work = work; moment = z } ≡ first_answer s
    unfolding first_answer depths_refusal
    first_at {l} e turn =
        let same = next.0 ∙ of in
        let first = (rw (e, of, new) at next).1 in
        let some = λ (h : kind_at s l.depth ≡ 0). kind_some l.kind (first.kind ∙ h) in
        let head = list_first (kind_at s) (moment s) (last_depth s) l.depth first.on first.inside some first.none in
        let looked = took ∙ (λ i. work_to (same i) (first.last i)) ∙ ap (λ k. work_to s (last_looked l.depth k)) first.kind in
        let turned = turn ∙ ap (λ s. moment s l.depth) same in
        rw (ok, head.1, lt-ltb 0 (suc (length head.0)) (omega arith))
        (λ j. record { refusal = 0; depth = l.depth; kind = first.kind j; work = looked j; moment = turned j })

-- ---- what the list's answer and its row tell
module _ (s : Section) (room : ℕ) {a : ListAnswer} (is : a ≡ list_answer s room) where
  pub list_number : a.refusal ≡ list_refusal s room
  unfolding list_answer list_refusal depths_refusal
  list_number = rw is (of_answer (λ (x : ListAnswer). x.refusal ≡ list_refusal s room) (section_refusal s) _ unlisted (λ e. refl) refused)
    where
      refused : (section_refusal s ≡ 0 → ⊥) → section_refusal s ≡ list_refusal s room
      refused f = let e = ne_eqb (section_refusal s) 0 f in rw (e, e)

  pub list_count : section_refusal s ≡ 0 → a.count ≡ length (listed s)
  unfolding list_answer
  list_count ok = rw (is, ok)

  pub list_work : section_refusal s ≡ 0 → a.work ≡ whole_work s
  unfolding list_answer
  list_work ok = rw (is, ok)

  -- beside 15 too; beside any other refusal there is none
  pub list_needed : (section_refusal s ≡ 15 → ⊥) → a.refusal ≡ 15 → a.count ≡ length (listed s)
  unfolding list_answer
  list_needed other =
      rw is
      (of_answer (λ (x : ListAnswer). x.refusal ≡ 15 → x.count ≡ length (listed s)) (section_refusal s) _ unlisted (λ e h. refl)
      (λ f h. absurd (other h)))

  pub list_none : (a.refusal ≡ 0 → ⊥) → (a.refusal ≡ 15 → ⊥) → a.count ≡ 0
  unfolding list_answer list_refusal depths_refusal
  list_none =
      rw is
      (of_answer (λ (x : ListAnswer). (x.refusal ≡ 0 → ⊥) → (x.refusal ≡ 15 → ⊥) → x.count ≡ 0) (section_refusal s) _ unlisted
      (λ e. rw e (pick (ltb 0 (length (listed s))) refl (leb (3 * length (listed s)) room))) (λ f h k. refl))
    where
      pick :
          (t : Bool) → ltb 0 (length (listed s)) ≡ t
          → (u : Bool) → (first_of (line t 14 0) (line u 15 0) ≡ 0 → ⊥) → (first_of (line t 14 0) (line u 15 0) ≡ 15 → ⊥) → length (listed s) ≡ 0
      pick true e true h k = absurd (h refl)
      pick true e false h k = absurd (k refl)
      pick false e u h k = omega (arith, ltb-false 0 (length (listed s)) e)

-- ---- what the first depth's tells
pub some_listed : (s : Section) → depths_refusal s ≡ 0 → 0 < length (listed s)
unfolding depths_refusal
some_listed s none = (passes 13 0 (is_less 0 (length (listed s))) (none_of (section_refusal s) _ none).1).0

fourteen : (s : Section) → section_refusal s ≡ 0 → (depths_refusal s ≡ 0 → ⊥) → depths_refusal s ≡ 14
unfolding depths_refusal
fourteen s ok = rw ok (pick (ltb 0 (length (listed s))))
  where
    pick : (t : Bool) → (line t 14 0 ≡ 0 → ⊥) → line t 14 0 ≡ 14
    pick true f = absurd (f refl)
    pick false f = refl

-- it is one of three: the section is refused, no depth is listed, or the first is answered
pub of_first :
    (P : FirstAnswer → Type 0) (s : Section) → ((section_refusal s ≡ 0 → ⊥) → P (no_first (section_refusal s)))
    → (depths_refusal s ≡ 14 → P (no_depth (whole_work s) 14)) → (depths_refusal s ≡ 0 → P (first_of_list s (entry_of (listed s) 0)))
    → {x : FirstAnswer} → x ≡ first_answer s → P x
unfolding first_answer
of_first P s refused none found is =
    rw is
    (of_answer P (section_refusal s) _ no_first
    (λ ok. of_answer P (depths_refusal s) _ (no_depth (whole_work s)) found (λ f. let e = fourteen s ok f in rw e (none e)))
    refused)

pub first_number : (s : Section) {x : FirstAnswer} → x ≡ first_answer s → x.refusal ≡ depths_refusal s
unfolding depths_refusal
first_number s = of_first (λ x. x.refusal ≡ depths_refusal s) s (λ f. rw (ne_eqb (section_refusal s) 0 f)) (λ e. sym e) (λ e. sym e)

pub row_written : (s : Section) (row : List ℤ) → list_refusal s (length row) ≡ 0 → row_after s row ≡ written (listed s) row
unfolding row_after
row_written s row none = rw none
