-- Demand 1, by what each contract tells and the table. Assumes nothing.
use Prim.Native.Nat.{ℕ}
use mathlib.Core.Path.{◌≡◌, refl, ◌∙◌}
use mathlib.Core.Bool.{true}
use mathlib.Core.Logic.Iff
use mathlib.Core.Logic.{◌↔◌}
use mathlib.Core.List.{List, [], ◌++◌}
use native.Mathlib.Omega.{arith}
use lib.IntN.{ℤ, pos}
use lib.ListN.{length}
use borrow.Author.Tests.{ne_eqb}
use Rattle.std.specs.Prelude.{Result, OnErr}
use Rattle.arith.specs.Answers.{unless_refused}
use Rattle.arith.proofs.Answers.{of_answers}
use Rattle.refusal.specs.declared.Refusal.{Refusal}
use Rattle.refusal.specs.Refusal.{Answers}
use Rattle.refusal.proofs.Answers.{number_in, of_result}
use Rattle.section.specs.declared.Section.{Section}
use Rattle.drawn.specs.Drawn.{drawn_refusal}
use Rattle.forces.specs.Answers.{grid_refusal}
use Rattle.depths.specs.Depths.{listed}
use Rattle.depths.specs.Answers.{ListAnswer, FirstAnswer, unlisted, list_answer, row_after, first_answer}
use Rattle.depths.proofs.Answers.{list_number, list_needed, list_none, of_first, first_number}
use Rattle.depths.proofs.Shown.{row_kept}
use Rattle.shear.specs.Shear.{shear_refusal}
use Rattle.record.specs.Record.{record_refusal, section_in}
use Rattle.book.specs.Book.{book_refusal, asked_refusal, record_of}
use Rattle.book.proofs.Parts.{empty_exactly}
use Rattle.writer.specs.Written.{write_refusal, book_after, added_refusal, record_after}
use Rattle.class.specs.Class.{class_refusal}
use Rattle.strength.specs.Strength.{strength_refusal}
use Rattle.panel.specs.declared.answers.Drawn.{Drawn}
use Rattle.panel.specs.declared.answers.Amount.{Amount}
use Rattle.panel.specs.declared.answers.BookAnswer.{BookAnswer}
use Rattle.panel.specs.declared.answers.RecordAnswer.{RecordAnswer}
use Rattle.panel.specs.declared.answers.Written.{Written}
use Rattle.panel.specs.declared.answers.ClassAnswer.{ClassAnswer}
use Rattle.panel.specs.declared.answers.StrengthAnswer.{StrengthAnswer}
use Rattle.panel.specs.Answers.{no_point, unwritten}
use Rattle.panel.specs.Answers as Given
use Rattle.panel.specs.Face.{drawn_answer, amount_answer, shear_answer, book_answer, record_answer, write_answer, add_answer}
use Rattle.panel.specs.Face.{class_answer, strength_answer, drawn_of, imbalance_of, moment_of, row_of, shear_of}
use Rattle.demands.specs.Table.{Line, First, book_lines, asked_lines, lone_lines, section_lines}
use Rattle.demands.specs.Table.{first_lines, depths_lines, shear_lines, class_lines, strength_lines, strain_lines, grid_lines}
use Rattle.demands.specs.Demand1.{ByTable, Refuses, RefusesList, NoFirst, RefusesFirst, KeepsBytes, RefusesBytes, NoStrength, Demand1}
use Rattle.demands.proofs.Free.{free}
use Rattle.demands.proofs.Results.{by_lines}
use Rattle.demands.proofs.Shapes.{points, amounts, listings, firsts, books, places, writings, classes, strengths, alone, of_record_is, list_in}
use Rattle.demands.proofs.Shapes.{first_in, list_there, first_there, hands_on}
use Rattle.demands.proofs.Table.{exactly, lacks, never, book_first, asked_first, lone_first, section_first, layer_first}
use Rattle.demands.proofs.Table.{filed_first, added_first, write_first, write_lacks}
use Rattle.demands.proofs.Table.{depth_first, list_first, shear_first, class_first, strength_first, strain_first, grid_first}
use Rattle.demands.proofs.Work.{first_took, face_took, list_took, face_list_took, first_beside, list_beside}

-- ---- each answer of the C face
module _ (s : Section) where
  draw_refuses : (e : ℤ) {x : Drawn} → x ≡ drawn_answer s e → Refuses (strain_lines s e) x.refusal (x.point ≡ no_point)
  draw_refuses e = alone points (strain_lines s e) (drawn_refusal s e) _ refl (strain_first s e) refl

  amount_refuses : (d : ℕ) (z : ℤ) {x : Amount} → x ≡ amount_answer s d z → Refuses (grid_lines s d) x.refusal (x.amount ≡ pos 0)
  amount_refuses d z = alone amounts (grid_lines s d) (grid_refusal s d) _ refl (grid_first s d) refl

  shear_refuses : {x : Amount} → x ≡ shear_answer s → Refuses (shear_lines s) x.refusal (x.amount ≡ pos 0)
  shear_refuses = alone amounts (shear_lines s) (shear_refusal s) _ refl (shear_first s) refl

module _ (s : List ℕ) where
  book_refuses : {x : BookAnswer} → x ≡ book_answer s → Refuses (book_lines s) x.refusal (x.count ≡ 0)
  unfolding book_answer
  book_refuses = alone books (book_lines s) (book_refusal s) _ refl (book_first s) refl

  place_refuses : (i : ℕ) {x : RecordAnswer} → x ≡ record_answer s i → Refuses (asked_lines s i) x.refusal ((x.at ≡ 0) × (x.len ≡ 0))
  unfolding record_answer
  place_refuses i = alone places (asked_lines s i) (asked_refusal s i) _ refl (asked_first s i) refl

class_refuses : (fr1 fr3 : ℕ) {x : ClassAnswer} → x ≡ class_answer fr1 fr3 → Refuses (class_lines fr1 fr3) x.refusal ((x.step ≡ 0) × (x.letter ≡ 0))
unfolding class_answer
class_refuses fr1 fr3 = alone classes (class_lines fr1 fr3) (class_refusal fr1 fr3) _ refl (class_first fr1 fr3) refl

strength_refuses : (rs : List ℕ) {x : StrengthAnswer} → x ≡ strength_answer rs → Refuses (strength_lines rs) x.refusal (NoStrength x)
unfolding strength_answer
strength_refuses rs = alone strengths (strength_lines rs) (strength_refusal rs) _ refl (strength_first rs) refl

-- ---- a book and a record that are written: under a refusal the lent bytes stay
keeps :
    (ls : List Line) {n y : ℕ} (before new : List ℕ) {x : Result ℕ Refusal} {after : List ℕ} → First ls n → Answers n y x
    → after ≡ unless_refused n new (λ k. before) → KeepsBytes ls before x after
keeps ls {n} before new {after = after} f a left = record {
  refuses = by_lines ls f a;
  bytes = of_result (λ r. OnErr r (after ≡ before)) a (λ e. tt)
      (λ e k. left ∙ rw (ne_eqb n 0 (λ z. omega (arith, (number_in e).0))));
}

face_keeps :
    (ls : List Line) (n len : ℕ) (before new : List ℕ) {x : Written} {after : List ℕ} → lacks 0 ls ≡ true → First ls n
    → x ≡ unless_refused n (Given.written len) unwritten → after ≡ unless_refused n new (λ k. before) → RefusesBytes ls before x after
face_keeps ls n len before new {after = after} t f is left = record {
  refuses = alone writings ls n (Given.written len) t f refl is;
  bytes = rw (is, left) (of_answers Stays n (Given.written len) new unwritten (λ k. before) (λ e h. absurd (h refl)) (λ k h. refl));
}
  where
    Stays : Written → List ℕ → Type 0
    Stays v bytes = (v.refusal ≡ 0 → ⊥) → bytes ≡ before

-- the part is empty exactly where a line holds
part_refused : (s : List ℕ) (i : ℕ) → (record_of s i ≡ []) ↔ (First (asked_lines s i) 0 → ⊥)
part_refused s i =
    let t = exactly (asked_lines s i) (asked_refusal s i) (asked_first s i) 0 in
    Iff.trans (empty_exactly s i) (λ h f. h (t.1 f), λ h e. h (t.0 e))

-- ---- the first depth
module _ (s : Section) {x : FirstAnswer} (is : x ≡ first_answer s) where
  no_first_is : (x.refusal ≡ 0 → ⊥) → NoFirst x
  no_first_is =
      of_first (λ v. (v.refusal ≡ 0 → ⊥) → NoFirst v) s (λ f h. (refl, refl, refl)) (λ e h. (refl, refl, refl)) (λ e h. absurd (h refl)) is

  first_refuses : RefusesFirst (first_lines s) s x
  first_refuses =
      let number : ByTable (first_lines s) x.refusal = rw (first_number s is) (exactly _ _ (depth_first s)) in
      record { refuses = record { number = number; beside = no_first_is }; work = first_beside s (first_lines s) refl number (first_took s is) }

first_of : (r : List ℕ) {x : FirstAnswer} → x ≡ first_in r → RefusesFirst (lone_lines r ++ first_lines (section_in r)) (section_in r) x
first_of r is =
    let refuses = of_record_is firsts r _ _ (first_refuses (section_in r) refl).refuses is in
    record { refuses = refuses; work = first_beside (section_in r) _ refl refuses.number (face_took r is) }

-- ---- the list
list_refuses :
    (s : Section) (before : List ℤ) {x : ListAnswer} {after : List ℤ} → x ≡ list_answer s (length before) → after ≡ row_after s before
    → RefusesList (depths_lines s (length before)) s before x after
list_refuses s before is left = record {
  refuses = record { number = rw (list_number s (length before) is) (exactly _ _ (list_first s (length before))); beside = list_none s (length before) is };
  needed = list_needed s (length before) is (never 15 (section_lines s) (omega arith) refl (section_first s));
  work = list_beside s (list_took s (length before) is);
  row = row_kept s before is left;
}

module _ (r : List ℕ) (before : List ℤ) where
  abbrev inner :
      let s = section_in r in
      RefusesList (depths_lines s (length before)) s before (list_answer s (length before)) (row_after s before)
  inner = list_refuses (section_in r) before refl refl

  -- no record is refused by 15
  list_of_is :
      {x : ListAnswer} {after : List ℤ} → x ≡ list_in r (length before) → after ≡ row_of r before
      → RefusesList (lone_lines r ++ depths_lines (section_in r) (length before)) (section_in r) before x after
  unfolding row_of
  list_of_is is left =
      let rest = of_answers (λ (v : ListAnswer) w. (v.refusal ≡ 15 → v.count ≡ length (listed (section_in r))) × ((v.refusal ≡ 0 → ⊥) → w ≡ before))
      (record_refusal r) (list_answer (section_in r) (length before)) _ unlisted (λ k. before) (λ e. (inner.needed, inner.row))
      (λ h. (λ e. absurd (never 15 (lone_lines r) (omega arith) refl (lone_first r) e), λ k. refl)) in
      rw left
      (record {
        refuses = of_record_is listings r _ _ inner.refuses is;
        needed = rw (← is) at rest.0;
        work = list_beside (section_in r) (face_list_took r (length before) is);
        row = rw (← is) at rest.1;
      })

pub demand1 : Demand1
unfolding write_answer add_answer book_after record_after drawn_of imbalance_of moment_of shear_of
demand1 = record {
  free = free;
  check = λ κs a x e p. rw p (exactly _ _ (section_first a.0));
  with_layer_call = λ κs a x e p. record { number = by_lines _ (layer_first a.0 _) p.answer; beside = λ refused. p.back };
  law_of_call = λ κs a x e p. by_lines _ (section_first a.0) p;
  lawful_of = λ κs a x e p. rw p.0 (exactly _ _ (section_first a.0));
  draw = λ κs a x e p. by_lines _ (strain_first a.0 a.1.0) p;
  imbalance = λ κs a x e p. by_lines _ (grid_first a.0 a.1.0) p;
  moment = λ κs a x e p. by_lines _ (grid_first a.0 a.1.0) p;
  depths = λ κs a x e p. list_refuses a.0 a.1.0.now p.0 p.1;
  first = λ κs a x e p. first_refuses a.0 p;
  shear = λ κs a x e p. by_lines _ (shear_first a.0) p;
  book = λ κs a x e p. by_lines _ (book_first a.0.now) p;
  record_place = λ κs a x e p. by_lines _ (asked_first a.0.now a.1.0) p;
  record_part = λ κs a x e p. rw p (part_refused a.0.now a.1.0);
  section_of = λ κs a x e p. by_lines _ (lone_first a.0.now) p;
  filed = λ κs a x e p. by_lines _ (filed_first a.0) p;
  record_of_call = λ κs a x e p. by_lines _ (filed_first a.0) p;
  write_book = λ κs a x e p. keeps _ a.1.0.now _ (write_first a.0.now (length a.1.0.now)) p.0 p.1;
  add_layer = λ κs a x e p. keeps _ a.1.1.1.0.now _ (added_first a.0.now _ (length a.1.1.1.0.now)) p.0 p.1;
  class = λ κs a x e p. by_lines _ (class_first a.0 a.1.0) p;
  strength = λ κs a x e p. by_lines _ (strength_first a.0.now) p;
  book_from = λ κs a x e p. hands_on books Given.counted a.0 p;
  record_from = λ κs a x e p. hands_on places Given.found a.0 p;
  written_from = λ κs a x e p. hands_on writings Given.written a.0 p;
  class_from = λ κs a x e p. hands_on classes Given.classed a.0 p;
  strength_from = λ κs a x e p. hands_on strengths Given.measured a.0 p;
  drawn_from = λ κs a x e p. hands_on points Given.drawn a.0 p;
  amount_from = λ κs a x e p. hands_on amounts Given.answered a.0 p;
  listing_from = λ κs a x e p f is. rw (p, is) (refl, refl, refl);
  first_from = λ κs a x e p f is. rw (p, is) (refl, (refl, refl, refl), refl);
  fw_book = λ κs a x e p. book_refuses a.0.now p;
  fw_record = λ κs a x e p. place_refuses a.0.now a.1.0 p;
  fw_write_book = λ κs a x e p.
      let room = length a.1.0.now in
      face_keeps _ (write_refusal a.0.now room) _ a.1.0.now _ (write_lacks a.0.now room) (write_first a.0.now room) p.0 p.1;
  fw_add_layer = λ κs a x e p.
      let room = length a.1.1.1.0.now in
      face_keeps _ (added_refusal a.0.now _ room) _ a.1.1.1.0.now _ refl (added_first a.0.now _ room) p.0 p.1;
  fw_class = λ κs a x e p. class_refuses a.0 a.1.0 p;
  fw_strength = λ κs a x e p. strength_refuses a.0.now p;
  fw_draw = λ κs a x e p. of_record_is points a.0.now _ _ (draw_refuses (section_in a.0.now) a.1.0 refl) p;
  fw_imbalance = λ κs a x e p. of_record_is amounts a.0.now _ _ (amount_refuses (section_in a.0.now) a.1.0 _ refl) p;
  fw_moment = λ κs a x e p. of_record_is amounts a.0.now _ _ (amount_refuses (section_in a.0.now) a.1.0 _ refl) p;
  fw_depths = λ κs a x e p. list_of_is a.0.now a.1.0.now (list_there a.0.now _ p.0) p.1;
  fw_first = λ κs a x e p. first_of a.0.now (first_there a.0.now p);
  fw_shear = λ κs a x e p. of_record_is amounts a.0.now _ _ (shear_refuses (section_in a.0.now) refl) p;
}
