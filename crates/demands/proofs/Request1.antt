-- Document 02 [1]: what it promises, by what each contract tells. Assumes nothing.
use Prim.Native.Nat.{ℕ, ◌≤◌, ◌<◌}
use mathlib.Core.Path.{◌≡◌, refl, ap, ◌∙◌}
use mathlib.Core.List.{List, ◌++◌}
use lib.ListN.{length, take}
use Rattle.std.specs.Prelude.{Ok}
use Rattle.arith.specs.Joined.{joined}
use Rattle.arith.proofs.Joined.{over_front}
use Rattle.arith.proofs.Lines.{none_of}
use Rattle.refusal.proofs.Answers.{answered}
use Rattle.section.specs.Refusal.{section_refusal}
use Rattle.record.specs.Record.{Bytes, record_refusal, section_in}
use Rattle.record.specs.Filed.{as_written}
use Rattle.book.specs.Book.{count_of, book_refusal, record_of}
use Rattle.book.proofs.Good.{good, is_good}
use Rattle.writer.specs.Records.{section_at, count_in}
use Rattle.writer.specs.Written.{book_in, write_refusal, book_after}
use Rattle.writer.proofs.Strings.{Tallied, few_there}
use Rattle.writer.proofs.Books.{all_passes}
use Rattle.writer.proofs.Reading.{book_good, part_filed, count_there, reads_as}
use Rattle.writer.proofs.Back.{back_answer}
use Rattle.panel.specs.declared.answers.BookAnswer.{BookAnswer}
use Rattle.panel.specs.Face.{book_answer, write_answer}
use Rattle.demands.specs.Every as Every
use Rattle.demands.specs.Table.{First, lone_lines, section_lines}
use Rattle.demands.specs.Request1.{Counted, FaceCounted, Parts, Again, FaceAgain, Request1}
use Rattle.demands.proofs.Results.{if_ok}
use Rattle.demands.proofs.Shapes as Shapes
use Rattle.demands.proofs.Shapes.{books, writings}
use Rattle.demands.proofs.Table.{exactly, record_first}

-- ---- what was written
module _ (r before : List ℕ) {after : List ℕ} (left : after ≡ book_after r before) (none : write_refusal r (length before) ≡ 0) where
  all : Tallied r (count_in r)
  all = (all_passes r (length before) none).0

  there : take (length (book_in r)) after ≡ book_in r
  unfolding book_after
  there = rw (left, none) (over_front (book_in r) before)

  is_book : book_refusal (book_in r) ≡ 0
  is_book = is_good (book_in r) (book_good (section_at r) (count_in r) (few_there all) (all_passes r (length before) none).1)

  count_is : count_of (book_in r) ≡ count_in r
  count_is = count_there (section_at r) (count_in r) (few_there all) (all_passes r (length before) none).1

  counted : Every.book (Counted r (take (length (book_in r)) after))
  counted κs a y e p is = answered (rw (is ∙ there) at p) is_book ∙ ap Ok count_is

  face_counted : (bytes : List ℕ) {y : BookAnswer} → y ≡ book_answer bytes → FaceCounted r (take (length (book_in r)) after) bytes y
  unfolding book_answer
  face_counted bytes p is = rw (rw (is ∙ there) at p, is_book, count_is) (refl, refl)

  -- a record's part of it
  same :
      (bytes : List ℕ) (i : ℕ) (part : List ℕ) → bytes ≡ take (length (book_in r)) after → part ≡ record_of bytes i → i < count_in r
      → Every.section_of (λ q y. q ≡ part → y ≡ Ok (as_written (section_at r i)))
  same bytes i part e p k κs a y g q is =
      let few = (all_passes r (length before) none).1 in
      let of_book = ap (λ (b : List ℕ). record_of b i) (e ∙ there) in
      let reads = reads_as all i k in
      answered (rw (is ∙ p ∙ of_book ∙ part_filed (section_at r) (count_in r) (few_there all) few i k) at q) reads.0 ∙ ap Ok reads.1

-- ---- what was read
passed : (part : List ℕ) → First (lone_lines part ++ section_lines (section_in part)) 0 → (record_refusal part ≡ 0) × (section_refusal (section_in part) ≡ 0)
passed part f = none_of (record_refusal part) _ ((exactly _ _ (record_first part) 0).1 f)

module _ (bytes : List ℕ) (ok : book_refusal bytes ≡ 0) (b : Bytes bytes) (parts : ℕ → List ℕ) (shown : Parts bytes (count_of bytes) parts) where
  again :
      (records before : List ℕ) {after : List ℕ} → after ≡ book_after records before → records ≡ joined parts (count_of bytes)
      → length bytes ≤ length before
      → (write_refusal records (length before) ≡ 0) × (length (book_in records) ≡ length bytes) × (take (length bytes) after ≡ bytes)
  again records before left string room =
      let pass = λ (i : ℕ) (h : i < count_of bytes). passed (parts i) (shown i h).1.lines in
      let k = back_answer bytes (good bytes ok) b parts (λ i h. (shown i h).0) pass (λ i h. (shown i h).1.idle) before room in
      rw (left, string) k

pub request1 : Request1
unfolding book_answer write_answer
request1 = record {
  counted = λ κs a x e p.
      if_ok (λ len. Every.book (Counted a.0.now (take len e.1.0.now))) (λ none. counted a.0.now a.1.0.now p.1 none) p.0;
  same = λ κs a x e p.
      if_ok
      (λ len.
      Every.record_part
      (λ bytes i part. bytes ≡ take len e.1.0.now → i < count_in a.0.now →
      Every.section_of (λ r y. r ≡ part → y ≡ Ok (as_written (section_at a.0.now i)))))
      (λ none κ b part f q is k. same a.0.now a.1.0.now p.1 none b.0.now b.1.0 part.now is q k) p.0;
  again = λ κs a y e q.
      if_ok
      (λ count. Bytes a.0.now → (parts : ℕ → List ℕ) → Parts a.0.now count parts → Every.write_book (Again a.0.now parts count))
      (λ none b parts shown κ c x f p string room.
      let k = again a.0.now none b parts shown c.0.now c.1.0.now p.1 string room in
      (answered p.0 k.0 ∙ ap Ok k.1, k.2)) q;
  fw_counted = λ κs a x e p.
      Shapes.shown writings (λ y. Every.fw_book (FaceCounted a.0.now (take y.len e.1.0.now))) (write_refusal a.0.now (length a.1.0.now)) _
      (λ none h κ b y f q. face_counted a.0.now a.1.0.now p.1 none b.0.now q) p.0;
  fw_again = λ κs a y e q.
      Shapes.shown books
      (λ y. Bytes a.0.now → (parts : ℕ → List ℕ) → Parts a.0.now y.count parts → Every.fw_write_book (FaceAgain a.0.now parts y.count))
      (book_refusal a.0.now) _
      (λ none h b parts shown κ c x f p string room.
      let k = again a.0.now none b parts shown c.0.now c.1.0.now p.1 string room in
      rw (p.0, k.0, k.1) (refl, refl, k.2)) q;
}
