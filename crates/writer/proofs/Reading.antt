-- The book of some sections is good, and each of its records is what was filed of its section. Assumes nothing.
use Prim.Native.Nat.{ℕ, ◌+◌, ◌*◌, ◌-◌, ◌≤◌, ◌<◌}
use mathlib.Core.Path.{◌≡◌, refl, sym, ◌∙◌}
use mathlib.Core.List.{List, ◌++◌, append_assoc}
use mathlib.Core.Logic.{⊎_elim}
use native.Mathlib.Nat.{add_assoc}
use native.Mathlib.Omega.{arith}
use lib.ListN.{length, get_or, length-append}
use lib.Seq.{get_or-append-add}
use borrow.Author.Tests.{lt-ltb, le-ltb}
use Rattle.arith.specs.Joined.{joined}
use Rattle.arith.specs.Sums.{after}
use Rattle.arith.proofs.Tests.{less_or_not}
use Rattle.arith.proofs.Joined.{joined_next, joined_length, joined_at, joined_part, joined_get, joined_ends}
use Rattle.section.specs.declared.Section.{Section}
use Rattle.section.proofs.Accepted.{accepted_exactly}
use Rattle.record.specs.Record.{le16_at, le32_at, record_size, layers_at, size_at, record_refusal, section_in}
use Rattle.record.specs.Filed.{bytes32, as_written}
use Rattle.record.proofs.Placed.{le32_there}
use Rattle.record.proofs.Alone.{record_stands}
use Rattle.record.proofs.Inverse.{load_small, filed_length, filed_layers, filed_flange, filed_stands, section_filed, written_cleared}
use Rattle.book.specs.Book.{index_of, count_of, stated_length, byte_from_end, start_of, end_of, asked_refusal}
use Rattle.book.specs.Book as Book
use Rattle.book.specs.Good.{LettersStand, StandsIn, GoodBook}
use Rattle.book.proofs.Good.{is_good}
use Rattle.book.proofs.Parts.{part_is}
use Rattle.writer.specs.Records.{part_from, place_at, section_at}
use Rattle.writer.specs.Written.{written_record, records_of, place_of, last_bytes, book_of}
use Rattle.writer.proofs.Strings.{Tallied, passes_there, few_there}
use Rattle.writer.proofs.Books.{front_length, of_length}

-- a number that was put behind some bytes
number_at : {b : List ℕ} (q : List ℕ) (v : ℕ) (t : List ℕ) (at : ℕ) → b ≡ q ++ (bytes32 v ++ t) → at ≡ length q → le32_at b at ≡ v
number_at q v t at e f = rw (e, f) (le32_there q v t)

module _ (s : ℕ → Section) (n : ℕ) where
  -- where record i stands
  abbrev P : ℕ → ℕ
  P i = length (records_of s i)

  abbrev places : List ℕ
  places = joined (place_of s) n

  abbrev front : List ℕ
  front = records_of s n ++ places

  -- ---- the last 16 bytes
  index_is : index_of (book_of s n) ≡ P n
  unfolding book_of
  index_is = number_at front (P n) _ _ refl (omega (arith, of_length s n, front_length s n))

  count_is : count_of (book_of s n) ≡ n
  unfolding book_of
  count_is =
      number_at (front ++ bytes32 (P n)) n _ _ (sym (append_assoc front (bytes32 (P n)) _))
      (omega (arith, of_length s n, front_length s n, length-append front (bytes32 (P n))))

  stated_is : stated_length (book_of s n) ≡ length (book_of s n)
  unfolding book_of
  stated_is =
      let head = bytes32 (P n) ++ bytes32 n in
      number_at (front ++ head) (P n + 4 * n + 16) _ _ (sym (append_assoc front head _))
      (omega (arith, of_length s n, front_length s n, length-append front head))
      ∙ sym (of_length s n)

  letter : (k : ℕ) → k ≤ 4 → byte_from_end (book_of s n) k ≡ get_or (last_bytes (P n) n) (16 - k) 0
  unfolding book_of
  letter k h =
      let e : length (book_of s n) - k ≡ length front + (16 - k) = omega (arith, of_length s n, front_length s n) in
      rw e (get_or-append-add front (last_bytes (P n) n) (16 - k) 0)

  letters : LettersStand (book_of s n)
  letters = (letter 4 (omega arith), letter 3 (omega arith), letter 2 (omega arith), letter 1 (omega arith))

  -- ---- the index
  placed : (i : ℕ) → i < n → le32_at (book_of s n) (P n + 4 * i) ≡ P i
  unfolding book_of
  placed i h =
      let before = joined (place_of s) i in
      let behind = joined (after (i + 1) (place_of s)) (n - (i + 1)) in
      let rest = behind ++ last_bytes (P n) n in
      let split : book_of s n ≡ records_of s n ++ before ++ (bytes32 (P i) ++ rest) = rw (joined_at (place_of s) n i h) (simp append_assoc) in
      number_at (records_of s n ++ before) (P i) rest (P n + 4 * i) split
      (omega (arith, length-append (records_of s n) before, joined_length (place_of s) 4 i (λ j k. refl)))

  start_is : (i : ℕ) → i ≤ n → start_of (book_of s n) i ≡ P i
  unfolding start_of
  start_is i h =
      rw (count_is, index_is)
      (⊎_elim (λ q. rw (lt-ltb i n q) (placed i q)) (λ q. let e : n ≡ i = omega arith in rw (le-ltb i n q, e)) (less_or_not i n))

  -- ---- a record
  module _ (i : ℕ) (h : i < n) (few : (as_written (s i)).count ≤ 8) where
    in_book : (j : ℕ) → j < length (written_record s i) → get_or (book_of s n) (P i + j) 0 ≡ get_or (written_record s i) j 0
    unfolding book_of
    in_book j k = rw (append_assoc (records_of s n) places (last_bytes (P n) n)) (joined_get (written_record s) n i h _ j 0 k)

    head_is : (j : ℕ) → j + 1 < 24 → le16_at (book_of s n) (start_of (book_of s n) i + j) ≡ le16_at (written_record s i) j
    head_is j k =
        let l = filed_length (as_written (s i)) in
        rw (start_is i (omega arith), add_assoc (P i) j 1, in_book j (omega arith), in_book (j + 1) (omega arith))

    layers_are : layers_at (book_of s n) (start_of (book_of s n) i) ≡ (as_written (s i)).count
    layers_are = head_is 20 (omega arith) ∙ filed_layers (as_written (s i)) few

    size_is : size_at (book_of s n) (start_of (book_of s n) i) ≡ length (written_record s i)
    size_is =
        let flange = head_is 22 (omega arith) ∙ filed_flange (as_written (s i)) few in
        (λ j. record_size (layers_are j) (flange j)) ∙ sym (filed_length (as_written (s i)))

    end_is : end_of (book_of s n) i ≡ P (i + 1)
    end_is = rw (size_is, start_is i (omega arith), joined_next (written_record s) i) (sym (length-append (records_of s i) (written_record s i)))

    stands : StandsIn (book_of s n) i
    stands = record {
      few = rw layers_are few;
      inside =
          rw (end_is, index_is, joined_next (written_record s) i, length-append (records_of s i) (written_record s i))
          (joined_ends (written_record s) n i h);
      meets = rw end_is (sym (start_is (i + 1) (omega arith)));
    }

  module _ (few : (i : ℕ) → i < n → (as_written (s i)).count ≤ 8) (room : length (book_of s n) ≤ 65536) where
    pub book_good : GoodBook (book_of s n)
    unfolding joined
    book_good = record {
      sized = ((omega (arith, of_length s n), room), stated_is);
      letters = letters;
      index = rw (index_is, count_is) (sym (of_length s n));
      records = record { first = start_is 0 (omega arith); each = λ i h. let k = rw count_is at h in stands i k (few i k) };
    }

    pub part_filed : (i : ℕ) → i < n → Book.record_of (book_of s n) i ≡ written_record s i
    unfolding asked_refusal book_of
    part_filed i h =
        let asked : asked_refusal (book_of s n) i ≡ 0 = rw (is_good (book_of s n) book_good, count_is, lt-ltb i n h) in
        part_is (book_of s n) i asked
        ∙ rw (size_is i h (few i h), start_is i (omega arith), append_assoc (records_of s n) places (last_bytes (P n) n))
        (joined_part (written_record s) n i h _)

    pub count_there : count_of (book_of s n) ≡ n
    count_there = count_is

-- ---- of a string whose records all pass: each is read as it was written
module _ {r : List ℕ} {n : ℕ} (t : Tallied r n) (i : ℕ) (h : i < n) where
  pub reads_as : (record_refusal (written_record (section_at r) i) ≡ 0) × (section_in (written_record (section_at r) i) ≡ as_written (section_at r i))
  unfolding as_written
  reads_as =
      let p = passes_there t i h in
      let s = section_at r i in
      let load = load_small s.load ((accepted_exactly s).0 p.1).load in
      let few = few_there t i h in
      let read = section_filed (as_written s) few load ∙ written_cleared (part_from r (place_at r i)) in
      ((record_stands (written_record (section_at r) i)).1 (filed_stands (as_written s) few), read)
