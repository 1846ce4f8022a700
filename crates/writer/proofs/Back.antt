-- Writing what was read from a good book gives the same bytes. Assumes nothing.
use Prim.Native.Nat.{ℕ, zero, suc, ◌+◌, ◌*◌, ◌-◌, ◌≤◌, ◌<◌}
use mathlib.Core.Path.{◌≡◌, refl, sym, ap, ◌∙◌}
use mathlib.Core.Bool.{cond}
use mathlib.Core.List.{List, ◌∷◌, ◌++◌}
use mathlib.Core.Logic.{⊎_elim}
use native.Mathlib.Numerals.{add-one}
use native.Mathlib.Omega.{arith}
use lib.Dec.{eqb, eqb-suc-zero}
use lib.ListN.{length, get_or, take, drop, take-append-drop, length-take, length-drop, drop_of_length-le, get_or-eq_default}
use lib.Seq.{length-take-le, drop-cons, get_or-take, get_or-drop, take-take, drop_at, drop-drop, take-add, ext_get_or}
use borrow.Author.Tests.{lt-ltb, le-ltb, le-leb}
use Rattle.arith.specs.Joined.{joined}
use Rattle.arith.proofs.Tests.{less_or_not}
use Rattle.arith.proofs.Joined.{over_front, joined_alike}
use Rattle.section.specs.declared.Section.{Section}
use Rattle.section.specs.Refusal.{section_refusal}
use Rattle.record.specs.Record.{Bytes, le32_at, size_at, record_refusal, section_in}
use Rattle.record.specs.Filed.{bytes32, as_written}
use Rattle.record.proofs.Placed.{four_there, taken32}
use Rattle.record.proofs.Inverse.{filed_section}
use Rattle.book.specs.Book.{index_of, count_of, start_of, part_of}
use Rattle.book.specs.Good.{GoodBook, Shows}
use Rattle.writer.specs.Records.{part_from, place_at, section_at, refusal_at, count_in, records_refusal}
use Rattle.writer.specs.Written.{written_record, records_of, place_of, last_bytes, book_in, write_refusal, book_after}
use Rattle.writer.proofs.Walk.{count_is, all_below_is}
use Rattle.writer.proofs.Strings.{records_length}
use Rattle.writer.proofs.Books.{book_is}

-- ---- a part that ends in a list's front
part_front : (l : List ℕ) (a k m : ℕ) → a + k ≤ m → m ≤ length l → take k (drop a (take m l)) ≡ take k (drop a l)
part_front l a k m h i =
    let e : m ≡ a + (m - a) = omega arith in
    rw (e, take-add a (m - a) l, drop_at (take a l) _ a (length-take-le a l (omega arith)), take-take k (m - a) (drop a l) (omega arith))

-- ---- a section that is written as it is
spaced : (a b : ℕ) → (a ≡ 0 → b ≡ 0) → cond (eqb a 0) 0 b ≡ b
spaced zero b f = sym (f refl)
spaced (suc a) b f = rw eqb-suc-zero

as_written_is : (x : Section) → (x.asw ≡ 0 → x.spacing ≡ 0) → as_written x ≡ x
unfolding as_written
as_written_is x f = rw (spaced x.asw x.spacing f)

-- ---- the end of a list, byte by byte and four at a time
module _ (s : List ℕ) {t : List ℕ} where
  byte_on : (at next x : ℕ) → next ≡ suc at → next ≤ length s → get_or s at 0 ≡ x → drop next s ≡ t → drop at s ≡ x ∷ t
  byte_on at next x e h f q = rw (drop-cons s at 0 (omega arith), f, ← e, q)

  four_on : (at next x : ℕ) → next ≡ at + 4 → next ≤ length s → Bytes s → le32_at s at ≡ x → drop next s ≡ t → drop at s ≡ bytes32 x ++ t
  four_on at next x e h b f q =
      sym (take-append-drop 4 (drop at s)) ∙ rw (four_there s at (omega arith) b, drop-drop 4 at s, ← e, f, q)

module _ (s : List ℕ) (good : GoodBook s) (bytes : Bytes s) where
  abbrev index : ℕ
  index = index_of s

  abbrev n : ℕ
  n = count_of s

  -- the records' bytes
  abbrev front : List ℕ
  front = take index s

  front_length : length front ≡ index
  front_length = length-take-le index s (omega arith)

  -- ---- the string's places are the book's
  start_there : (i : ℕ) → i < n → start_of s i ≡ le32_at s (index + 4 * i)
  unfolding start_of
  start_there i h = rw (lt-ltb i n h)

  start_last : start_of s n ≡ index
  unfolding start_of
  start_last = rw (le-ltb n n (omega arith))

  module _ (i : ℕ) (h : i < n) where
    abbrev at : ℕ
    at = start_of s i

    ends : at + size_at s at ≤ index
    ends = (good.records.each i h).inside

    next : start_of s (suc i) ≡ at + size_at s at
    next = rw (← (add-one i)) (sym (good.records.each i h).meets)

    size_there : size_at front at ≡ size_at s at
    size_there =
        let head : (j : ℕ) → j < at + 24 → get_or front j 0 ≡ get_or s j 0 = λ j k. get_or-take index s j 0 (omega (arith, ends)) in
        rw (head (at + 20) (omega arith), head (at + 20 + 1) (omega arith), head (at + 22) (omega arith), head (at + 22 + 1) (omega arith))

  place_same : (i : ℕ) → i ≤ n → place_at front i ≡ start_of s i
  unfolding place_at
  place_same zero h = sym good.records.first
  place_same (suc i) h = rw (place_same i (omega arith), size_there i h) (sym (next i h))

  count : count_in front ≡ n
  count = count_is front n (place_same n (omega arith) ∙ start_last ∙ sym front_length)

  -- ---- the last 16 bytes
  last_is : last_bytes index n ≡ drop (index + 4 * n) s
  last_is =
      let l = length s in
      let e : index + 4 * n ≡ l - 16 = omega arith in
      sym
      (ap (λ (k : ℕ). drop k s) e
      ∙ four_on s (l - 16) (l - 12) index (omega arith) (omega arith) bytes refl
      (four_on s (l - 12) (l - 8) n (omega arith) (omega arith) bytes refl
      (four_on s (l - 8) (l - 4) (index + 4 * n + 16) (omega arith) (omega arith) bytes (good.sized.1 ∙ sym good.index)
      (byte_on s (l - 4) (l - 3) 66 (omega arith) (omega arith) good.letters.0
      (byte_on s (l - 3) (l - 2) 79 (omega arith) (omega arith) good.letters.1
      (byte_on s (l - 2) (l - 1) 79 (omega arith) (omega arith) good.letters.2
      (byte_on s (l - 1) l 75 (omega arith) (omega arith) good.letters.3 (drop_of_length-le s {i = l} (omega arith)))))))))

  module _ (parts : ℕ → List ℕ) (shown : (i : ℕ) → i < n → Shows s i (parts i)) where
    -- ---- the records, one after another
    module _ (i : ℕ) (h : i < n) where
      part_shown : parts i ≡ part_of s (start_of s i) (size_at s (start_of s i))
      part_shown =
          let sh = shown i h in
          ext_get_or 0 (parts i) _ (sh.size ∙ sym (simp (length-take, length-drop) (omega (arith, ends i h))))
          (λ j l. let k : j < size_at s (start_of s i) = omega arith in sh.bytes j k ∙ sym (rw (get_or-take, get_or-drop)))

      part_is : parts i ≡ part_from front (place_at front i)
      part_is =
          rw (place_same i (omega arith), size_there i h, part_front s (start_of s i) (size_at s (start_of s i)) index (ends i h) (omega arith))
          part_shown

      part_bytes : Bytes (parts i)
      part_bytes j =
          ⊎_elim (λ q. rw ((shown i h).bytes j q) (bytes _))
          (λ q. rw (get_or-eq_default (parts i) 0 {n = j} (omega (arith, (shown i h).size))) (omega arith))
          (less_or_not j (size_at s (start_of s i)))

    joined_front : (i : ℕ) → i ≤ n → joined parts i ≡ take (start_of s i) s
    unfolding joined
    joined_front zero h = rw good.records.first
    joined_front (suc i) h = rw (joined_front i (omega arith), part_shown i h, next i h) (sym (take-add (start_of s i) (size_at s (start_of s i)) s))

    string : joined parts n ≡ front
    string = joined_front n (omega arith) ∙ ap (λ (k : ℕ). take k s) start_last

    -- ---- and written
    module _
        (passed : (i : ℕ) → i < n → (record_refusal (parts i) ≡ 0) × (section_refusal (section_in (parts i)) ≡ 0))
        (idle : (i : ℕ) → i < n → (section_in (parts i)).asw ≡ 0 → (section_in (parts i)).spacing ≡ 0) where
      none : records_refusal front ≡ 0
      none = rw count (all_below_is (refusal_at front) n (λ i h. rw (← (part_is i h), (passed i h).0) (passed i h).1))

      record_back : (i : ℕ) → i < n → written_record (section_at front) i ≡ parts i
      record_back i h = rw (← (part_is i h), as_written_is (section_in (parts i)) (idle i h)) (filed_section (parts i) (part_bytes i h) (passed i h).0)

      records_back : records_of (section_at front) n ≡ front
      records_back = joined_alike (written_record (section_at front)) parts n record_back ∙ string

      places_back : joined (place_of (section_at front)) n ≡ take (4 * n) (drop index s)
      places_back =
          joined_alike (place_of (section_at front)) (λ i. bytes32 (le32_at s (index + 4 * i))) n
          (λ i h. ap bytes32 (records_length front i ∙ place_same i (omega arith) ∙ start_there i h))
          ∙ taken32 s index n (omega arith) bytes

      book_back : book_in front ≡ s
      book_back =
          book_is (record { none = none; count = sym count })
          ∙ rw (records_back, places_back, front_length, last_is, ← (take-add index (4 * n) s)) (take-append-drop (index + 4 * n) s)

      pub written_back : (book_in (joined parts n) ≡ s) × (records_refusal (joined parts n) ≡ 0)
      written_back = rw string (book_back, none)

      pub back_answer :
          (before : List ℕ) → length s ≤ length before
          → (write_refusal (joined parts n) (length before) ≡ 0) × (length (book_in (joined parts n)) ≡ length s)
          × (take (length s) (book_after (joined parts n) before) ≡ s)
      unfolding write_refusal book_after
      back_answer before h =
          rw (written_back.1, written_back.0, le-leb (length s) (length before) h, le-leb (length s) 65536 good.sized.0.1)
          (refl, refl, over_front s before)
