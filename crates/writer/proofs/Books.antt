-- The written book: its length, and the answer and the lent bytes, refused or not. Assumes nothing.
use Prim.Native.Nat.{ℕ, ◌+◌, ◌*◌, ◌≤◌, ◌<◌, min}
use mathlib.Core.Path.{◌≡◌, refl, sym, ap, ◌∙◌}
use mathlib.Core.List.{List, ◌++◌}
use mathlib.Core.Logic.{⊎_elim}
use native.Mathlib.Omega.{arith}
use lib.ListN.{length, length-append}
use borrow.Author.Tests.{ne_eqb, le-leb, lt-leb}
use Rattle.arith.specs.Joined.{joined}
use Rattle.arith.proofs.Answers as Answered
use Rattle.arith.proofs.Joined.{joined_length}
use Rattle.arith.proofs.Tests.{less_or_not, is_most, is_both}
use Rattle.arith.proofs.Lines.{passes, none_of}
use Rattle.std.specs.Prelude.{Result, Ok, Err}
use Rattle.refusal.specs.declared.Refusal.{Refusal}
use Rattle.refusal.specs.Refusal.{number_of, Answers}
use Rattle.refusal.proofs.Answers.{refuses}
use Rattle.section.specs.declared.Section.{Section}
use Rattle.writer.specs.Records.{section_at, count_in, records_refusal}
use Rattle.writer.specs.Written.{records_of, place_of, last_bytes, book_of, book_in, write_refusal, book_after}
use Rattle.writer.specs.Code.{put_at}
use Rattle.writer.proofs.Puts.{put_on}
use Rattle.writer.proofs.Strings.{Tallied, records_length, ends_with}

-- ---- how long a book is
module _ (s : ℕ → Section) (n : ℕ) where
  pub front_length : length (records_of s n ++ joined (place_of s) n) ≡ length (records_of s n) + 4 * n
  front_length = rw (length-append (records_of s n) (joined (place_of s) n), joined_length (place_of s) 4 n (λ i h. refl))

  pub of_length : length (book_of s n) ≡ length (records_of s n) + 4 * n + 16
  unfolding book_of
  of_length = rw (length-append (records_of s n ++ joined (place_of s) n) (last_bytes (length (records_of s n)) n), front_length)

-- ---- an answer that is refused by a number
pub refused_by : {X : Type 0} {n : ℕ} {x : X} (a : Result X Refusal) → (n ≡ 0 → ⊥) → number_of a ≡ n → Answers n x a
refused_by (Ok y) some h = absurd (some (sym h))
refused_by (Err e) some h = refuses h

-- ---- where a record is refused
pub book_refused : (r : List ℕ) (room : ℕ) → (records_refusal r ≡ 0 → ⊥) → write_refusal r room ≡ records_refusal r
unfolding write_refusal
book_refused r room some = rw (ne_eqb (records_refusal r) 0 some)

pub book_kept : (r before : List ℕ) → (write_refusal r (length before) ≡ 0 → ⊥) → before ≡ book_after r before
unfolding book_after
book_kept r before some = Answered.refuses _ (λ number. before) refl some

-- ---- the book of a string whose records all pass
module _ {r : List ℕ} {n : ℕ} (t : Tallied r n) where
  abbrev places : List ℕ
  places = joined (place_of (section_at r)) n

  index : length (records_of (section_at r) n) ≡ length r
  index = records_length r n ∙ ends_with t

  pub book_is : book_in r ≡ records_of (section_at r) n ++ places ++ last_bytes (length r) n
  unfolding book_of
  book_is = rw (← t.count, index)

  front : length (records_of (section_at r) n ++ places) ≡ length r + 4 * n
  front = front_length (section_at r) n ∙ ap (λ (k : ℕ). k + 4 * n) index

  pub book_length : length (book_in r) ≡ length r + 4 * n + 16
  book_length = rw (← t.count) (of_length (section_at r) n ∙ ap (λ (k : ℕ). k + 4 * n + 16) index)

  abbrev L : ℕ
  L = length r + 4 * n + 16

  module _ (before : List ℕ) where
    pub book_homeless : min (length before) 65536 < L → write_refusal r (length before) ≡ 19
    unfolding write_refusal
    book_homeless h = ⊎_elim small large (less_or_not (length before) L)
      where
        small : length before < L → write_refusal r (length before) ≡ 19
        small q = rw (t.none, book_length, lt-leb L (length before) q)

        large : L ≤ length before → write_refusal r (length before) ≡ 19
        large q = rw (t.none, book_length, le-leb L (length before) q, lt-leb L 65536 (omega arith))

    module _ (room : L ≤ min (length before) 65536) where
      pub book_granted : write_refusal r (length before) ≡ 0
      unfolding write_refusal
      book_granted = rw (t.none, book_length, le-leb L (length before) (omega arith), le-leb L 65536 (omega arith))

      pub book_put :
          {b1 b2 b3 : List ℕ}
          → b1 ≡ put_at 0 (records_of (section_at r) n) before
          → b2 ≡ put_at (length r) places b1
          → b3 ≡ put_at (length r + 4 * n) (last_bytes (length r) n) b2
          → b3 ≡ book_after r before
      unfolding book_after
      book_put p q s =
          let rs = records_of (section_at r) n in
          let two = q ∙ ap (put_at (length r) places) p ∙ put_on rs places before (length r) index in
          let end = last_bytes (length r) n in
          let three = s ∙ ap (put_at (length r + 4 * n) end) two ∙ put_on (rs ++ places) end before (length r + 4 * n) front in
          rw (book_granted, book_is) three

-- ---- where nothing is refused
pub all_passes : (r : List ℕ) (room : ℕ) → write_refusal r room ≡ 0 → Tallied r (count_in r) × (length (book_in r) ≤ 65536)
unfolding write_refusal
all_passes r room e =
    let k = none_of (records_refusal r) _ e in
    let fits = (passes 18 0 (is_both (is_most (length (book_in r)) room) (is_most (length (book_in r)) 65536)) k.1).0 in
    (record { none = k.0; count = refl }, fits.1)
