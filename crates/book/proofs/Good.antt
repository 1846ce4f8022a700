-- A book is good exactly where 1 to 4 pass, its walk over the records turned into the table's words; and what each line decides. Assumes nothing.
use Prim.Native.Nat.{ℕ, ◌+◌, ◌*◌, ◌<◌}
use mathlib.Core.Path.{◌≡◌}
use mathlib.Core.Bool.{true}
use mathlib.Core.List.{List}
use mathlib.Core.Logic.Iff
use mathlib.Core.Logic.{◌↔◌}
use lib.Dec.{ltb, leb, eqb}
use lib.ListN.{length}
use borrow.Author.Tests.{leb-true, eqb-true, le-leb, eq-eqb}
use Rattle.arith.specs.Below.{all_below}
use Rattle.arith.specs.Lines.{line}
use Rattle.arith.proofs.Tests.{both, all_below_is, below_all, Decides, is_less, is_same, is_both}
use Rattle.arith.proofs.Lines.{passes, none_of, between}
use Rattle.record.specs.Record.{layers_at}
use Rattle.book.specs.Book.{index_of, count_of, stated_length, byte_from_end, start_of, end_of, length_right, letters_right, index_right, ends_right, records_right, book_refusal, asked_refusal}
use Rattle.book.specs.Good.{LengthStands, LettersStand, IndexStands, StandsIn, RecordsStand, GoodBook}

module _ (s : List ℕ) where
  -- ---- line by line
  pub length_stands : Decides (length_right s) (LengthStands s)
  unfolding length_right
  length_stands = is_both (between 16 65536 (length s)) (is_same (stated_length s) (length s))

  pub letters_stand : Decides (letters_right s) (LettersStand s)
  unfolding letters_right
  letters_stand =
      Iff.trans
      (is_both
      (is_both (is_both (is_same (byte_from_end s 4) 66) (is_same (byte_from_end s 3) 79)) (is_same (byte_from_end s 2) 79))
      (is_same (byte_from_end s 1) 75))
      (λ p. (p.0.0.0, p.0.0.1, p.0.1, p.1), λ p. (((p.0, p.1), p.2), p.3))

  pub index_stands : Decides (index_right s) (IndexStands s)
  unfolding index_right
  index_stands = is_same (index_of s + 4 * count_of s + 16) (length s)

  ends_stands : (i : ℕ) → ends_right s i ≡ true → StandsIn s i
  unfolding ends_right
  ends_stands i e =
      let k = both _ (eqb (end_of s i) (start_of s (i + 1))) e in
      let l = both (leb (layers_at s (start_of s i)) 8) (leb (end_of s i) (index_of s)) k.0 in
      record { few = leb-true _ _ l.0; inside = leb-true _ _ l.1; meets = eqb-true _ _ k.1 }

  stands_ends : (i : ℕ) → StandsIn s i → ends_right s i ≡ true
  unfolding ends_right
  stands_ends i r = rw (le-leb _ _ r.few, le-leb _ _ r.inside, eq-eqb _ _ r.meets)

  pub records_exactly : (records_right s ≡ true) ↔ RecordsStand s
  unfolding records_right
  records_exactly = (stand, right)
    where
      stand : records_right s ≡ true → RecordsStand s
      stand e =
          let k = both (eqb (start_of s 0) 0) (all_below (count_of s) (ends_right s)) e in
          record { first = eqb-true _ _ k.0; each = λ i h. ends_stands i (all_below_is (count_of s) (ends_right s) k.1 i h) }

      right : RecordsStand s → records_right s ≡ true
      right r = rw (eq-eqb _ _ r.first, below_all (count_of s) (ends_right s) (λ i h. stands_ends i (r.each i h)))

  -- ---- the table
  pub good : book_refusal s ≡ 0 → GoodBook s
  unfolding book_refusal
  good e =
      let p1 = passes 0 _ length_stands e in
      let p2 = passes 1 _ letters_stand p1.1 in
      let p3 = passes 2 _ index_stands p2.1 in
      let p4 = passes 3 0 records_exactly p3.1 in
      record { sized = p1.0; letters = p2.0; index = p3.0; records = p4.0 }

  pub is_good : GoodBook s → book_refusal s ≡ 0
  unfolding book_refusal
  is_good g = rw (length_stands.1 g.sized, letters_stand.1 g.letters, index_stands.1 g.index, records_exactly.1 g.records)

  pub good_exactly : (book_refusal s ≡ 0) ↔ GoodBook s
  good_exactly = (good, is_good)

  -- ---- a record that is asked for and not refused
  pub asked : (i : ℕ) → asked_refusal s i ≡ 0 → (book_refusal s ≡ 0) × (i < count_of s)
  unfolding asked_refusal
  asked i e =
      let k = none_of (book_refusal s) (line (ltb i (count_of s)) 5 0) e in
      (k.0, (passes 4 0 (is_less i (count_of s)) k.1).0)
