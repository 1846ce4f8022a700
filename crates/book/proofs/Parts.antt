-- A record's part of its book: empty exactly where it is refused, and byte for byte what is filed. Assumes nothing.
use Prim.Native.Nat.{ℕ, ◌+◌, ◌-◌, ◌≤◌, ◌<◌}
use mathlib.Core.Path.{◌≡◌, refl, sym, ap}
use mathlib.Core.Bool.{◌||◌}
use mathlib.Core.List.{List, []}
use mathlib.Core.Logic.{◌↔◌, ⊎_elim}
use native.Mathlib.Nat.{add_assoc, add-sub_cancel_left, eq-zero-or-pos}
use native.Mathlib.Omega.{arith}
use lib.Dec.{eqb}
use lib.ListN.{length, length-take, length-drop}
use lib.Seq.{get_or-take, get_or-drop}
use borrow.Author.Tests.{eq-eqb, le-leb}
use Rattle.arith.specs.Lines.{line}
use Rattle.arith.proofs.Answers.{refuses}
use Rattle.std.specs.Prelude.{Ok, Err}
use Rattle.refusal.specs.declared.Refusal.{Refusal}
use Rattle.refusal.specs.Refusal.{Answers}
use Rattle.refusal.proofs.Answers.{number_in}
use Rattle.book.specs.declared.Place.{Place}
use Rattle.record.specs.Record.{le16_at, layers_end, layers_at, flange_at, size_at, record_right, record_refusal}
use Rattle.record.proofs.Length.{some_flange}
use Rattle.book.specs.Book.{start_of, asked_refusal, place_in, part_of, record_of}
use Rattle.book.specs.Good.{GoodBook, StandsIn, Shows}
use Rattle.book.proofs.Good.{good, asked}

module _ (s : List ℕ) (i : ℕ) where
  module _ (ok : asked_refusal s i ≡ 0) where
    pub book_good : GoodBook s
    book_good = good s (asked s i ok).0

    stands : StandsIn s i
    stands = book_good.records.each i (asked s i ok).1

    pub part_is : record_of s i ≡ part_of s (start_of s i) (size_at s (start_of s i))
    unfolding record_of
    part_is = rw ok

    ends_inside : start_of s i + size_at s (start_of s i) ≤ length s
    ends_inside = omega (arith, stands.inside, book_good.index)

    pub part_shows : Shows s i (record_of s i)
    part_shows = rw part_is (record { size = simp (length-take, length-drop) (omega (arith, ends_inside)); bytes = λ j h. rw (get_or-take, get_or-drop) })

    -- a number of the part is the book's, 16 bits from a place on
    part_le16 : (j : ℕ) → j + 1 < size_at s (start_of s i) → le16_at (record_of s i) j ≡ le16_at s (start_of s i + j)
    part_le16 j h = rw (part_shows.bytes j (omega arith), part_shows.bytes (j + 1) (omega arith), add_assoc (start_of s i) j 1)

    -- 6 then tests nothing but the zero behind the flange width
    abbrev zero : ℕ
    zero = layers_end (layers_at s (start_of s i)) + 2

    flange_zero :
        (hf : ℕ) → hf ≡ flange_at s (start_of s i)
        → eqb hf 0 || eqb (le16_at (record_of s i) zero) 0 ≡ eqb hf 0 || eqb (le16_at s (start_of s i + zero)) 0
    flange_zero hf e =
        ⊎_elim (λ none. rw (eq-eqb hf 0 none))
        (λ some. ap (λ n. eqb hf 0 || eqb n 0) (part_le16 zero (omega (arith, some_flange (flange_at s (start_of s i)) (omega arith)))))
        (eq-zero-or-pos hf)

    pub part_refusal : record_refusal (record_of s i) ≡ line (eqb (flange_at s (start_of s i)) 0 || eqb (le16_at s (start_of s i + zero)) 0) 6 0
    unfolding record_refusal record_right
    part_refusal =
        rw (part_le16 20 (omega arith), part_le16 22 (omega arith), part_shows.size, eq-eqb (size_at s (start_of s i)) _ refl, le-leb _ 8 stands.few)
        (ap (λ t. line t 6 0) (flange_zero (flange_at s (start_of s i)) refl))

  -- ---- the empty part
  none_refused : (asked_refusal s i ≡ 0 → ⊥) → record_of s i ≡ []
  unfolding record_of
  none_refused f = sym (refuses _ (λ number. []) refl f)

  pub empty_exactly : (record_of s i ≡ []) ↔ (asked_refusal s i ≡ 0 → ⊥)
  empty_exactly = (λ e ok. let n = (part_shows ok).size in let z = ap length e in omega arith, none_refused)

  -- ---- the part at the place that is found
  module _ {p : Place} (found : Answers (asked_refusal s i) (place_in s i) (Ok p)) where
    pub place_inside : p.at + p.len ≤ length s
    place_inside = rw found.value (ends_inside (sym found.number))

    pub place_part : part_of s p.at (p.at + p.len - p.at) ≡ record_of s i
    place_part = rw (add-sub_cancel_left p.at p.len, found.value) (sym (part_is (sym found.number)))

  pub none_found : {e : Refusal} → Answers (asked_refusal s i) (place_in s i) (Err e) → record_of s i ≡ []
  none_found {e} none = none_refused (λ h. omega (arith, (number_in e).0, none.number))

pub ruleset parts = (place_inside, place_part)
