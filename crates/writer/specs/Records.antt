-- Document 02 [1]: sections that come as a string of records, one after another, as a book has them before its index. What it stands for is a list of
-- sections: the first, the second and so on, and how many. Each is tested in turn, 6, then 7 to 13 with 20.
use Rattle.std.specs.Prelude.{ℕ, zero, suc, ◌+◌, cond, List, ltb, length}
use Rattle.arith.specs.Sums.{sum_n}
use Rattle.arith.specs.Lines.{first_of}
use Rattle.section.specs.declared.Section.{Section}
use Rattle.section.specs.Refusal.{section_refusal}
use Rattle.record.specs.Record.{size_at, record_refusal, section_in}
use Rattle.book.specs.Book.{part_of}

-- the record that begins at a place: its bytes, as many as it says or, at the end, what is left; 6, then 7 to 13 with 20
abbrev pub part_from : List ℕ → ℕ → List ℕ
part_from r at = part_of r at (size_at r at)

abbrev pub lone_refusal : List ℕ → ℕ
lone_refusal part = first_of (record_refusal part) (section_refusal (section_in part))

abbrev pub refusal_from : List ℕ → ℕ → ℕ
refusal_from r at = lone_refusal (part_from r at)

-- where record i begins: where the one before it ends
unfoldable pub place_at : List ℕ → ℕ → ℕ
place_at r zero = 0
place_at r (suc i) = place_at r i + size_at r (place_at r i)

abbrev pub section_at : List ℕ → ℕ → Section
section_at r i = section_in (part_from r (place_at r i))

abbrev pub refusal_at : List ℕ → ℕ → ℕ
refusal_at r i = refusal_from r (place_at r i)

-- how many there are: those that begin inside the string
abbrev pub begins : List ℕ → ℕ → ℕ
begins r i = cond (ltb (place_at r i) (length r)) 1 0

unfoldable pub count_in : List ℕ → ℕ
count_in r = sum_n (length r) (begins r)

-- the first that is refused gives its number
unfoldable pub first_below : ℕ → (ℕ → ℕ) → ℕ
first_below zero f = 0
first_below (suc n) f = first_of (first_below n f) (f n)

abbrev pub records_refusal : List ℕ → ℕ
records_refusal r = first_below (count_in r) (refusal_at r)
