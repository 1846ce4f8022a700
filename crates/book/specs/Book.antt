-- Document 01, 'The section book' and refusals 1 to 5 of 'What is refused', line by line. A number past the end is read as 0.
use Rattle.std.specs.Prelude.{ℕ, ◌+◌, ◌*◌, ◌-◌, Bool, cond, ◌&&◌, List, [], ltb, leb, eqb, length, get_or, take, drop}
use Rattle.arith.specs.Answers.{unless_refused}
use Rattle.arith.specs.Below.{all_below}
use Rattle.arith.specs.Lines.{line, first_of, within}
use Rattle.book.specs.declared.Place.{Place}
use Rattle.record.specs.Record.{le32_at, layers_at, size_at}

-- ---- the last 16 bytes: the place of the index, n, the length of the book, the letters BOOK
abbrev pub index_of : List ℕ → ℕ
index_of s = le32_at s (length s - 16)

abbrev pub count_of : List ℕ → ℕ
count_of s = le32_at s (length s - 12)

abbrev pub stated_length : List ℕ → ℕ
stated_length s = le32_at s (length s - 8)

abbrev pub byte_from_end : List ℕ → ℕ → ℕ
byte_from_end s back = get_or s (length s - back) 0

-- ---- the records, one after another
-- where record i starts or, after the last, the index
unfoldable pub start_of : List ℕ → ℕ → ℕ
start_of s i = cond (ltb i (count_of s)) (le32_at s (index_of s + 4 * i)) (index_of s)

-- and where it ends
abbrev pub end_of : List ℕ → ℕ → ℕ
end_of s i = start_of s i + size_at s (start_of s i)

-- ---- what is refused of a book
-- 1: of 16 to 65,536 bytes, and of its stated length
unfoldable pub length_right : List ℕ → Bool
length_right s = within 16 65536 (length s) && eqb (stated_length s) (length s)

-- 2: the last four bytes are BOOK: 66, 79, 79, 75
unfoldable pub letters_right : List ℕ → Bool
letters_right s = eqb (byte_from_end s 4) 66 && eqb (byte_from_end s 3) 79 && eqb (byte_from_end s 2) 79 && eqb (byte_from_end s 1) 75

-- 3: index place + 4n + 16 is the length
unfoldable pub index_right : List ℕ → Bool
index_right s = eqb (index_of s + 4 * count_of s + 16) (length s)

-- 4: the first record (or, where n is 0, the index) at 0; no layer count over 8; no record that runs past the index or doesn't end where
-- the next (or the index) starts
unfoldable pub ends_right : List ℕ → ℕ → Bool
ends_right s i = leb (layers_at s (start_of s i)) 8 && leb (end_of s i) (index_of s) && eqb (end_of s i) (start_of s (i + 1))

unfoldable pub records_right : List ℕ → Bool
records_right s = eqb (start_of s 0) 0 && all_below (count_of s) (ends_right s)

unfoldable pub book_refusal : List ℕ → ℕ
book_refusal s =
    line (length_right s) 1
    (line (letters_right s) 2
    (line (index_right s) 3
    (line (records_right s) 4
    0)))

-- ---- a record of a book, by its number
-- 5: n or more
unfoldable pub asked_refusal : List ℕ → ℕ → ℕ
asked_refusal s i = first_of (book_refusal s) (line (ltb i (count_of s)) 5 0)

-- where it is, and its bytes
abbrev pub place_in : List ℕ → ℕ → Place
place_in s i = record { at = start_of s i; len = size_at s (start_of s i) }

-- so many bytes of the book from a place on
abbrev pub part_of : List ℕ → ℕ → ℕ → List ℕ
part_of s at len = take len (drop at s)

-- the record's part, not copied; the empty part where it is refused
unfoldable pub record_of : List ℕ → ℕ → List ℕ
record_of s i = unless_refused (asked_refusal s i) (part_of s (start_of s i) (size_at s (start_of s i))) (λ number. [])
