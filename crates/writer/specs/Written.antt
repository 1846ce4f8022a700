-- Document 02 [1]: a book out of sections, byte for byte in document 01's layout; and what is refused.
use Rattle.std.specs.Prelude.{ℕ, ◌+◌, ◌*◌, Bool, ◌&&◌, List, [], ◌∷◌, ◌++◌, leb, length}
use Rattle.arith.specs.Answers.{unless_refused}
use Rattle.arith.specs.Joined.{joined, over}
use Rattle.arith.specs.Lines.{line, first_of}
use Rattle.section.specs.declared.Layer.{Layer}
use Rattle.section.specs.declared.Section.{Section}
use Rattle.section.specs.Added.{layer_refusal, with_layer}
use Rattle.record.specs.Record.{record_size, record_refusal, section_in}
use Rattle.record.specs.Filed.{bytes32, filed, as_written}
use Rattle.writer.specs.Records.{section_at, count_in, records_refusal}

-- ---- the book of n sections, of which s i is the one that is counted i
-- the records, one after another
abbrev pub written_record : (ℕ → Section) → ℕ → List ℕ
written_record s i = filed (as_written (s i))

abbrev pub records_of : (ℕ → Section) → ℕ → List ℕ
records_of s n = joined (written_record s) n

-- an index of n 32-bit record places
abbrev pub place_of : (ℕ → Section) → ℕ → List ℕ
place_of s i = bytes32 (length (records_of s i))

-- the last 16 bytes: the place of the index, n, the length of the book, the letters BOOK
abbrev pub last_bytes : ℕ → ℕ → List ℕ
last_bytes index n = bytes32 index ++ bytes32 n ++ bytes32 (index + 4 * n + 16) ++ (66 ∷ 79 ∷ 79 ∷ 75 ∷ [])

unfoldable pub book_of : (ℕ → Section) → ℕ → List ℕ
book_of s n = records_of s n ++ joined (place_of s) n ++ last_bytes (length (records_of s n)) n

-- ---- out of a string of records, into so many lent bytes
abbrev pub book_in : List ℕ → List ℕ
book_in r = book_of (section_at r) (count_in r)

-- 19: the lent bytes or 65,536 don't hold the book
abbrev pub holds : ℕ → ℕ → Bool
holds room size = leb size room && leb size 65536

unfoldable pub write_refusal : List ℕ → ℕ → ℕ
write_refusal r room = first_of (records_refusal r) (line (holds room (length (book_in r))) 19 0)

-- the lent bytes afterwards: those past the book stay
unfoldable pub book_after : List ℕ → List ℕ → List ℕ
book_after r before = unless_refused (write_refusal r (length before)) (over (book_in r) before) (λ number. before)

-- ---- a record with a layer added: 6, then 12, then 19 where so many lent bytes don't hold it; spacing as filed
abbrev pub layer_record : Section → Layer → List ℕ
layer_record s l = filed (with_layer s l)

unfoldable pub add_refusal : Section → Layer → ℕ → ℕ
add_refusal s l room = first_of (layer_refusal s l) (line (leb (record_size (s.count + 1) s.hf) room) 19 0)

-- of a record that is handed over: 6 first; and how long it then is
unfoldable pub added_refusal : List ℕ → Layer → ℕ → ℕ
added_refusal r l room = first_of (record_refusal r) (add_refusal (section_in r) l room)

abbrev pub added_size : List ℕ → ℕ
added_size r = record_size ((section_in r).count + 1) (section_in r).hf

unfoldable pub record_after : List ℕ → Layer → List ℕ → List ℕ
record_after r l before = unless_refused (added_refusal r l (length before)) (over (layer_record (section_in r) l) before) (λ number. before)
