-- Document 02 [1], books written on the unit: what it promises, over the contracts of the writer and the reader.
use Rattle.std.specs.Prelude.{ℕ, ◌≤◌, ◌<◌, ◌≡◌, List, ◌++◌, length, take, Result, Ok, IfOk}
use Rattle.arith.specs.Joined.{joined}
use Rattle.refusal.specs.declared.Refusal.{Refusal}
use Rattle.record.specs.Record.{Bytes, section_in}
use Rattle.record.specs.Filed.{as_written}
use Rattle.book.specs.Good.{Shows}
use Rattle.writer.specs.Records.{section_at, count_in}
use Rattle.panel.specs.declared.answers.BookAnswer.{BookAnswer}
use Rattle.panel.specs.declared.answers.Written.{Written}
use Rattle.demands.specs.Every as Every
use Rattle.demands.specs.Table.{First, lone_lines, section_lines}

-- of a book that was written, by its bytes: it is good, and its count is the number of sections
abbrev pub Counted : List ℕ → List ℕ → List ℕ → Result ℕ Refusal → Type 0
Counted records written bytes y = bytes ≡ written → y ≡ Ok (count_in records)

abbrev pub FaceCounted : List ℕ → List ℕ → List ℕ → BookAnswer → Type 0
FaceCounted records written bytes y = bytes ≡ written → (y.refusal ≡ 0) × (y.count ≡ count_in records)

-- a record passes 6 to 13 with 20, and without stirrups it has spacing 0
pub record Passes (part : List ℕ) : Type 0 where
  pub lines : First (lone_lines part ++ section_lines (section_in part)) 0
  pub idle : (section_in part).asw ≡ 0 → (section_in part).spacing ≡ 0

-- of a good book, and parts that show its records: writing them, one after another, where there is room, gives the same bytes
abbrev pub Parts : List ℕ → (count : ℕ) → (ℕ → List ℕ) → Type 0
Parts bytes count parts = (i : ℕ) → i < count → Shows bytes i (parts i) × Passes (parts i)

abbrev pub Again : List ℕ → (ℕ → List ℕ) → ℕ → List ℕ → List ℕ → Result ℕ Refusal → List ℕ → Type 0
Again bytes parts count records before x after =
    records ≡ joined parts count → length bytes ≤ length before → (x ≡ Ok (length bytes)) × (take (length bytes) after ≡ bytes)

abbrev pub FaceAgain : List ℕ → (ℕ → List ℕ) → ℕ → List ℕ → List ℕ → Written → List ℕ → Type 0
FaceAgain bytes parts count records before x after =
    records ≡ joined parts count → length bytes ≤ length before → (x.refusal ≡ 0) × (x.len ≡ length bytes) × (take x.len after ≡ bytes)

pub record Request1 : Type 0 where
  -- reading a written book gives the same sections in order, through `record` and `section_of`, with spacing 0 where there are no stirrups; of a record
  -- they have zeros past the layer count already, and bf read as 0 where hf is 0
  pub counted : Every.write_book (λ records before x after. IfOk x (λ len. Every.book (Counted records (take len after))))
  pub same :
      Every.write_book
      (λ records before x after. IfOk x (λ len.
      Every.record_part
      (λ bytes i part. bytes ≡ take len after → i < count_in records →
      Every.section_of (λ r y. r ≡ part → y ≡ Ok (as_written (section_at records i))))))
  -- and writing what was read from a good book, by parts that show its records, gives the same bytes
  pub again :
      Every.book
      (λ bytes y. IfOk y (λ count. Bytes bytes →
      (parts : ℕ → List ℕ) → Parts bytes count parts → Every.write_book (Again bytes parts count)))
  -- the C face
  pub fw_counted :
      Every.fw_write_book (λ records before x after. x.refusal ≡ 0 → Every.fw_book (FaceCounted records (take x.len after)))
  pub fw_again :
      Every.fw_book
      (λ bytes y. y.refusal ≡ 0 → Bytes bytes →
      (parts : ℕ → List ℕ) → Parts bytes y.count parts → Every.fw_write_book (FaceAgain bytes parts y.count))
