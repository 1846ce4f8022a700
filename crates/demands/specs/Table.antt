-- Document 01, 'What is refused, tested in this order': the whole table, a definition a line, and the lines that concern each call.
use Rattle.std.specs.Prelude.{ℕ, zero, suc, ◌+◌, ◌*◌, ◌≤◌, ◌<◌, ◌≡◌, ◌⊎◌, List, [], ◌∷◌, ◌++◌, ℤ, length}
use Rattle.arith.specs.Lines.{Between}
use Rattle.section.specs.declared.Layer.{Layer}
use Rattle.section.specs.declared.Section.{Section}
use Rattle.section.specs.Accepted.{ConcreteIn, SizesIn, FlangeIn, SteelIn, FibresIn, LoadIn, BarsIn, TakesLayer, StirrupsIn}
use Rattle.drawn.specs.Drawn.{Drawable}
use Rattle.section.specs.Has.{last_depth}
use Rattle.depths.specs.Depths.{listed, SomeDepth}
use Rattle.book.specs.Book.{count_of}
use Rattle.record.specs.Record.{record_size}
use Rattle.record.specs.Alone.{StandsAlone}
use Rattle.book.specs.Good.{LengthStands, LettersStand, IndexStands, RecordsStand}
use Rattle.writer.specs.Records.{part_from, place_at, section_at, count_in}
use Rattle.writer.specs.Written.{book_in}
use Rattle.class.specs.Class.{ClassIn}
use Rattle.strength.specs.Strength.{NumberIn, ResultsIn, ValueIn}

-- a line: its number, and what it asks for; it holds where that is not so
pub record Line : Type 1 where
  pub number : ℕ
  pub asks : Type 0

infix 20 ◌unless◌
abbrev pub ◌unless◌ : ℕ → Type 0 → Line
◌unless◌ number asks = record { number = number; asks = asks }

-- k is the number of the first line that holds, or 0 where none does
unfoldable pub First : List Line → ℕ → Type 0
First [] k = k ≡ 0
First (l ∷ ls) k = ((l.asks → ⊥) × (k ≡ l.number)) ⊎ (l.asks × First ls k)

-- ---- of a book, and of a record that is asked for
abbrev pub book_lines : List ℕ → List Line
book_lines s =
    (1 unless LengthStands s)
    ∷ (2 unless LettersStand s)
    ∷ (3 unless IndexStands s)
    ∷ (4 unless RecordsStand s)
    ∷ []

abbrev pub asked_lines : List ℕ → ℕ → List Line
asked_lines s i = book_lines s ++ (5 unless i < count_of s) ∷ []

-- ---- of a lone record
abbrev pub lone_lines : List ℕ → List Line
lone_lines r = (6 unless StandsAlone r) ∷ []

-- ---- of a section
abbrev pub section_lines : Section → List Line
section_lines s =
    (7 unless ConcreteIn s)
    ∷ (8 unless SizesIn s)
    ∷ (20 unless FlangeIn s)
    ∷ (9 unless SteelIn s)
    ∷ (10 unless FibresIn s)
    ∷ (11 unless LoadIn s)
    ∷ (12 unless BarsIn s)
    ∷ (13 unless StirrupsIn s)
    ∷ []

-- a layer that is added
abbrev pub layer_lines : Section → Layer → List Line
layer_lines s l = (12 unless TakesLayer s l) ∷ []

-- a section that is filed: of 12 only the layer count
abbrev pub filed_lines : Section → List Line
filed_lines s = (12 unless s.count ≤ 8) ∷ []

-- the first depth, and the list of depths, into a row of so many words
abbrev pub first_lines : Section → List Line
first_lines s = section_lines s ++ (14 unless SomeDepth s) ∷ []

abbrev pub depths_lines : Section → ℕ → List Line
depths_lines s room = first_lines s ++ (15 unless 3 * length (listed s) ≤ room) ∷ []

abbrev pub shear_lines : Section → List Line
shear_lines s = section_lines s ++ (16 unless 0 < s.count) ∷ []

-- ---- of a string of records, each in turn: 6, then 7 to 13 with 20
abbrev pub record_lines : List ℕ → ℕ → List Line
record_lines r i = lone_lines (part_from r (place_at r i)) ++ section_lines (section_at r i)

unfoldable pub records_lines : List ℕ → ℕ → List Line
records_lines r zero = []
records_lines r (suc n) = records_lines r n ++ record_lines r n

-- then the book of them, and of a record with a layer added, into so many bytes
abbrev pub BookFits : List ℕ → ℕ → Type 0
BookFits r room = (length (book_in r) ≤ room) × (length (book_in r) ≤ 65536)

abbrev pub write_lines : List ℕ → ℕ → List Line
write_lines r room = records_lines r (count_in r) ++ (19 unless BookFits r room) ∷ []

abbrev pub add_lines : Section → Layer → ℕ → List Line
add_lines s l room = layer_lines s l ++ (19 unless record_size (s.count + 1) s.hf ≤ room) ∷ []

-- ---- of a class
abbrev pub class_lines : ℕ → ℕ → List Line
class_lines fr1 fr3 = (17 unless ClassIn fr1 fr3) ∷ []

-- ---- of a series of beam results
abbrev pub strength_lines : List ℕ → List Line
strength_lines rs =
    (21 unless NumberIn rs)
    ∷ (22 unless ResultsIn rs)
    ∷ (23 unless ValueIn rs)
    ∷ []

-- ---- of a section, at a strain or at a depth
abbrev pub strain_lines : Section → ℤ → List Line
strain_lines s e = section_lines s ++ (18 unless Drawable e) ∷ []

abbrev pub grid_lines : Section → ℕ → List Line
grid_lines s x = section_lines s ++ (18 unless Between 1 (last_depth s) x) ∷ []
