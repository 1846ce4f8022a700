-- What a good book is: document 01's table of refusals in its words, line by line. And what is filed for a record.
use Rattle.std.specs.Prelude.{ℕ, ◌+◌, ◌*◌, ◌≤◌, ◌<◌, ◌≡◌, List, length, get_or}
use Rattle.arith.specs.Lines.{Between}
use Rattle.record.specs.Record.{layers_at, size_at}
use Rattle.book.specs.Book.{index_of, count_of, stated_length, byte_from_end, start_of, end_of}

-- 1: of 16 to 65,536 bytes, and of its stated length
abbrev pub LengthStands : List ℕ → Type 0
LengthStands s = Between 16 65536 (length s) × (stated_length s ≡ length s)

-- 2: the last four bytes are BOOK
abbrev pub LettersStand : List ℕ → Type 0
LettersStand s = (byte_from_end s 4 ≡ 66) × (byte_from_end s 3 ≡ 79) × (byte_from_end s 2 ≡ 79) × (byte_from_end s 1 ≡ 75)

-- 3: index place + 4n + 16 is the length
abbrev pub IndexStands : List ℕ → Type 0
IndexStands s = index_of s + 4 * count_of s + 16 ≡ length s

-- 4: a record of the book, and all of them, from byte 0 on
pub record StandsIn (s : List ℕ) (i : ℕ) : Type 0 where
  pub few : layers_at s (start_of s i) ≤ 8
  pub inside : end_of s i ≤ index_of s
  pub meets : end_of s i ≡ start_of s (i + 1)

pub record RecordsStand (s : List ℕ) : Type 0 where
  pub first : start_of s 0 ≡ 0
  pub each : (i : ℕ) → i < count_of s → StandsIn s i

pub record GoodBook (s : List ℕ) : Type 0 where
  pub sized : LengthStands s
  pub letters : LettersStand s
  pub index : IndexStands s
  pub records : RecordsStand s

-- a part shows record i: it has as many bytes as the record's m and hf say, and each is the book's, from the record's place on
pub record Shows (s : List ℕ) (i : ℕ) (part : List ℕ) : Type 0 where
  pub size : length part ≡ size_at s (start_of s i)
  pub bytes : (j : ℕ) → j < size_at s (start_of s i) → get_or part j 0 ≡ get_or s (start_of s i + j) 0
