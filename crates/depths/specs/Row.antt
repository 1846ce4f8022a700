-- What a caller reads in the row: three words for each listed depth.
use Rattle.std.specs.Prelude.{ℕ, ◌+◌, ◌*◌, ◌<◌, ◌≡◌, cond, List, eqb, ℤ, pos, get_or}
use Rattle.arith.specs.Sums.{sum_n}
use Rattle.section.specs.declared.Section.{Section}
use Rattle.section.specs.Has.{last_depth}
use Rattle.depths.specs.Depths.{Entry, kind_at}

abbrev pub word_at : List ℤ → ℕ → ℤ
word_at row j = get_or row j (pos 0)

-- the three words at place i are an entry's
pub record ReadAt (row : List ℤ) (i : ℕ) (e : Entry) : Type 0 where
  pub depth : word_at row (3 * i) ≡ pos e.depth
  pub kind : word_at row (3 * i + 1) ≡ pos e.kind
  pub moment : word_at row (3 * i + 2) ≡ e.moment

-- an entry is shown: it is read at one of the first `count` places
abbrev pub Shown : List ℤ → ℕ → Entry → Type 0
Shown row count e = (i : ℕ) × (i < count) × ReadAt row i e

-- how many of the depths 1 to the last have a kind
abbrev pub how_many : Section → ℕ
how_many s = sum_n (last_depth s) (λ i. cond (eqb (kind_at s (i + 1)) 0) 0 1)
