-- What the list of depths answers, and its first depth alone, refusals included (document 01, 'What is refused').
use Rattle.std.specs.Prelude.{ℕ, ◌+◌, ◌*◌, cond, List, ltb, leb, eqb, ℤ, pos, length, Result, Ok, Err}
use Rattle.refusal.specs.Refusal.{number}
use Rattle.arith.specs.Answers.{unless_refused}
use Rattle.arith.specs.Lines.{line, first_of}
use Rattle.section.specs.declared.Section.{Section}
use Rattle.section.specs.Refusal.{section_refusal}
use Rattle.section.specs.Has.{last_depth}
use Rattle.depths.specs.declared.Listing.{Listing}
use Rattle.depths.specs.declared.FirstDepth.{FirstDepth}
use Rattle.depths.specs.declared.Unlisted.{Unlisted}
use Rattle.depths.specs.declared.Unlisted.TheVariants.{Refused, NoDepth, RowShort}
use Rattle.depths.specs.Depths.{Entry, kind_number, entry_of, listed, written}

-- 7 to 13 with 20 first, then 14 where there is no depth to list
unfoldable pub depths_refusal : Section → ℕ
depths_refusal s = first_of (section_refusal s) (line (ltb 0 (length (listed s))) 14 0)

-- into a row of so many words: then 15 where it is shorter than three words a depth
unfoldable pub list_refusal : Section → ℕ → ℕ
list_refusal s room = first_of (depths_refusal s) (line (leb (3 * length (listed s)) room) 15 0)

-- ---- document 02 [6], how much work that was: the number of stresses evaluated for imbalances
-- strips plus layers for each depth looked at, which are all from 1 on to a last one
abbrev pub work_to : Section → ℕ → ℕ
work_to s last = last * (s.h + s.count)

-- as far as the grid's last: for the list, and where there is no depth to find
abbrev pub whole_work : Section → ℕ
whole_work s = work_to s (last_depth s)

-- the last one looked at for a first depth: x itself for kind 1, x + 1 for kind 2
abbrev pub last_looked : (x kind : ℕ) → ℕ
last_looked x kind = cond (eqb kind 1) x (x + 1)

-- ---- what is answered: refusal and count, or the first depth, and the work
pub record ListAnswer : Type 0 where
  pub refusal : ℕ
  pub count : ℕ
  pub work : ℕ

pub record FirstAnswer : Type 0 where
  pub refusal : ℕ
  pub depth : ℕ
  pub kind : ℕ
  pub work : ℕ
  pub moment : ℤ

-- ---- where nothing is listed: no count, and no first depth; work only where the section is not refused
abbrev pub unlisted : ℕ → ListAnswer
unlisted number = record { refusal = number; count = 0; work = 0 }

abbrev pub no_depth : (work number : ℕ) → FirstAnswer
no_depth work number = record { refusal = number; depth = 0; kind = 0; work = work; moment = pos 0 }

abbrev pub no_first : ℕ → FirstAnswer
no_first = no_depth 0

-- the number of listed depths, under 15 too, and the work of the whole grid, under 14 and 15 too
abbrev pub looked_at_all : Section → (number count : ℕ) → ListAnswer
looked_at_all s number count = record { refusal = number; count = count; work = whole_work s }

unfoldable pub list_answer : Section → ℕ → ListAnswer
list_answer s room = unless_refused (section_refusal s) (looked_at_all s (list_refusal s room) (length (listed s))) unlisted

-- the row afterwards: on any refusal all its words stay
unfoldable pub row_after : Section → List ℤ → List ℤ
row_after s row = cond (eqb (list_refusal s (length row)) 0) (written (listed s) row) row

-- document 02 [5]: the first entry of the list alone, which needs no row
abbrev pub first_of_list : Section → Entry → FirstAnswer
first_of_list s e =
    let work = work_to s (last_looked e.depth e.kind) in
    record { refusal = 0; depth = e.depth; kind = e.kind; work = work; moment = e.moment }

unfoldable pub first_answer : Section → FirstAnswer
first_answer s =
    unless_refused (section_refusal s)
    (unless_refused (depths_refusal s) (first_of_list s (entry_of (listed s) 0)) (no_depth (whole_work s)))
    no_first

-- ---- what a result tells of that
abbrev pub told : Result Listing Unlisted → ListAnswer
told (Ok l) = record { refusal = 0; count = l.count; work = l.work }
told (Err (Refused refusal)) = unlisted (number refusal)
told (Err (NoDepth work)) = record { refusal = 14; count = 0; work = work }
told (Err (RowShort count work)) = record { refusal = 15; count = count; work = work }

abbrev pub told_first : Result FirstDepth Unlisted → FirstAnswer
told_first (Ok f) = record { refusal = 0; depth = f.depth; kind = kind_number f.kind; work = f.work; moment = f.moment }
told_first (Err (Refused refusal)) = no_first (number refusal)
told_first (Err (NoDepth work)) = no_depth work 14
told_first (Err (RowShort count work)) = no_depth work 15
