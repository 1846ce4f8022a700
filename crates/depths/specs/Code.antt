-- What the private functions answer. No public contract cites it.
use Rattle.std.specs.Prelude.{ℕ, ◌+◌, ◌*◌, ◌≤◌, ◌<◌, ◌≡◌, Bool, false, cond, ◌&&◌, ◌||◌, List, ltb, eqb, ℤ, pos, nat_abs, get_or, ◌≤ℤ◌, Option, None, Some}
use Rattle.std.specs.declared.cmp.Ordering.{Ordering}
use Rattle.std.specs.declared.cmp.Ordering.TheVariants.{Less, Equal, Greater}
use Rattle.std.specs.Ordering.{int_cmp, is_lt, is_gt}
use Rattle.arith.specs.Sums.{sum_z}
use Rattle.section.specs.declared.Section.{Section}
use Rattle.section.specs.Has.{last_depth}
use Rattle.strips.specs.declared.Range.{Range}
use Rattle.forces.specs.Forces.{imbalance}
use Rattle.depths.specs.declared.Kind.{Kind}
use Rattle.depths.specs.declared.Kind.TheVariants as Kinds
use Rattle.depths.specs.declared.list.Mark.{Mark}
use Rattle.depths.specs.declared.list.Mark.TheVariants.{Unlisted, Zero, Pair}
use Rattle.depths.specs.declared.walk.Listed.{Listed}
use Rattle.depths.specs.Depths.{kind_number, kind_at}
use Rattle.depths.specs.Answers.{last_looked}

-- a force lies from one bound to the other, which are of at most so much
pub record Lies (force : ℤ) (most : ℕ) (r : Range) : Type 0 where
  pub above : r.low ≤ℤ force
  pub below : force ≤ℤ r.high
  pub low_most : nat_abs r.low ≤ most
  pub high_most : nat_abs r.high ≤ most

-- the strip that the run of one width from a strip on ends before: at the flange's underside, or at the section's
abbrev pub run_end : Section → ℕ → ℕ
run_end s from = cond (ltb from s.hf) s.hf s.h

-- 2,000 times the most that a bound of a run of strips is
abbrev pub most_run : ℕ
most_run = 2000 * 4294967296

-- the forces of the strips up to one are summed, by so many runs: two at most, one where there are more strips, none
-- within the flange
pub record Summed (s : Section) (force : ℕ → ℤ) (from : ℕ) (r : Range) : Type 0 where
  pub runs : ℕ
  pub two : runs ≤ 2
  pub one : from < s.h → runs ≤ 1
  pub none : from < s.hf → runs ≡ 0
  pub inside : from ≤ s.h
  pub lies : Lies (sum_z from force) (most_run * runs) r

-- no layer's force is larger than the largest area at the largest fyd, and there are 8
abbrev pub most_bars : ℕ
most_bars = 65535 * 521739 * 8

-- the sign of an imbalance: how it compares with zero
abbrev pub sign_of : ℤ → Ordering
sign_of z = int_cmp z (pos 0)

-- ---- the walk from one listed depth to the next
-- the sign at the last depth that was looked at, where one was
abbrev pub sign_looked : Section → ℕ → Option Ordering
sign_looked s looked = cond (eqb looked 0) None (Some (sign_of (imbalance s looked)))

-- two signs on opposite sides of zero
abbrev pub opposed : Option Ordering → Ordering → Bool
opposed None q = false
opposed (Some p) q = (is_lt p && is_gt q) || (is_gt p && is_lt q)

-- the first depth whose kind the signs up to there leave open: that one, where it is on a side of zero and so may have
-- kind 2, else the next
abbrev pub open_from : ℕ → Option Ordering → ℕ
open_from looked None = looked + 1
open_from looked (Some Less) = looked
open_from looked (Some Equal) = looked + 1
open_from looked (Some Greater) = looked

-- no depth from one on is listed, as far as another, which is not among them
abbrev pub NoneTo : Section → ℕ → ℕ → Type 0
NoneTo s from to = (x : ℕ) → from ≤ x → x < to → kind_at s x ≡ 0

-- from a depth on it looked as far as another, with this sign, and found none
pub record Walked (s : Section) (from looked : ℕ) (sign : Option Ordering) : Type 0 where
  pub on : from ≤ open_from looked sign
  pub none : NoneTo s from (open_from looked sign)

-- what is kept of a depth: the kind that its mark stands for, if any; and by the kind's number, 0 of none
abbrev pub marked : Mark → Option Kind
marked Unlisted = None
marked Zero = Some Kinds.Zero
marked Pair = Some Kinds.Pair

abbrev pub kept_number : Option Kind → ℕ
kept_number None = 0
kept_number (Some k) = kind_number k

-- the next listed depth from one on, and the last depth looked at for it, from which the walk can go on
pub record Next (s : Section) (from : ℕ) (l : Listed) (looked : ℕ) (sign : Option Ordering) : Type 0 where
  pub on : from ≤ l.depth
  pub inside : l.depth ≤ last_depth s
  pub none : NoneTo s from l.depth
  pub kind : kind_number l.kind ≡ kind_at s l.depth
  pub on_from : open_from looked sign ≡ l.depth + 1
  pub last : looked ≡ last_looked l.depth (kind_number l.kind)

-- the kinds of the depths above one are kept, that of depth 1 first, and no other
abbrev pub Kept : Section → ℕ → List (Option Kind) → Type 0
Kept s depth kept = (i : ℕ) → kept_number (get_or kept i None) ≡ cond (ltb (i + 1) depth) (kind_at s (i + 1)) 0
