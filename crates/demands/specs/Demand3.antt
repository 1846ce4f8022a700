-- Demand 3: for each section and load, every depth where the forces balance is listed, once, shallowest first; where the exact sums clearly change sign
-- the pair is listed. It is said of what a caller gets: the row, the count, and the amounts that are answered. The exact sums are written out here, so
-- that no definition below has to be believed to be one.
use Rattle.std.specs.Prelude.{ℕ, ◌+◌, ◌*◌, ◌≤◌, ◌<◌, ◌≡◌, ◌⊎◌, ◌↔◌, List, ℤ, pos, neg_ℤ, nat_abs, ◌+ℤ◌, ◌-ℤ◌, ◌*ℤ◌, length, ◌≤ℤ◌, ◌<ℤ◌, IfOk}
use Rattle.arith.specs.Sums.{sum_n, sum_z}
use Rattle.section.specs.declared.Section.{Section}
use Rattle.section.specs.Accepted.{Accepted}
use Rattle.law.specs.Law.{law_of}
use Rattle.law.specs.Stress.{Stress, signed}
use Rattle.section.specs.Has.{width_at, depth_at, area_at, load_of, last_depth}
use Rattle.forces.specs.Forces.{strip_stress, bar_stress, imbalance, moment}
use Rattle.depths.specs.Depths.{Entry, Balances, NoDepth}
use Rattle.depths.specs.Row.{word_at, Shown, how_many}
use Rattle.depths.specs.Answers.{ListAnswer}
use Rattle.record.specs.Record.{section_in}
use Rattle.record.specs.Alone.{StandsAlone}
use Rattle.demands.specs.Every as Every

-- ---- the exact sums of a depth: the same whole numbers of the law, but unrounded stresses, all over one denominator
-- n over C is a stress: den times n is C times num, sign included
abbrev pub Over : ℕ → ℤ → Stress → Type 0
Over C n t = pos t.den *ℤ n ≡ pos C *ℤ signed t.pulls t.num

-- any positive C, and any whole numerators that are, over it, the stresses of the strips and of the bars
pub record Exact (s : Section) (x : ℕ) : Type 0 where
  pub C : ℕ
  pub some : 0 < C
  pub strip : ℕ → ℤ
  pub bar : ℕ → ℤ
  pub strips : (i : ℕ) → i < s.h → Over C (strip i) (strip_stress (law_of s) s x i)
  pub bars : (j : ℕ) → j < s.count → Over C (bar j) (bar_stress (law_of s) s x j)

-- over C: width times numerator over the strips, area times numerator over the bars, less C times the load
abbrev pub exact_imbalance : {s : Section} {x : ℕ} → Exact s x → ℤ
exact_imbalance {s} e = (sum_z s.h (λ i. pos (width_at s i) *ℤ e.strip i) +ℤ sum_z s.count (λ j. pos (area_at s j) *ℤ e.bar j)) -ℤ (pos e.C *ℤ load_of s)

-- each force times its lever, twice its distance above mid-height
abbrev pub exact_moment : {s : Section} {x : ℕ} → Exact s x → ℤ
exact_moment {s} e =
    sum_z s.h (λ i. (pos s.h -ℤ pos (2 * i + 1)) *ℤ (pos (width_at s i) *ℤ e.strip i))
    +ℤ sum_z s.count (λ j. (pos s.h -ℤ pos (2 * depth_at s j)) *ℤ (pos (area_at s j) *ℤ e.bar j))

-- the strips' widths and the bars' areas
abbrev pub area : Section → ℕ
area s = sum_n s.h (width_at s) + sum_n s.count (area_at s)

-- an imbalance within one kPa times the area of the exact one, a moment within that times h
abbrev pub ImbalanceNear : Section → ℕ → ℤ → Type 0
ImbalanceNear s x amount = (e : Exact s x) → nat_abs (exact_imbalance e -ℤ (pos e.C *ℤ amount)) < e.C * area s

abbrev pub MomentNear : Section → ℕ → ℤ → Type 0
MomentNear s x amount = (e : Exact s x) → nat_abs (exact_moment e -ℤ (pos e.C *ℤ amount)) ≤ e.C * (area s * s.h)

-- the exact imbalance is at least one kPa times the area above zero, or below it; on one side at a depth, on the other at the next
abbrev pub ClearlyAbove : {s : Section} {x : ℕ} → Exact s x → Type 0
ClearlyAbove {s} e = pos (e.C * area s) ≤ℤ exact_imbalance e

abbrev pub ClearlyBelow : {s : Section} {x : ℕ} → Exact s x → Type 0
ClearlyBelow {s} e = exact_imbalance e ≤ℤ neg_ℤ (pos (e.C * area s))

abbrev pub ClearlyChanges : {s : Section} {x : ℕ} → Exact s x → Exact s (x + 1) → Type 0
ClearlyChanges e f = (ClearlyAbove e × ClearlyBelow f) ⊎ (ClearlyBelow e × ClearlyAbove f)

-- ---- the row
-- what a caller reads in the row, where it has room for three words a listed depth
pub record RowShows (s : Section) (count : ℕ) (row : List ℤ) : Type 0 where
  -- 1. exactly the entries whose depth is on the grid and has that kind and that moment; each once, strictly ascending
  pub exactly : (e : Entry) → Shown row count e ↔ Balances s e
  pub rising : (i : ℕ) → i + 1 < count → word_at row (3 * i) <ℤ word_at row (3 * (i + 1))
  -- 2. a moment that is shown is the one at its own depth, and lies within the allowance of the exact one
  pub own : (e : Entry) → Shown row count e → e.moment ≡ moment s e.depth
  pub near : (e : Entry) → Shown row count e → MomentNear s e.depth e.moment
  -- 3. where the exact imbalances at neighbours are clearly on two sides of zero, the shallower is shown
  pub pairs :
      (x : ℕ) → 1 ≤ x → x < last_depth s → (e : Exact s x) (f : Exact s (x + 1)) → ClearlyChanges e f
      → Shown row count (record { depth = x; kind = 2; moment = moment s x })
  -- 4. a zero is shown, at the last depth too, which has no next one
  pub zeros : (x : ℕ) → 1 ≤ x → x ≤ last_depth s → imbalance s x ≡ pos 0 → Shown row count (record { depth = x; kind = 1; moment = moment s x })
  pub last : imbalance s (last_depth s) ≡ pos 0 → Shown row count (record { depth = last_depth s; kind = 1; moment = moment s (last_depth s) })

-- what is answered of an accepted section, and left in the row
pub record Lists (s : Section) (before : List ℤ) (x : ListAnswer) (after : List ℤ) : Type 0 where
  -- the count is the number of depths that have a kind, whatever room there is; 14 exactly where it is none, 15 exactly where there is no room for it
  pub count : x.count ≡ how_many s
  pub none : (x.refusal ≡ 14) ↔ NoDepth s
  pub short : (x.refusal ≡ 15) ↔ (length before < 3 * x.count)
  pub row : 3 * x.count ≤ length before → RowShows s x.count after
  -- the words after the list stay
  pub rest : (j : ℕ) → 3 * x.count ≤ j → word_at after j ≡ word_at before j
  pub size : length after ≡ length before

pub record Demand3 : Type 0 where
  pub depths : Every.depths (λ s before x after. Accepted s → Lists s before x after)
  pub fw_depths : Every.fw_depths (λ part before x after. StandsAlone part → Accepted (section_in part) → Lists (section_in part) before x after)
  -- 2. of each amount that is answered
  pub imbalance_near : Every.imbalance (λ s d x. IfOk x (ImbalanceNear s d))
  pub fw_imbalance_near : Every.fw_imbalance (λ part d x. x.refusal ≡ 0 → ImbalanceNear (section_in part) d x.amount)
  pub moment_near : Every.moment (λ s d x. IfOk x (MomentNear s d))
  pub fw_moment_near : Every.fw_moment (λ part d x. x.refusal ≡ 0 → MomentNear (section_in part) d x.amount)
  pub first_near : Every.first (λ s x. x.refusal ≡ 0 → MomentNear s x.depth x.moment)
  pub fw_first_near : Every.fw_first (λ part x. x.refusal ≡ 0 → MomentNear (section_in part) x.depth x.moment)
  -- exact sums there are, at every depth
  pub exact : (s : Section) → Accepted s → (x : ℕ) → 1 ≤ x → Exact s x
