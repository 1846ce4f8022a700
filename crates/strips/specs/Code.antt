-- What the private functions need, and what is said of bounds. No public contract cites it.
use Rattle.std.specs.Prelude.{ℕ, ◌+◌, ◌*◌, ◌-◌, ◌/◌, ◌≤◌, ◌<◌, ℤ, nat_abs, ◌≤ℤ◌}
use Rattle.law.specs.declared.Law.{Law}
use Rattle.law.specs.Ranges.{Lawful}
use Rattle.strips.specs.declared.Axis.{Axis}
use Rattle.strips.specs.declared.Range.{Range}
use Rattle.strips.specs.Strips.{middle}

-- a number that lies above a sum by at most n
pub record Near (sum n most : ℕ) : Type 0 where
  pub least : sum ≤ most
  pub rest : most ≤ sum + n

-- ---- the parabola: the strip at place j, and that the places from..to are on it
abbrev pub bent_at : (fcd over unit : ℕ) → ℕ → ℕ
bent_at fcd over unit j = fcd * (unit * middle j * (8 * over - unit * middle j)) / (16 * over * over)

pub record OnParabola (over unit from to : ℕ) : Type 0 where
  pub on : (j : ℕ) → from ≤ j → j < to → unit * middle j ≤ 4 * over

-- ---- a ramp from (ea, sa) to (eb, sb): the same
abbrev pub ramp_at : (ea sa eb sb over unit : ℕ) → ℕ → ℕ
ramp_at ea sa eb sb over unit j = (sa * (eb * over - 500 * unit * middle j) + sb * (500 * unit * middle j - ea * over)) / ((eb - ea) * over)

-- the strains at the places from..to are at least e; and on the ramp
pub record Past (e over unit from to : ℕ) : Type 0 where
  pub on : (j : ℕ) → from ≤ j → j < to → e * over ≤ 500 * unit * middle j

pub record OnRamp (ea eb over unit from to : ℕ) : Type 0 where
  pub on : (j : ℕ) → from ≤ j → j < to → (ea * over ≤ 500 * unit * middle j) × (500 * unit * middle j ≤ eb * over)

-- ---- the sizes that the test of `Bounds` asks for
pub record AxisFit (a : Axis) : Type 0 where
  pub over : (0 < a.over) × (a.over ≤ 22000)
  pub unit : (0 < a.unit) × (a.unit ≤ 50)
  pub x : a.x ≤ 2000

pub record Fit (l : Law) (a : Axis) (to : ℕ) : Type 0 where
  pub axis : AxisFit a
  pub few : to ≤ 2000
  pub lines : Lawful l
  pub fcd : l.fcd ≤ 28333
  pub s1 : l.s1 ≤ 10000
  pub s2 : l.s2 ≤ 10000
  pub s3 : l.s3 ≤ 10000
  pub e3 : l.e3 ≤ 25000

-- ---- a sum lies within bounds, of a size that callers have room for
pub record Holds (sum : ℤ) (b : Range) : Type 0 where
  pub above : b.low ≤ℤ sum
  pub below : sum ≤ℤ b.high
  pub low_most : nat_abs b.low ≤ 4294967296
  pub high_most : nat_abs b.high ≤ 4294967296
