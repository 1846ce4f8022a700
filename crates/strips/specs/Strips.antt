-- Document 01, 'Strains, strips and balance': the stress of a strip, by the strain at its middle. Positions are doubled, so that the middle of
-- strip i, counted from 0 at the compressed face, is whole: 2 i + 1.
use Rattle.std.specs.Prelude.{ℕ, ◌+◌, ◌*◌, ◌-◌, Bool, cond, leb, ℤ}
use Rattle.law.specs.declared.Law.{Law}
use Rattle.law.specs.Stress.{Stress, signed, concrete}
use Rattle.law.specs.Sizes.{size_in}
use Rattle.strips.specs.declared.Axis.{Axis}

-- the strain at a position, for the neutral axis x, is num times its distance from 2 x, over den
pub record Scale : Type 0 where
  pub num : ℕ
  pub den : ℕ

abbrev pub middle : ℕ → ℕ
middle i = 2 * i + 1

-- how far the middle of a strip lies below the neutral axis where it pulls, else above it
abbrev pub reach : Bool → ℕ → ℕ → ℕ
reach pulls x i = cond pulls (middle i - 2 * x) (2 * x - middle i)

-- a strip as stretched concrete where it pulls, else as compressed. On the other side of the axis it has no strain, and so no stress
abbrev pub strip_as : Law → Bool → Scale → ℕ → ℕ → Stress
strip_as l pulls k x i = concrete l pulls (k.num * reach pulls x i) k.den

-- the strips from number x on are stretched
unfoldable pub strip : Law → Scale → ℕ → ℕ → Stress
strip l k x i = strip_as l (leb x i) k x i

-- ---- what is answered of a law and an axis that are handed over as such: the axis's strains are 500 unit (2 x - position) / over
abbrev pub scale_of : Axis → Scale
scale_of a = record { num = 500 * a.unit; den = a.over }

abbrev pub strip_size : Law → Bool → Axis → ℕ → ℕ
strip_size l pulls a i = size_in l (strip_as l pulls (scale_of a) a.x i)

-- with its sign
abbrev pub strip_at : Law → Axis → ℕ → ℤ
strip_at l a i = signed (leb a.x i) (strip_size l (leb a.x i) a i)
