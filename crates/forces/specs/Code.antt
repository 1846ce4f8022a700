-- What the private functions answer. No public contract cites it.
use Rattle.std.specs.Prelude.{ℕ, ◌*◌, ◌≤◌, ◌≡◌, ℤ, nat_abs}
use Rattle.arith.specs.Sums.{sum_z}
use Rattle.section.specs.declared.Section.{Section}
use Rattle.forces.specs.declared.Sums.{Sums}
use Rattle.forces.specs.Forces.{imbalance, moment}

-- no force of a strip or a layer is larger than the largest area at the largest fyd, and no lever is longer than the height
abbrev pub most_force : ℕ
most_force = 65535 * 521739

abbrev pub most_moment : ℕ
most_moment = 1000 * most_force

-- the sums of the first n forces and of their moments, and how large they get
pub record Summed (n : ℕ) (f g : ℕ → ℤ) (force moment : ℤ) : Type 0 where
  pub forces : force ≡ sum_z n f
  pub force_most : nat_abs force ≤ most_force * n
  pub moments : moment ≡ sum_z n g
  pub moment_most : nat_abs moment ≤ most_moment * n

-- the sums of a section at a depth
abbrev pub sums_of : Section → ℕ → Sums
sums_of s x = record { force = imbalance s x; moment = moment s x }
