-- Lines of the table of refusals: what one that is passed tells. Assumes nothing.
use Prim.Native.Nat.{ℕ, zero, suc}
use mathlib.Core.Path.{◌≡◌, refl}
use mathlib.Core.Bool.{Bool, true, false, ◌&&◌}
use native.Mathlib.Nat.{suc-ne-zero}
use native.Mathlib.Omega.{arith}
use lib.Dec.{eqb-suc-zero}
use Rattle.arith.specs.Lines.{line, first_of, within, Between}
use Rattle.arith.proofs.Tests.{Decides, is_most, is_both}

pub passed : (t : Bool) (k below : ℕ) → line t (suc k) below ≡ 0 → (t ≡ true) × (below ≡ 0)
passed true k below e = (refl, e)
passed false k below e = absurd (omega arith)

pub passes : {t : Bool} {P : Type 0} (k below : ℕ) → Decides t P → line t (suc k) below ≡ 0 → P × (below ≡ 0)
passes {t} k below d e = let p = passed t k below e in (d.0 p.0, p.1)

pub between : (low high n : ℕ) → Decides (within low high n) (Between low high n)
between low high n = is_both (is_most low n) (is_most n high)

pub none_of : (r next : ℕ) → first_of r next ≡ 0 → (r ≡ 0) × (next ≡ 0)
none_of zero next e = (refl, e)
none_of (suc r) next e = absurd (suc-ne-zero r (rw eqb-suc-zero at e))

pub only_first : (r next : ℕ) → (r ≡ 0 → next ≡ 0) → first_of r next ≡ r
only_first zero next h = h refl
only_first (suc r) next h = rw eqb-suc-zero

pub same : (t : Bool) (k : ℕ) → line t k k ≡ k
same true k = refl
same false k = refl

-- two lines of one number are one
pub one_line : (a b : Bool) (k below : ℕ) → line a k (line b k below) ≡ line (a && b) k below
one_line true b k below = refl
one_line false b k below = refl
