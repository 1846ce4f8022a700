-- How large the stress gets that a bar counts with. Assumes nothing.
use Prim.Native.Nat.{ℕ, ◌≤◌}
use mathlib.Core.Path.{◌≡◌, ap}
use native.Mathlib.Omega.{arith}
use lib.IntN.{nat_abs}
use Rattle.section.specs.declared.Section.{Section}
use Rattle.section.specs.Accepted.{Accepted}
use Rattle.law.specs.declared.Law.{Law}
use Rattle.law.specs.Law.{law_of}
use Rattle.law.specs.Stress.{rounded}
use Rattle.law.proofs.Ranges.{law_in}
use Rattle.law.proofs.Sides.{abs_signed}
use Rattle.law.proofs.Bounds.{bar_most}
use Rattle.strips.specs.Strips.{Scale}
use Rattle.forces.specs.Forces.{bar_counts}

bar_small : (l : Law) (k : Scale) (x y : ℕ) → nat_abs (bar_counts l k x y) ≤ l.fyd
unfolding rounded
bar_small l k x y = rw (abs_signed _ _) (bar_most l _ _ _)

-- of a section: no more than 7 to 13 with 20 let its bars' strength be
pub bar_weak : {s : Section} → Accepted s → {l : Law} → l ≡ law_of s → (k : Scale) (x y : ℕ) → nat_abs (bar_counts l k x y) ≤ 521739
bar_weak a {l} is k x y = omega (arith, bar_small l k x y, ap (λ (l : Law). l.fyd) is, (law_in a).fyd.1)
