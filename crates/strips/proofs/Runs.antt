-- What the sizes of strips say of their stresses, and how large they get. Assumes nothing.
use Prim.Native.Nat.{ℕ, ◌≤◌}
use mathlib.Core.Path.{◌≡◌}
use mathlib.Core.Bool.{Bool, true}
use native.Mathlib.Nat as NatL
use lib.Dec.{leb}
use lib.IntN.{nat_abs}
use Rattle.law.specs.declared.Law.{Law}
use Rattle.law.specs.Stress.{signed, rounded}
use Rattle.law.specs.Sizes.{small, size_in}
use Rattle.law.proofs.Sides.{abs_signed, concrete_rounded}
use Rattle.law.proofs.Bounds.{size_in_most}
use Rattle.strips.specs.declared.Axis.{Axis}
use Rattle.strips.specs.Strips.{strip, scale_of, strip_size}

-- a strip of a small law, from its size
pub strip_rounded :
    (l : Law) (a : Axis) (i : ℕ) (pulls : Bool) → small l ≡ true → leb a.x i ≡ pulls
    → signed pulls (strip_size l pulls a i) ≡ rounded (strip l (scale_of a) a.x i)
unfolding strip size_in
strip_rounded l a i pulls e s = rw (e, s) (concrete_rounded l pulls _ _)

-- ---- how large they get
pub size_most : (l : Law) (pulls : Bool) (a : Axis) (i : ℕ) → strip_size l pulls a i ≤ 65536
size_most l pulls a i = NatL.le_of_lt (size_in_most l pulls _ a.over)

pub strip_most : (l : Law) (a : Axis) (i : ℕ) (pulls : Bool) → nat_abs (signed pulls (strip_size l pulls a i)) ≤ 65536
strip_most l a i pulls = rw (abs_signed pulls (strip_size l pulls a i)) (size_most l pulls a i)
