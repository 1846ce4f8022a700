-- A whole strain and the drawn range. Assumes nothing.
use Prim.Native.Nat.{ℕ, ◌≤◌}
use mathlib.Core.Path.{◌≡◌, refl}
use mathlib.Core.Bool.{true, cond}
use native.Mathlib.Omega.{arith}
use lib.Dec.{leb, ltb}
use lib.IntN.{ℤ, pos, negsuc, nat_abs}
use lib.Signed.{le_z}
use Rattle.std.proofs.Common.{Less, Equal, Greater}
use Rattle.std.specs.Ordering.{is_le, int_cmp}
use Rattle.std.proofs.lemmas.Bool.Decides.{nat_tests}
use borrow.Author.Tests.{leb-true}
use Rattle.arith.proofs.Tests.{both, Decides, is_both}
use Rattle.arith.proofs.Signed.{is_le_z}
use Rattle.law.specs.Edition.{edition}
use Rattle.drawn.specs.Drawn.{Drawable, in_drawn_range}

-- a test of order by comparing
compared : (a b : ℕ) → is_le (cond (ltb a b) Less (cond (ltb b a) Greater Equal)) ≡ leb a b
compared a b = grind (arith, nat_tests)

pub le_is : (x y : ℤ) → is_le (int_cmp x y) ≡ le_z x y
le_is (pos a) (pos b) = compared a b
le_is (pos a) (negsuc b) = refl
le_is (negsuc a) (pos b) = refl
le_is (negsuc a) (negsuc b) = compared b a

pub drawn_size : (z : ℤ) → in_drawn_range z ≡ true → nat_abs z ≤ 10000
unfolding edition
drawn_size (pos n) e = omega (arith, leb-true n 3500 e)
drawn_size (negsuc k) e = omega (arith, leb-true k 9999 (both (leb k 9999) true e).0)

pub drawable_is : (e : ℤ) → Decides (in_drawn_range e) (Drawable e)
drawable_is e = is_both (is_le_z _ e) (is_le_z e _)
