-- A test of each number of a range is the test of each below its end. Assumes nothing.
use Prim.Native.Nat.{ℕ, zero, suc, ◌+◌}
use mathlib.Core.Path.{◌≡◌, refl, sym}
use mathlib.Core.Bool.{Bool, true, false, ◌&&◌}
use native.Mathlib.Nat.{add-zero}
use native.Mathlib.Numerals.{add-one}
use native.Mathlib.Omega.{arith}
use Rattle.std.specs.List.{list_all, range_with_len}
use Rattle.arith.specs.Below.{all_below}

grouped : (a b c : Bool) → (a && b) && c ≡ a && (b && c)
grouped true b c = refl
grouped false b c = refl

last_true : (a : Bool) → a && true ≡ a
last_true true = refl
last_true false = refl

from : (p : ℕ → Bool) (a n : ℕ) → all_below (a + n) p ≡ all_below a p && list_all p (range_with_len a n)
unfolding all_below
from p a zero = rw add-zero (sym (last_true (all_below a p)))
from p a (suc n) =
    let e : a + suc n ≡ a + 1 + n = omega arith in
    rw (e, from p (a + 1) n, add-one a) (grouped (all_below a p) (p a) (list_all p (range_with_len (suc a) n)))

pub each_below : (p : ℕ → Bool) (n : ℕ) → list_all p (range_with_len 0 n) ≡ all_below n p
unfolding all_below
each_below p n =
    let e : 0 + n ≡ n = omega arith in
    sym (rw e at (from p 0 n))
