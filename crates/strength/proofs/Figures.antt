-- The numbers of a series, by what they and their neighbours come to. Assumes nothing.
use Prim.Native.Nat.{ℕ, ◌+◌, ◌*◌, ◌-◌}
use mathlib.Core.Path.{◌≡◌, sym}
use mathlib.Core.Bool.{true, false}
use mathlib.Core.List.{List}
use native.Mathlib.Omega.{arith}
use lib.Dec.{ltb, leb}
use lib.ListN.{length}
use borrow.Author.Tests.{ltb-true, leb-true}
use Rattle.arith.specs.Least.{multiple}
use Rattle.arith.proofs.Least.{least_at, least_found, multiple_climbs}
use Rattle.roots.proofs.Powers.{raised_climbs}
use Rattle.roots.proofs.Theorems.{root_is}
use Rattle.strength.specs.Strength.{t10_of, mean_of, squares_of, spread, deviation_of, scaled, a_of, g_of}
use Rattle.strength.proofs.Answers.{Found}

-- s and the next number, a and g and the numbers before them
pub found_by :
    (rs : List ℕ) (f s a g : ℕ)
    → let n = length rs in
    let squares = squares_of f rs in
    let reach = s * t10_of n * (s * t10_of n) in
    let m = 329 * s * (f + (a + 1)) in
    ltb 1 n ≡ true → ltb 0 f ≡ true → f ≡ mean_of rs
    → leb (spread n s) squares ≡ true → ltb squares (spread n (s + 1)) ≡ true
    → ltb (scaled n a) reach ≡ true → leb reach (scaled n (a + 1)) ≡ true
    → ltb (multiple (200 * f) g) m ≡ true → leb m (multiple (200 * f) (g + 1)) ≡ true
    → Found rs f s (a + 1) (g + 1)
unfolding deviation_of a_of g_of
found_by rs f s a g some one mean fits next small reaches less more =
    let n = length rs in
    let two = ltb-true 1 n some in
    let above = ltb-true 0 f one in
    let c = raised_climbs false (10000 * n) (omega arith) in
    let d = multiple_climbs (200 * f) (omega arith) in
    record {
      mean = mean;
      deviation = sym (root_is false (n - 1) (squares_of f rs) s (omega arith) fits next);
      first = least_found c (least_at c (ltb-true _ _ small) (leb-true _ _ reaches));
      second = least_found d (least_at d (ltb-true _ _ less) (leb-true _ _ more));
    }
