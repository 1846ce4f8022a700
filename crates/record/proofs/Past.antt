-- What is read past the end of some bytes, also where a place stops counting. Assumes nothing.
use Prim.Native.Nat.{ℕ, ◌+◌, ◌-◌, ◌^◌, ◌≤◌, ◌<◌, min}
use mathlib.Core.Path.{◌≡◌}
use mathlib.Core.List.{List}
use mathlib.Core.Logic.{⊎_elim}
use native.Mathlib.Omega.{arith}
use lib.ListN.{length, get_or, get_or-eq_default}
use Rattle.arith.proofs.Tests.{less_or_not}

-- no bytes reach as far as that
pub capped : (s : List ℕ) (at j : ℕ) → length s < 2 ^ 64 → get_or s (min (at + j) (2 ^ 64 - 1)) 0 ≡ get_or s (at + j) 0
capped s at j h = ⊎_elim there past (less_or_not (at + j) (2 ^ 64))
  where
    there : at + j < 2 ^ 64 → get_or s (min (at + j) (2 ^ 64 - 1)) 0 ≡ get_or s (at + j) 0
    there l = let e : min (at + j) (2 ^ 64 - 1) ≡ at + j = omega arith in rw e

    past : 2 ^ 64 ≤ at + j → get_or s (min (at + j) (2 ^ 64 - 1)) 0 ≡ get_or s (at + j) 0
    past l =
        rw (get_or-eq_default s 0 {n = at + j} (omega arith), get_or-eq_default s 0 {n = min (at + j) (2 ^ 64 - 1)} (omega arith))
