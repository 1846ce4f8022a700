-- Squares and cubes, times a number: they climb, so that there is a largest; and how large they get. Assumes nothing.
use Prim.Native.Nat.{ℕ, zero, suc, ◌*◌, ◌^◌, ◌≤◌, ◌<◌}
use mathlib.Core.Bool.{Bool, true, false}
use native.Mathlib.Nat as NatL
use native.Mathlib.Omega.{arith}
use lib.Pow.{pow_mono}
use Rattle.arith.proofs.Largest.{Climbs}
use Rattle.roots.specs.Root.{power, raised}

-- ---- they climb
scaled : {k n : ℕ} (by : ℕ) → 0 < by → k ≤ n → k ≤ n * by
scaled {k} {n} by h l = NatL.le_trans l (NatL.le-mul_of_pos_right n h)

above : (cube : Bool) (k : ℕ) → k ≤ power cube k
above true zero = omega arith
above true (suc k) = let s = NatL.zero-lt-suc k in scaled (suc k) s (scaled (suc k) s (omega arith))
above false zero = omega arith
above false (suc k) = scaled (suc k) (NatL.zero-lt-suc k) (omega arith)

rises : (cube : Bool) (j k : ℕ) → j ≤ k → power cube j ≤ power cube k
rises true j k l = NatL.mul-le-mul (NatL.mul-le-mul l l) l
rises false j k l = NatL.mul-le-mul l l

pub power_climbs : (cube : Bool) → Climbs (power cube)
power_climbs cube = record { rises = rises cube; above = above cube }

pub raised_climbs : (cube : Bool) (by : ℕ) → 0 < by → Climbs (raised cube by)
raised_climbs cube by h =
    record { rises = λ j k l. NatL.mul-le-mul_right by (rises cube j k l); above = λ k. scaled by h (above cube k) }

-- ---- how large they get
pub cube_most : (n : ℕ) → n ≤ 2 ^ 21 → n * n * n ≤ 2 ^ 21 * 2 ^ 21 * 2 ^ 21
cube_most n small = NatL.mul-le-mul (NatL.mul-le-mul small small) small

pub cube_of_digits : (n digits : ℕ) → digits ≤ 21 → n < 2 ^ digits → n * n * n ≤ 2 ^ 63
cube_of_digits n digits few h = let end : 2 ^ digits ≤ 2 ^ 21 = pow_mono few in cube_most n (omega arith)
