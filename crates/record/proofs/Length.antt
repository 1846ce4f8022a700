-- How long a record is with its flange and without. Assumes nothing.
use Prim.Native.Nat.{ℕ, ◌*◌, ◌/◌, ◌%◌, ◌≤◌, ◌<◌}
use mathlib.Core.Path.{◌≡◌, refl}
use mathlib.Core.Bool.{Bool, true, false, cond}
use native.Mathlib.Omega.{arith}
use lib.Dec.{eqb}
use borrow.Author.Tests.{ne_eqb}
use Rattle.record.specs.Record.{flange_size, record_size}

module _ (hf : ℕ) where
  pub no_flange : hf ≡ 0 → flange_size hf ≡ 0
  unfolding flange_size
  no_flange e = rw e

  pub some_flange : 0 < hf → flange_size hf ≡ 4
  unfolding flange_size
  some_flange h = rw (ne_eqb hf 0 (λ e. omega arith))

  pub flange_size_is : (flange_size hf % 4 ≡ 0) × (flange_size hf ≤ 4)
  unfolding flange_size
  flange_size_is = pick (eqb hf 0)
    where
      pick : (t : Bool) → (cond t 0 4 % 4 ≡ 0) × (cond t 0 4 ≤ 4)
      pick true = (refl, omega arith)
      pick false = (refl, omega arith)

-- it is of whole numbers of 16 bits
pub halves : (m hf : ℕ) → 2 * (record_size m hf / 2) ≡ record_size m hf
halves m hf = omega (arith, flange_size_is hf)
