-- Forces and their moments, added up together. Assumes nothing.
use Prim.Native.Nat.{ℕ, ◌+◌, ◌≤◌}
use mathlib.Core.Path.{◌≡◌, refl, ◌∙◌}
use native.Mathlib.Nat as NatL
use native.Mathlib.Numerals.{add-one}
use native.Mathlib.Omega.{arith}
use lib.IntN.{ℤ, pos, nat_abs, ◌+ℤ◌, ◌*ℤ◌}
use Rattle.arith.specs.Sums.{sum_z}
use Rattle.arith.proofs.Signed.{abs_add, abs_mul}
use Rattle.arith.proofs.Machine.{back, sfits_abs, read}
use Rattle.forces.specs.Code.{most_force, most_moment, Summed}

pub none : (f g : ℕ → ℤ) → Summed 0 f g (pos 0) (pos 0)
unfolding sum_z
none f g = record { forces = refl; force_most = omega arith; moments = refl; moment_most = omega arith }

-- one more: of a lever and a stress, read back, that are no larger than any
module _ (lever stress : ℤ) (near : nat_abs lever ≤ 1000) (weak : nat_abs stress ≤ 521739) where
  same_lever : back lever ≡ lever
  same_lever = read (sfits_abs lever (omega arith))

  same_stress : back stress ≡ stress
  same_stress = read (sfits_abs stress (omega arith))

  pub sizes : (nat_abs (back lever) ≤ 1000) × (nat_abs (back stress) ≤ 521739)
  sizes = rw (same_lever, same_stress) (near, weak)

  module _ {f g : ℕ → ℤ} {n : ℕ} {z w y v : ℤ} (area : ℕ) (wide : area ≤ 65535) where
    pub next :
        Summed n f g z w
        → pos area *ℤ stress ≡ f n → lever *ℤ f n ≡ g n
        → y ≡ z +ℤ (pos area *ℤ back stress) → v ≡ w +ℤ (back lever *ℤ (pos area *ℤ back stress))
        → Summed (n + 1) f g y v
    unfolding sum_z
    next s e k p q =
        let force : nat_abs (pos area *ℤ stress) ≤ most_force = omega (arith, abs_mul (pos area) stress, NatL.mul-le-mul wide weak) in
        let turned : nat_abs (lever *ℤ (pos area *ℤ stress)) ≤ most_moment =
        omega (arith, abs_mul lever (pos area *ℤ stress), NatL.mul-le-mul near force) in
        rw (add-one, p, q, same_lever, same_stress) record {
          forces = λ i. s.forces i +ℤ e i;
          force_most = omega (arith, s.force_most, abs_add z (pos area *ℤ stress), force);
          moments = λ i. s.moments i +ℤ ((λ j. lever *ℤ e j) ∙ k) i;
          moment_most = omega (arith, s.moment_most, abs_add w (lever *ℤ (pos area *ℤ stress)), turned);
        }
