-- A root by its digits: each round halves the run of numbers among which it lies. Assumes nothing.
use Prim.Native.Nat.{ℕ, ◌+◌, ◌/◌, ◌≤◌, ◌<◌}
use mathlib.Core.Path.{◌≡◌, refl}
use mathlib.Core.Bool.{Bool, true, false, cond}
use mathlib.Core.Logic.{◌⊎◌, inl, inr, ◌↔◌}
use native.Mathlib.Nat as NatL
use native.Mathlib.Omega.{arith}
use lib.Dec.{leb}
use borrow.Author.Tests.{leb-true, leb-false}
use Rattle.arith.specs.Largest.{Largest}
use Rattle.arith.proofs.Largest.{Climbs, counted_up}
use Rattle.roots.specs.Root.{power, raised, Root}
use Rattle.roots.specs.Code.{Narrowed}
use Rattle.roots.proofs.Powers.{power_climbs}

-- ---- rounds
-- a round halves the run
module _ {p : ℕ → Bool} {end : ℕ} (n half : ℕ) where
  halved_by : (t : Bool) → p (n + half) ≡ t → Narrowed p end n (half + half) → Narrowed p end (cond t (n + half) n) half
  halved_by true e w =
      record {
        fits = e;
        within = omega (arith, w.within);
        next = λ h. rw (NatL.add_assoc n half half) (w.next (omega arith));
      }
  halved_by false e w = record { fits = w.fits; within = omega (arith, w.within); next = λ h. e }

  pub halved : Narrowed p end n (half + half) → Narrowed p end (cond (p (n + half)) (n + half) n) half
  halved = halved_by (p (n + half)) refl

-- and in the end n is alone in it
module _ {f : ℕ → ℕ} {end bound n : ℕ} (c : Climbs f) (w : Narrowed (λ n. leb (f n) bound) end n 1) where
  next_by : (n + 1 ≡ end) ⊎ (n + 1 < end) → bound < f end → bound < f (n + 1)
  next_by (inl e) h = rw e h
  next_by (inr l) h = leb-false _ _ (w.next l)

  last_by : (n + 1 ≡ end) ⊎ (n + 1 < end) → f end ≤ bound → n + 1 ≡ end
  last_by (inl e) h = e
  last_by (inr l) h = absurd (omega (arith, leb-false _ _ (w.next l), c.rises (n + 1) end (omega arith)))

  pub alone : Root f end bound n
  alone =
      let at = NatL.eq-or-lt_of_le w.within in
      record { largest = λ h. counted_up c (leb-true _ _ w.fits) (next_by at h); last = last_by at }

-- ---- times a number
module _ (cube : Bool) (by bound : ℕ) where
  -- a power times it fits where the power is at most the quotient
  fits : (k : ℕ) → 0 < by → (power cube k ≤ bound / by) ↔ (raised cube by k ≤ bound)
  fits k some = NatL.le-div_iff_mul-le some

  divided_largest : {n : ℕ} → 0 < by → Largest (power cube) (bound / by) n → Largest (raised cube by) bound n
  divided_largest {n} some l = record { fits = (fits n some).0 l.fits; most = λ k h. l.most k ((fits k some).1 h) }

  pub divided : {end n : ℕ} → 0 < by → Root (power cube) end (bound / by) n → Root (raised cube by) end bound n
  divided {end} some r =
      record {
        largest = λ h. divided_largest some (r.largest ((NatL.div-lt_iff_lt-mul some).1 h));
        last = λ h. r.last ((fits end some).1 h);
      }

  -- so what the digits give is the root
  pub found : {end n : ℕ} → 0 < by → Narrowed (λ n. leb (power cube n) (bound / by)) end n 1 → Root (raised cube by) end bound n
  found some w = divided some (alone (power_climbs cube) w)
