-- What a root's contract gives its callers: one number, below the end, the largest of all numbers where that lies there. Assumes nothing.
use Prim.Native.Nat.{ℕ, ◌+◌, ◌≤◌, ◌<◌, min}
use mathlib.Core.Path.{◌≡◌, sym, ap, ◌∙◌}
use mathlib.Core.Bool.{Bool, true}
use mathlib.Core.Logic.{⊎_elim}
use native.Mathlib.Nat as NatL
use native.Mathlib.Omega.{arith}
use lib.Dec.{ltb, leb}
use borrow.Author.Tests.{ltb-true, leb-true}
use Rattle.arith.specs.Largest.{largest}
use Rattle.arith.proofs.Tests.{less_or_not}
use Rattle.arith.proofs.Largest.{Climbs, found, counted_up, fits_below, largest_is, largest_only}
use Rattle.roots.specs.Root.{raised, Root}
use Rattle.roots.proofs.Powers.{raised_climbs}

-- there is no second one
pub root_only : {f : ℕ → ℕ} {end bound a b : ℕ} → Root f end bound a → Root f end bound b → a ≡ b
root_only {f} {end} {bound} p q =
    ⊎_elim (λ h. largest_only (p.largest h) (q.largest h)) (λ h. omega (arith, p.last h, q.last h)) (less_or_not bound (f end))

module _ {f : ℕ → ℕ} {end bound n : ℕ} (c : Climbs f) (r : Root f end bound n) where
  pub root_below : n < end
  root_below = ⊎_elim (λ h. fits_below n end c (r.largest h).fits h) (λ h. omega (arith, r.last h)) (less_or_not bound (f end))

  pub root_found : bound < f end → n ≡ largest f bound
  root_found h = found c (r.largest h)

  -- a limit below the end hides that the numbers end there
  pub root_limited : (a limit : ℕ) → limit < end → min (a + n) (a + limit) ≡ min (a + largest f bound) (a + limit)
  root_limited a limit h = ⊎_elim (λ l. ap (λ k. min (a + k) (a + limit)) (root_found l)) beyond (less_or_not bound (f end))
    where
      beyond : f end ≤ bound → min (a + n) (a + limit) ≡ min (a + largest f bound) (a + limit)
      beyond fits =
          let most = (largest_is {m = bound} c (omega (arith, c.rises 0 end (omega arith)))).most end fits in
          NatL.min-eq_right (omega (arith, r.last fits)) ∙ sym (NatL.min-eq_right (omega arith))

-- the largest, by what it and the next come to
pub root_is :
    (cube : Bool) (by bound n : ℕ) → 0 < by → leb (raised cube by n) bound ≡ true → ltb bound (raised cube by (n + 1)) ≡ true
    → largest (raised cube by) bound ≡ n
root_is cube by bound n h fits next =
    let c = raised_climbs cube by h in
    sym (found c (counted_up c (leb-true _ _ fits) (ltb-true _ _ next)))
