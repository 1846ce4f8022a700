-- Compressed strips: the parabola, then its top. Assumes nothing.
use Prim.Native.Nat.{ℕ, ◌*◌, ◌-◌, ◌≤◌}
use mathlib.Core.Path.{◌≡◌, refl, sym, ap, ◌∙◌}
use mathlib.Core.Bool.{false}
use native.Mathlib.Nat as NatL
use native.Mathlib.Omega.{arith}
use Rattle.arith.specs.Sums.{sum_n, after}
use Rattle.arith.proofs.Sums.{run_cut, run_flat}
use Rattle.law.specs.declared.Law.{Law}
use Rattle.law.specs.Stress.{size, compressed}
use Rattle.law.proofs.Sizes.{compressed_level, compressed_rises}
use Rattle.strips.specs.declared.Axis.{Axis}
use Rattle.strips.specs.Strips.{middle}
use Rattle.strips.specs.Bounds.{level, top_of, pressed_bound}
use Rattle.strips.specs.Code.{Near, OnParabola, Fit}
use Rattle.strips.proofs.Closed.{bent_near}
use Rattle.strips.proofs.Cutting.{Cut, cuts, near_same, place_at}

module _ {l : Law} {a : Axis} {n from to : ℕ} (fit : Fit l a n) (h : from ≤ to) where
  at_top : {top : ℕ} → top ≡ top_of a from to → Cut (4 * a.over) a.unit from to top
  at_top e = cuts _ _ from to fit.axis.unit.0 h e

  pub on_parabola : {top : ℕ} → top ≡ top_of a from to → OnParabola a.over a.unit from top
  on_parabola e = record { on = (at_top e).inside }

  -- t = unit (2 j + 1) for the strain 500 t
  strain : (j n : ℕ) → n ≡ size (compressed l (500 * (a.unit * middle j)) a.over) → n ≡ place_at l false a j
  strain j n e = e ∙ ap (λ p. size (compressed l p a.over)) (sym (NatL.mul_assoc 500 a.unit (middle j)))

  pressed_places :
      {top : ℕ} → top ≡ top_of a from to
      → let b = level l a from to top in Near (sum_n (to - from) (after from (place_at l false a))) b.rounded b.most
  pressed_places {top} e =
      let c = at_top e in
      let f = place_at l false a in
      let some = fit.axis.over.0 in
      let bent =
      near_same _ f from top
      (λ j p q. strain j _ (compressed_rises l (a.unit * middle j) a.over some (c.inside j p q)))
      (bent_near l.fcd c.between.0 (on_parabola e) some) in
      let flat = run_flat f l.fcd top (to - top) (λ j p q. sym (strain j _ (compressed_level l (a.unit * middle j) a.over (c.outside j p (omega arith))))) in
      let all = run_cut f from top to c.between.0 c.between.1 in
      record { least = omega arith; rest = omega arith }

  pressed_count : {top : ℕ} → top ≡ top_of a from to → to ≤ 2000 → (level l a from to top).rounded ≤ 2000
  pressed_count e few = omega (arith, (at_top e).between)

  pub pressed_near : let b = pressed_bound l a from to in Near (sum_n (to - from) (after from (place_at l false a))) b.rounded b.most
  unfolding pressed_bound
  pressed_near = pressed_places refl

  pub pressed_few : to ≤ 2000 → (pressed_bound l a from to).rounded ≤ 2000
  unfolding pressed_bound
  pressed_few = pressed_count refl
