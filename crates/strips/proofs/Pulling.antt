-- Stretched strips: three ramps, and nothing beyond. Assumes nothing.
use Prim.Native.Nat.{ℕ, ◌*◌, ◌-◌, ◌≤◌, ◌<◌}
use mathlib.Core.Path.{◌≡◌, refl, sym}
use mathlib.Core.Bool.{true}
use native.Mathlib.Nat as NatL
use native.Mathlib.Omega.{arith}
use Rattle.arith.specs.Sums.{sum_n, after}
use Rattle.arith.proofs.Sums.{run_cut, run_nil}
use Rattle.law.specs.declared.Law.{Law}
use Rattle.law.specs.Ranges.{Lawful}
use Rattle.law.specs.Stress.{size}
use Rattle.law.proofs.Sizes.{stretched_first, stretched_second, stretched_third, stretched_beyond}
use Rattle.strips.specs.declared.Axis.{Axis}
use Rattle.strips.specs.Strips.{middle}
use Rattle.strips.specs.Bounds.{end_of, three, pulled_bound}
use Rattle.strips.specs.Code.{Near, OnRamp, Fit}
use Rattle.strips.proofs.Closed.{ramp_near}
use Rattle.strips.proofs.Cutting.{Cut, cuts, near_same, place_at}

-- a ramp from one limit to the next
between :
    {ea eb over unit from to at : ℕ} → ((j : ℕ) → from ≤ j → j < to → ea * over ≤ 500 * unit * middle j) → Cut (eb * over) (500 * unit) from to at
    → OnRamp ea eb over unit from at
between low c = record { on = λ j p q. (low j p (omega arith), c.inside j p q) }

-- where the three ramps end
pub record Ends (l : Law) (a : Axis) (from to end1 end2 end3 : ℕ) : Type 0 where
  pub over : 0 < a.over
  pub lines : Lawful l
  pub one : Cut (l.e1 * a.over) (500 * a.unit) from to end1
  pub two : Cut (l.e2 * a.over) (500 * a.unit) end1 to end2
  pub three : Cut (l.e3 * a.over) (500 * a.unit) end2 to end3

module _ {l : Law} {a : Axis} {from to end1 end2 end3 : ℕ} (e : Ends l a from to end1 end2 end3) where
  pub first : OnRamp 0 l.e1 a.over a.unit from end1
  first = between (λ j p q. omega (arith, NatL.zero-mul a.over)) e.one

  pub second : OnRamp l.e1 l.e2 a.over a.unit end1 end2
  second = between (λ j p q. NatL.le_of_lt (e.one.outside j p q)) e.two

  pub third : OnRamp l.e2 l.e3 a.over a.unit end2 end3
  third = between (λ j p q. NatL.le_of_lt (e.two.outside j p q)) e.three

  pub pulled_places : let b = three l a from end1 end2 end3 in Near (sum_n (to - from) (after from (place_at l true a))) b.rounded b.most
  unfolding size
  pulled_places =
      let f = place_at l true a in
      let one = e.one in
      let two = e.two in
      let past1 : (j : ℕ) → end1 ≤ j → j < to → l.e1 * a.over < 500 * a.unit * middle j = one.outside in
      let past2 : (j : ℕ) → end2 ≤ j → j < to → l.e2 * a.over < 500 * a.unit * middle j = two.outside in
      let p1 = near_same _ f from end1 (λ j p q. stretched_first l _ a.over (one.inside j p q)) (ramp_near 0 l.s1 one.between.0 first e.over e.lines.first) in
      let p2 =
      near_same _ f end1 end2
      (λ j p q. stretched_second l _ a.over (past1 j p (omega arith)) (two.inside j p q))
      (ramp_near l.s1 l.s2 two.between.0 second e.over e.lines.second) in
      let p3 =
      near_same _ f end2 end3
      (λ j p q. stretched_third l _ a.over (past1 j (omega arith) (omega arith)) (past2 j p (omega arith)) (e.three.inside j p q))
      (ramp_near l.s2 l.s3 e.three.between.0 third e.over e.lines.third) in
      let p4 =
      run_nil f end3 to
      (λ j p q. sym (stretched_beyond l _ a.over (past1 j (omega arith) (omega arith)) (past2 j (omega arith) (omega arith)) (e.three.outside j p q))) in
      let c1 = run_cut f from end1 to (omega arith) (omega arith) in
      let c2 = run_cut f end1 end2 to (omega arith) (omega arith) in
      let c3 = run_cut f end2 end3 to (omega arith) (omega arith) in
      record { least = omega arith; rest = omega arith }

  pulled_count : to ≤ 2000 → (three l a from end1 end2 end3).rounded ≤ 2000
  pulled_count few = omega (arith, e.three.between)

module _ (l : Law) (a : Axis) (from to : ℕ) {end1 end2 end3 : ℕ}
    (p : end1 ≡ end_of l.e1 a from to) (q : end2 ≡ end_of l.e2 a end1 to) (r : end3 ≡ end_of l.e3 a end2 to) where
  pub ends : {n : ℕ} → Fit l a n → from ≤ to → Ends l a from to end1 end2 end3
  ends fit h =
      let some : 0 < 500 * a.unit = omega arith in
      let one = cuts _ _ from to some h p in
      let two = cuts _ _ _ to some one.between.1 q in
      record { over = fit.axis.over.0; lines = fit.lines; one = one; two = two; three = cuts _ _ _ to some two.between.1 r }

module _ {l : Law} {a : Axis} {n from to : ℕ} (fit : Fit l a n) (h : from ≤ to) where
  pub pulled_near : let b = pulled_bound l a from to in Near (sum_n (to - from) (after from (place_at l true a))) b.rounded b.most
  unfolding pulled_bound
  pulled_near = pulled_places (ends l a from to refl refl refl fit h)

  pub pulled_few : to ≤ 2000 → (pulled_bound l a from to).rounded ≤ 2000
  unfolding pulled_bound
  pulled_few = pulled_count (ends l a from to refl refl refl fit h)
