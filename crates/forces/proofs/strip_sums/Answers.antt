-- `strip_sums`: a strip more.
use Prim.Native.Nat.{◌≤◌}
use mathlib.Core.Path.{◌≡◌, refl, ap, ◌∙◌}
use native.Mathlib.Omega.{arith}
use lib.Dec.{leb}
use lib.IntN.{pos, nat_abs, ◌*ℤ◌}
use Rattle.arith.proofs.Signed.{lever_most}
use Rattle.law.specs.Stress.{rounded}
use Rattle.law.specs.Sizes.{small}
use Rattle.law.proofs.Sizes.{small_law}
use Rattle.strips.specs.Strips.{middle, strip}
use Rattle.strips.proofs.Runs.{strip_most, strip_rounded}
use Rattle.forces.specs.Forces.{lever, strip_force, strip_moment}
use Rattle.forces.proofs.Summed.{none, sizes, next}
use Rattle.forces.proofs.strip_sums.Goals as goal
use Rattle.forces.proofs.strip_sums.Goals.{After-strip}

force-is : (c : After-strip)
    → let of = c.args.of.now in
    pos c.width_at.result *ℤ c.strip.result ≡ strip_force of.law of.section c.args.axis.x c.loop-i.i
unfolding strip_force
force-is c =
    let of = c.args.of.now in
    let axis = c.args.axis in
    let i = c.loop-i.i in
    let is = strip_rounded of.law axis i (leb axis.x i) (ap small of.is ∙ small_law of.accepted) refl in
    λ k. pos (c.width_at.ensures k) *ℤ (c.strip.ensures ∙ is ∙ (λ j. rounded (strip of.law (c.requires j) axis.x i))) k

lever-is : (c : After-strip) → c.lever-lever.result ≡ lever c.args.of.now.section (middle c.loop-i.i)
lever-is c = c.lever-lever.ensures

near : (c : After-strip) → nat_abs c.lever-lever.result ≤ 1000
near c =
    let of = c.args.of.now in
    rw (lever-is c) (omega (arith, lever_most of.section.h (middle c.loop-i.i) (omega arith), of.accepted.sizes.1.1))

weak : (c : After-strip) → nat_abs c.strip.result ≤ 521739
weak c = let a = c.args in rw c.strip.ensures (omega (arith, strip_most a.of.now.law a.axis c.loop-i.i (leb a.axis.x c.loop-i.i)))

pub loop-i-init : goal.loop-i-init
loop-i-init c = none _ _

pub add-requires-clause-sizes : goal.add-requires-clause-sizes
add-requires-clause-sizes c = sizes c.lever-lever.result c.strip.result (near c) (weak c)

pub loop-i-preserved : goal.loop-i-preserved
unfolding strip_moment
loop-i-preserved c =
    let d = (goal.at.loop-i-preserved c).After-strip in
    let a = c.args in
    next c.lever-lever.result c.strip.result (near d) (weak d) c.width_at.result (omega arith) c.loop-i.invariant (force-is d)
    (ap (λ z. z *ℤ strip_force a.of.now.law a.of.now.section a.axis.x c.loop-i.i) (lever-is d))
    c.add.ensures.force c.add.ensures.moment
