-- `sums_at`: strips, bars and load.
use Prim.Native.Nat.{◌+◌, ◌*◌}
use mathlib.Core.Path.{◌≡◌, sym, ap, ◌∙◌}
use native.Mathlib.Omega.{arith}
use lib.IntN.{pos, ◌+ℤ◌, ◌-ℤ◌, ◌*ℤ◌}
use Rattle.std.proofs.lemmas.Int.{ints}
use Rattle.arith.proofs.Machine.{back, Stands, returned, stands_add, stands_sub, stored}
use Rattle.section.proofs.Load.{load_held, load_in_m_n}
use Rattle.strips.specs.Strips.{scale_of}
use Rattle.forces.specs.Forces.{strain_scale, forces, moments, imbalance_under, imbalance, moment}
use Rattle.forces.specs.Code.{most_force, most_moment}
use Rattle.forces.proofs.Strains.{axis_is}
use Rattle.forces.proofs.sums_at.Goals as goal
use Rattle.forces.proofs.sums_at.Goals.{After-axis_at-axis, After-bar_sums-bars}

-- the axis is the depth's
axis : (c : After-axis_at-axis)
    → let of = c.args.of.now in
    (c.axis_at-axis.result.x ≡ c.args.x) × (scale_of c.axis_at-axis.result ≡ strain_scale of.law c.axis_at-axis.result.x)
axis c =
    let of = c.args.of.now in
    let a = axis_is of.accepted of.is c.requires.1 c.axis_at-axis.ensures in
    (a.0, a.1 ∙ ap (λ l. strain_scale l c.axis_at-axis.result.x) (sym of.is))

-- strips and bars, of at most a thousand and eight
force : (c : After-bar_sums-bars)
    → let of = c.args.of.now in
    Stands
    (back c.strip_sums-strips.result.force +ℤ back c.bar_sums-bars.result.force)
    (forces of.law of.section c.axis_at-axis.result.x)
    (most_force * 1008)
unfolding forces
force c =
    let of = c.args.of.now in
    let f = c.strip_sums-strips.ensures in
    let b = c.bar_sums-bars.ensures in
    stands_add
    (returned (most_force * 1000) f.forces (omega (arith, f.force_most, of.accepted.sizes.1.1)) (omega arith))
    (returned (most_force * 8) b.forces (omega (arith, b.force_most, of.accepted.bars.0.few)) (omega arith))

turning : (c : After-bar_sums-bars)
    → let of = c.args.of.now in
    Stands
    (back c.strip_sums-strips.result.moment +ℤ back c.bar_sums-bars.result.moment)
    (moments of.law of.section c.axis_at-axis.result.x)
    (most_moment * 1008)
unfolding moments
turning c =
    let of = c.args.of.now in
    let f = c.strip_sums-strips.ensures in
    let b = c.bar_sums-bars.ensures in
    stands_add
    (returned (most_moment * 1000) f.moments (omega (arith, f.moment_most, of.accepted.sizes.1.1)) (omega arith))
    (returned (most_moment * 8) b.moments (omega (arith, b.moment_most, of.accepted.bars.0.few)) (omega arith))

loaded : (c : After-bar_sums-bars)
    → let of = c.args.of.now in
    Stands
    (back (back c.strip_sums-strips.result.force +ℤ back c.bar_sums-bars.result.force) -ℤ back (pos 1000 *ℤ back (load_held of.section)))
    (imbalance_under of.law of.section c.axis_at-axis.result.x)
    (most_force * 1008 + 1000 * 10000000)
loaded c = stands_sub (stored (force c) (omega arith)) (stored (load_in_m_n c.args.of.now.accepted) (omega arith))

pub strip_sums-strips-requires : goal.strip_sums-strips-requires
strip_sums-strips-requires c = (axis c).1

pub bar_sums-bars-requires : goal.bar_sums-bars-requires
bar_sums-bars-requires c = (axis (goal.at.bar_sums-bars-requires c).After-axis_at-axis).1

pub overflow_sub-result : goal.overflow_sub-result
overflow_sub-result c =
    let of = c.args.of.now in
    let strips = c.strip_sums-strips.ensures in
    let bars = c.bar_sums-bars.ensures in
    omega (arith, ints, strips.force_most, bars.force_most, of.accepted.sizes.1.1, of.accepted.bars.0.few, of.accepted.load)

pub returns : goal.returns
unfolding imbalance moment
returns c =
    let d = (goal.at.returns c).After-bar_sums-bars in
    let of = c.args.of.now in
    let x = (axis (goal.at.returns c).After-axis_at-axis).0 in
    let force = (stored (loaded d) (omega arith)).is ∙ (λ i. imbalance_under (of.is i) of.section (x i)) in
    let moment = (stored (turning d) (omega arith)).is ∙ (λ i. moments (of.is i) of.section (x i)) in
    λ i. record { force = force i; moment = moment i }
