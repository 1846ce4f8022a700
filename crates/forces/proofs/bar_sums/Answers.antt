-- `bar_sums`: a layer more.
use Prim.Native.Nat.{◌*◌, ◌≤◌, ◌<◌}
use mathlib.Core.Path.{◌≡◌, ap, ◌∙◌, subst}
use native.Mathlib.Omega.{arith}
use lib.IntN.{pos, nat_abs, ◌*ℤ◌}
use lib.ListN.{get_or, take, length-take}
use Rattle.std.proofs.lemmas.List.{get_or-take}
use Rattle.arith.proofs.Signed.{lever_most}
use Rattle.section.specs.declared.Layer.{Layer}
use Rattle.section.specs.Section.{no_layer, layer_at}
use Rattle.strips.specs.Strips.{scale_of}
use Rattle.forces.specs.Forces.{lever, bar_counts, bar_force, bar_moment}
use Rattle.forces.specs.Code.{Summed}
use Rattle.forces.proofs.Bars.{bar_weak}
use Rattle.forces.proofs.Summed.{none, sizes, next}
use Rattle.forces.proofs.bar_sums.Goals as goal
use Rattle.forces.proofs.bar_sums.Goals.{After-bar}

-- the layer of a turn is one of those that count
abbrev layer : After-bar → Layer
layer c = let s = c.args.of.now.section in get_or (take s.count s.layers) c.loop-layer.layer-index no_layer

few : (c : After-bar) → c.loop-layer.layer-index < c.args.of.now.section.count
few c = omega (arith, length-take {A = Layer})

layer-is : (c : After-bar) → layer c ≡ layer_at c.args.of.now.section.layers c.loop-layer.layer-index
layer-is c = let s = c.args.of.now.section in get_or-take s.count s.layers c.loop-layer.layer-index no_layer (few c)

force-is : (c : After-bar)
    → let of = c.args.of.now in
    pos (layer c).area *ℤ c.bar.result ≡ bar_force of.law of.section c.args.axis.x c.loop-layer.layer-index
unfolding bar_force
force-is c =
    let law = c.args.of.now.law in
    let x = c.args.axis.x in
    λ k. pos (layer-is c k).area *ℤ (c.bar.ensures ∙ (λ j. bar_counts law (c.requires j) x (layer-is c j).depth)) k

lever-is : (c : After-bar)
    → let s = c.args.of.now.section in
    c.lever-lever.result ≡ lever s (2 * (layer_at s.layers c.loop-layer.layer-index).depth)
lever-is c = let s = c.args.of.now.section in c.lever-lever.ensures ∙ ap (λ (l : Layer). lever s (2 * l.depth)) (layer-is c)

near : (c : After-bar) → nat_abs c.lever-lever.result ≤ 1000
near c =
    let of = c.args.of.now in
    let s = of.section in
    let j = c.loop-layer.layer-index in
    let inside = (of.accepted.bars.0.each j (few c)).inside in
    rw (lever-is c) (omega (arith, lever_most s.h (2 * (layer_at s.layers j).depth) (omega (arith, inside)), of.accepted.sizes.1.1))

weak : (c : After-bar) → nat_abs c.bar.result ≤ 521739
weak c =
    let of = c.args.of.now in
    let axis = c.args.axis in
    rw c.bar.ensures (bar_weak of.accepted of.is (scale_of axis) axis.x (layer c).depth)

pub loop-layer-init : goal.loop-layer-init
loop-layer-init c = none _ _

pub add-requires-clause-sizes : goal.add-requires-clause-sizes
add-requires-clause-sizes c = sizes c.lever-lever.result c.bar.result (near c) (weak c)

pub loop-layer-preserved : goal.loop-layer-preserved
unfolding bar_moment
loop-layer-preserved c =
    let d = (goal.at.loop-layer-preserved c).After-bar in
    let of = c.args.of.now in
    next c.lever-lever.result c.bar.result (near d) (weak d) (layer d).area (omega arith) c.loop-layer.invariant (force-is d)
    (ap (λ z. z *ℤ bar_force of.law of.section c.args.axis.x c.loop-layer.layer-index) (lever-is d))
    c.add.ensures.force c.add.ensures.moment

pub returns : goal.returns
returns c =
    let of = c.args.of.now in
    let x = c.args.axis.x in
    let all : c.loop-layer.layer-index ≡ of.section.count = omega (arith, length-take {A = Layer}, of.accepted.bars.0.few) in
    subst (λ n. Summed n (bar_force of.law of.section x) (bar_moment of.law of.section x) c.loop-layer.sums.force c.loop-layer.sums.moment) all
    c.loop-layer.invariant
