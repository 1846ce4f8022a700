-- `sign_at`: by a bound on one side of zero, else by the imbalance itself (Within).
use mathlib.Core.Path.{◌≡◌, refl, sym, ap, ◌∙◌}
use native.Mathlib.Omega.{arith}
use Rattle.std.proofs.lemmas.Int.{ints}
use lib.IntN.{pos}
use lib.Signed.{lt_z}
use Rattle.arith.proofs.Machine.{read, stored}
use Rattle.refusal.proofs.Answers.{answered}
use Rattle.forces.specs.Forces.{imbalance}
use Rattle.forces.proofs.Strains.{axis_is}
use Rattle.forces.proofs.Answers.{none_refused}
use Rattle.depths.specs.Code.{sign_of}
use Rattle.depths.proofs.Within.{bounded, is_below, is_above}
use Rattle.depths.proofs.sign.sign_at.Goals as goal

pub strips_force-strips-requires : goal.strips_force-strips-requires
strips_force-strips-requires c = let l = c.args.lawful.now in (axis_is l.accepted l.is c.requires.1 c.axis_at-axis.ensures).1

pub bars_force-requires : goal.bars_force-requires
bars_force-requires c = let l = c.args.lawful.now in (axis_is l.accepted l.is c.requires.1 c.axis_at-axis.ensures).1

pub overflow_add-strips : goal.overflow_add-strips
overflow_add-strips c = omega (arith, ints, c.strips_force-strips.ensures.high_most, c.strips_force-strips.ensures.low_most, c.bars_force.ensures.1)

pub returns-then-strips-rest-lt0 : goal.returns-then-strips-rest-lt0
returns-then-strips-rest-lt0 c =
    let l = c.args.lawful.now in
    let strips = c.strips_force-strips in
    let bars = c.bars_force in
    let k = bounded l.accepted bars.result bars.ensures.1 strips.result.high strips.ensures.high_most in
    let test = ap (λ z. lt_z z (pos 0)) (sym (stored k (omega arith)).is) ∙ c.if-strips-rest-lt0.true in
    rw (axis_is l.accepted l.is c.requires.1 c.axis_at-axis.ensures).0 at (is_below _ _ bars.ensures.0 _ refl strips.result.high strips.ensures.below test)

pub overflow_add-strips-2 : goal.overflow_add-strips-2
overflow_add-strips-2 c = omega (arith, ints, c.strips_force-strips.ensures.high_most, c.strips_force-strips.ensures.low_most, c.bars_force.ensures.1)

pub returns-then-strips-rest-gt0 : goal.returns-then-strips-rest-gt0
returns-then-strips-rest-gt0 c =
    let l = c.args.lawful.now in
    let strips = c.strips_force-strips in
    let bars = c.bars_force in
    let k = bounded l.accepted bars.result bars.ensures.1 strips.result.low strips.ensures.low_most in
    let test = ap (λ z. lt_z (pos 0) z) (sym (stored k (omega arith)).is) ∙ c.if-strips-rest-gt0.true in
    rw (axis_is l.accepted l.is c.requires.1 c.axis_at-axis.ensures).0 at (is_above _ _ bars.ensures.0 _ refl strips.result.low strips.ensures.above test)

pub unwrap-requires : goal.unwrap-requires
unwrap-requires c = rw (answered c.imbalance.ensures (none_refused c.args.lawful.now.accepted c.requires.0 c.requires.1)) refl

pub returns : goal.returns
returns c =
    let there = answered c.imbalance.ensures (none_refused c.args.lawful.now.accepted c.requires.0 c.requires.1) in
    let is : c.unwrap.result ≡ imbalance c.args.lawful.now.section c.args.x = cc (there, c.unwrap.ensures) in
    c.cmp.ensures ∙ ap sign_of (read (record { sfits = c.unwrap.type_inv }) ∙ is)
