-- `pulled`: three ramps (Pulling).
use mathlib.Core.Path.{refl}
use Rattle.strips.specs.Bounds.{pulled_bound}
use Rattle.strips.proofs.Within.{as_closed, pull}
use Rattle.strips.proofs.Run.pulled.Goals as goal

pub returns : goal.returns
unfolding pulled_bound
returns c =
    let a = c.args.self in
    let one = c.along-one.ensures in
    let two = c.along-two.ensures in
    let three = c.along-three.ensures in
    let second = c.on_to-second.ensures in
    let third = c.on_to-third.ensures in
    let p = c.below-places.ensures in
    as_closed
    (rw (one.0, two.0, three.0, three.2, two.2, two.3, one.2, one.3)
    (rw (third.0, third.1, third.2, third.3, second.0, second.1, second.2, second.3, p.0, p.1)))
    (pull a.fits a.in_order refl)
