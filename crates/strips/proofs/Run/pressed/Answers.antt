-- `pressed`: the parabola as far as its top (Pressing).
use mathlib.Core.Path.{refl}
use Rattle.strips.specs.Bounds.{pressed_bound}
use Rattle.strips.proofs.Within.{as_closed, push}
use Rattle.strips.proofs.Run.pressed.Goals as goal

pub returns : goal.returns
unfolding pressed_bound
returns c =
    let a = c.args.self in
    let k = c.cut.ensures in
    as_closed
    (rw (c.count.ensures, c.bent.ensures.0, c.count-2.ensures, k.2, k.3, k.0, k.1, c.above.ensures.0, c.above.ensures.1))
    (push a.fits a.in_order refl)
