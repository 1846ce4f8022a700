-- `along`: what is beyond a ramp's end is past its strain (Cutting).
use Prim.Native.Nat.{◌*◌}
use mathlib.Core.Path.{refl, ◌∙◌}
use native.Mathlib.Nat.{le_of_lt}
use native.Mathlib.Omega.{arith}
use Rattle.strips.specs.Closed.{ramp_sum}
use Rattle.strips.proofs.Cutting.{cuts}
use Rattle.strips.proofs.Run.along.Goals as goal

pub returns : goal.returns
returns c =
    let a = c.args.self.axis in
    let r = c.args.ramp in
    let p = c.args.places in
    let k = c.cut.ensures in
    let some = c.args.self.fits.axis.unit.0 in
    let end = cuts (r.eb * a.over) (500 * a.unit) p.from p.to (omega arith) p.in_order refl in (
      c.slanted.ensures.0 ∙ (λ i. ramp_sum r.ea r.sa r.eb r.sb a.over a.unit (k.0 i) (k.1 i)),
      c.slanted.ensures.1,
      k.2 ∙ k.1,
      k.3,
      record { on = λ j h i. le_of_lt (end.outside j h i) },
    )
