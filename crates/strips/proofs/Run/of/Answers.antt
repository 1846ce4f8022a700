-- `of`: the test is that of `fits` (Within), and a run that begins past its end is none.
use native.Mathlib.Omega.{arith}
use Rattle.strips.proofs.Within.{fits_is}
use Rattle.strips.proofs.Run.of.Goals as goal

pub invariant_of-result : goal.invariant_of-result
invariant_of-result c = record { in_order = omega (arith, c.min.ensures); fits = (fits_is _ _ _).0 c.if-not-fits.false }
