-- `squares`: what the places up to `from` make is among what those up to `to` do.
use native.Mathlib.Omega.{arith}
use Rattle.strips.proofs.Closed.{run_squares}
use Rattle.strips.proofs.Places.squares.Goals as goal

pub overflow_sub-result : goal.overflow_sub-result
overflow_sub-result c = omega (arith, run_squares c.args.self.in_order)
