-- `Piece::at`: each piece by its formula.
use lib.Ieee.{of_bits, of_int}
use Rattle.drawn.specs.Pieces.{evaluated}
use Rattle.drawn.proofs.Piece.at.Goals as goal

pub returns-in-Flat : goal.returns-in-Flat
unfolding evaluated
returns-in-Flat c = rw c.in-Flat.is

pub returns-in-Ramp : goal.returns-in-Ramp
unfolding evaluated of_bits of_int
returns-in-Ramp c = rw c.in-Ramp.is

pub returns-in-Parabola : goal.returns-in-Parabola
unfolding evaluated of_bits of_int
returns-in-Parabola c = rw c.in-Parabola.is
