-- `below`: a difference from plus zero.
use mathlib.Core.Path.{◌∙◌, ap}
use native.Mathlib.Omega.{arith}
use lib.IntN.{pos, neg_ℤ, +ℤ_idl}
use lib.Ieee.{of_bits, of_int}
use Rattle.arith.specs.Floats.{whole}
use Rattle.arith.proofs.Floats.{sub_whole}
use Rattle.drawn.proofs.below.Goals as goal

pub returns : goal.returns
unfolding of_bits of_int
returns c = sub_whole (pos 0) (pos c.args.n) (omega arith) (omega arith) ∙ ap whole (+ℤ_idl (neg_ℤ (pos c.args.n)))
