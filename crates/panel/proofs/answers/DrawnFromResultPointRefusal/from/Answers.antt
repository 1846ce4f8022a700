-- A literal 0.0 is plus zero.
use borrow.Author.Rules.{rules}
use lib.Ieee.{of_bits, of_int}
use Rattle.panel.proofs.answers.DrawnFromResultPointRefusal.from.Goals as goal

pub returns-in-Err : goal.returns-in-Err
unfolding of_bits of_int
returns-in-Err c = search rules
