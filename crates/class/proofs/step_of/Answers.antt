-- `step_of`: the largest of the steps that are at most fR1.
use Rattle.std.proofs.Common.{rules, None}
use Rattle.std.proofs.lemmas.Iterator.{YieldsList-from_slice}
use Rattle.std.proofs.lemmas.Iterator.Consumers.{fold_from_yields_List}
use borrow.Author.Tests.{tests}
use Rattle.class.specs.Class.{ladder}
use Rattle.class.proofs.Ladder.{step_up, picked}
use Rattle.class.proofs.step_of.Goals as goal

pub returns : goal.returns
unfolding ladder
returns c =
    let fr1 = c.args.fr1 in
    picked fr1 c.fold.result
    (fold_from_yields_List _ (step_up fr1) None c.fold.result c.fold.ensures.ran (YieldsList-from_slice ladder (cc))
    (λ a x b q k. search (rules, tests)))
