-- `Law::small`: each number, one after another.
use mathlib.Core.Path.{◌∙◌}
use mathlib.Core.Bool.{and_assoc, and-true}
use mathlib.Core.List.{[], ◌∷◌}
use lib.Dec.{ltb}
use Rattle.std.proofs.Common.{rules, tests}
use Rattle.std.proofs.lemmas.Iterator.{YieldsList-from_slice}
use Rattle.std.proofs.lemmas.Iterator.Search.{all_from_yields_List}
use Rattle.law.proofs.Law.small.Goals as goal

pub returns : goal.returns
returns c =
    let l = c.args.self in
    all_from_yields_List (λ n. ltb n 65536) _ _ _ c.all.ensures.ran (YieldsList-from_slice (l.fcd ∷ l.s1 ∷ l.s2 ∷ l.s3 ∷ l.e1 ∷ l.e2 ∷ l.e3 ∷ []) cc) (λ x b q k. search (rules, tests))
    ∙ simp (and_assoc, and-true)
