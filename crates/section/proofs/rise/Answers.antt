-- `rise`: in range and in order.
use mathlib.Core.Path.{◌≡◌, sym, ◌∙◌}
use lib.Dec.{ltb}
use Rattle.std.proofs.Common.{rules, tests}
use Rattle.std.specs.List.{list_all, IsAllAdjacentAnswer}
use Rattle.std.proofs.lemmas.List.Sorted.{answers_always}
use Rattle.std.proofs.lemmas.Iterator.{YieldsList-from_slice}
use Rattle.std.proofs.lemmas.Iterator.Search.{all_from_yields_List}
use Rattle.section.specs.Section.{in_range}
use Rattle.section.proofs.Rising.{rise_is, not_all}
use Rattle.section.proofs.rise.Goals as goal
use Rattle.section.proofs.rise.Goals.{After-all}

tested : (c : After-all) → c.all.result ≡ list_all (in_range c.args.h) c.args.layers.now
tested c = all_from_yields_List (in_range c.args.h) _ _ _ c.all.ensures.ran (YieldsList-from_slice c.args.layers.now cc) (λ x b q k. search (rules, tests))

pub returns-then-all : goal.returns-then-all
returns-then-all c =
    let sorted : IsAllAdjacentAnswer (λ k l b. b ≡ ltb k.depth l.depth) c.args.layers.now c.is_sorted_by.result =
    c.is_sorted_by.ensures.cases (λ k l. ltb k.depth l.depth) (answers_always _ _ _ (λ f a r g k. search (rules, tests))) in
    rise_is c.args.h c.args.layers.now c.is_sorted_by.result sorted (sym (tested (goal.at.returns-then-all c).After-all) ∙ c.if-all.true)

pub returns-else-all : goal.returns-else-all
returns-else-all c = c.if-all.false ∙ not_all c.args.h c.args.layers.now (sym (tested (goal.at.returns-else-all c).After-all) ∙ c.if-all.false)
