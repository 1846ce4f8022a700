-- `Section::depth_taken`: a depth is taken by some layer.
use mathlib.Core.Path.{◌≡◌}
use native.Mathlib.Omega.{arith}
use lib.Dec.{eqb}
use lib.ListN.{length, take}
use Rattle.std.proofs.Common.{rules, tests}
use Rattle.std.proofs.lemmas.Iterator.{YieldsList-from_slice}
use Rattle.std.proofs.lemmas.Iterator.Search.{any_from_yields_List}
use Rattle.arith.proofs.Lists.{length_mapped}
use Rattle.section.proofs.Layers.{front, taken_is}
use Rattle.section.proofs.Section.depth_taken.Goals as goal

pub returns : goal.returns
returns c =
    let s = c.args.self.now in
    let long : length s.layers ≡ 8 = search (rules, length_mapped) in
    rw (front s (omega arith), taken_is)
    (any_from_yields_List (λ k. eqb c.args.depth k.depth) _ _ _ c.any.ensures.ran (YieldsList-from_slice (take s.count s.layers) cc)
    (λ x b q k. search (rules, tests)))
