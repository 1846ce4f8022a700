-- `Section::bars_right`: the deepest layer, where there is one.
use mathlib.Core.Path.{◌≡◌, sym, ◌∙◌}
use native.Mathlib.Omega.{arith}
use lib.ListN.{length}
use Rattle.std.proofs.Common.{rules, tests}
use Rattle.arith.proofs.Lists.{length_mapped}
use Rattle.section.proofs.Layers.{few, mid_is}
use Rattle.section.proofs.Section.bars_right.Goals as goal

pub returns-then-layers_right : goal.returns-then-layers_right
returns-then-layers_right c =
    let s = c.args.self.now in
    let right = sym c.layers_right.ensures ∙ c.if-layers_right.true in
    let long : length s.layers ≡ 8 = search (rules, length_mapped) in
    rw right (mid_is s c.last.result _ (omega (arith, few s right)) (rw c.present.ensures at c.last.ensures.value) (search (rules, tests)))
