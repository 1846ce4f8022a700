-- `Section::with_one_more`: a layer is put before the first that is deeper.
use Prim.Native.Nat.{◌≤◌}
use mathlib.Core.Path.{◌≡◌, ◌∙◌}
use mathlib.Core.Bool.{not}
use native.Mathlib.Omega.{arith}
use lib.Dec.{ltb}
use lib.ListN.{length, take}
use Rattle.std.proofs.Common.{rules, tests}
use Rattle.std.specs.List.{position_or_len}
use Rattle.std.proofs.lemmas.List.{length-take}
use Rattle.std.proofs.lemmas.List.Sums.{prefix_len-le-length}
use Rattle.std.proofs.lemmas.Iterator.{YieldsList-from_slice}
use Rattle.std.proofs.lemmas.Iterator.Search.{position_from_yields_List}
use Rattle.arith.proofs.Lists.{length_mapped}
use Rattle.section.specs.declared.Layer.{Layer}
use Rattle.section.proofs.Layers.{front, inserted_is, first_or_end, put_in}
use Rattle.section.proofs.Section.with_one_more.Goals as goal

pub returns : goal.returns
returns c =
    let s = c.args.self.now in
    let few = c.requires in
    let deeper = λ (k : Layer). ltb c.args.layer.depth k.depth in
    let long : length s.layers ≡ 8 = search (rules, length_mapped) in
    let all : length (take s.count s.layers) ≡ s.count = omega (arith, length-take s.count s.layers) in
    let most : position_or_len deeper (take s.count s.layers) ≤ s.count =
    omega (arith, prefix_len-le-length (λ k. not (deeper k)) (take s.count s.layers)) in
    let first =
    position_from_yields_List deeper _ _ c.position.result c.position.ensures.ran (YieldsList-from_slice (take s.count s.layers) cc)
    (λ x b q k. search (rules, tests)) in
    let at : c.unwrap_or-at.result ≡ position_or_len deeper (take s.count s.layers) =
    c.unwrap_or-at.ensures ∙ rw (first, all) (first_or_end _ s.count most) in
    rw (front s (omega arith), inserted_is, ← at, c.copy_within.ensures.after) (put_in s.layers c.args.layer _ s.count (omega (arith, most)) (omega arith))
