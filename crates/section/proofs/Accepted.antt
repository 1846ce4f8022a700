-- A section is accepted exactly where 7 to 13 with 20 pass; and what each of these lines decides. Assumes nothing.
use Prim.Native.Nat.{ℕ, ◌*◌, ◌-◌, ◌%◌, ◌<◌}
use mathlib.Core.Path.{◌≡◌, sym, ◌∙◌}
use mathlib.Core.Bool.{true, not, ◌&&◌, ◌||◌}
use mathlib.Core.Logic.Iff
use mathlib.Core.Logic.{◌↔◌}
use native.Mathlib.Omega.{arith}
use lib.Dec.{ltb, leb, eqb}
use lib.IntN.{nat_abs}
use borrow.Author.Tests.{not-true, le-leb}
use Rattle.arith.specs.Lines.{line, within}
use Rattle.arith.proofs.Tests.{Decides, is_less, is_most, is_same, is_both, is_unless_zero}
use Rattle.arith.proofs.Lines.{passes, between, one_line}
use Rattle.section.specs.declared.Layer.{Layer}
use Rattle.section.specs.declared.Section.{Section}
use Rattle.section.specs.Section.{layer_at, layers_of, in_range, layers_right}
use Rattle.section.specs.Refusal.{in_table, flange_right, mid_right, section_refusal}
use Rattle.section.specs.Added.{taken, layer_refusal}
use Rattle.section.specs.Accepted.{ConcreteIn, SizesIn, FlangeIn, SteelIn, FibresIn, LoadIn, LayersIn, BarsIn, TakesLayer, StirrupsIn, Accepted}
use Rattle.section.proofs.Layers.{few, rising}
use Rattle.section.proofs.Rising.{layer_in_is, in_layer, each, above_next, untaken, rises, free}

module _ (s : Section) where
  -- ---- line by line
  pub concrete_is : Decides (in_table s.fck) (ConcreteIn s)
  concrete_is = is_both (between 20 50 s.fck) (is_same (s.fck % 5) 0)

  pub sizes_are : Decides (within 50 2000 s.b && within 50 1000 s.h) (SizesIn s)
  sizes_are = is_both (between 50 2000 s.b) (between 50 1000 s.h)

  pub flange_is : Decides (flange_right s) (FlangeIn s)
  flange_is = is_unless_zero s.hf (is_both (is_less s.hf s.h) (between s.b 2000 s.bf))

  pub steel_is : Decides (within 400 600 s.fyk) (SteelIn s)
  steel_is = between 400 600 s.fyk

  pub fibres_are : Decides (leb s.feq2 20000 && leb s.feq3 20000) (FibresIn s)
  fibres_are = is_both (is_most s.feq2 20000) (is_most s.feq3 20000)

  pub load_is : Decides (leb (nat_abs s.load) 10000000) (LoadIn s)
  load_is = is_most (nat_abs s.load) 10000000

  pub layers_are : Decides (layers_right s) (LayersIn s)
  unfolding layers_right
  layers_are = (are, right)
    where
      are : layers_right s ≡ true → LayersIn s
      are e =
          let r = rising s e in
          record {
            few = few s e;
            each = λ j h. each s.layers s.h 0 0 s.count r j (omega arith) (omega arith);
            rising = λ j h. above_next s.layers s.h 0 0 s.count r j (omega arith) (omega arith);
          }

      right : LayersIn s → layers_right s ≡ true
      right l =
          let r = rises s.layers s.h 0 0 s.count (λ j h. l.each j (omega arith)) (λ j h. l.rising j (omega arith)) (λ h. (l.each 0 h).deep) in
          rw (le-leb s.count 8 l.few, r)

  pub bars_are : Decides (layers_right s && mid_right s) (BarsIn s)
  unfolding mid_right
  bars_are = is_both layers_are (is_unless_zero s.count (is_less s.h (2 * (layer_at s.layers (s.count - 1)).depth)))

  pub stirrups_are : Decides (eqb s.asw 0 || ltb 0 s.spacing) (StirrupsIn s)
  stirrups_are = is_unless_zero s.asw (is_less 0 s.spacing)

  -- ---- together
  pub accepted : section_refusal s ≡ 0 → Accepted s
  unfolding section_refusal
  accepted e =
      let p7 = passes 6 _ concrete_is e in
      let p8 = passes 7 _ sizes_are p7.1 in
      let p20 = passes 19 _ flange_is p8.1 in
      let p9 = passes 8 _ steel_is p20.1 in
      let p10 = passes 9 _ fibres_are p9.1 in
      let p11 = passes 10 _ load_is p10.1 in
      let p12 = passes 11 _ bars_are p11.1 in
      let p13 = passes 12 _ stirrups_are p12.1 in
      record { concrete = p7.0; sizes = p8.0; flange = p20.0; steel = p9.0; fibres = p10.0; load = p11.0; bars = p12.0; stirrups = p13.0 }

  pub accepts : Accepted s → section_refusal s ≡ 0
  unfolding section_refusal
  accepts a =
      rw (
        concrete_is.1 a.concrete,
        sizes_are.1 a.sizes,
        flange_is.1 a.flange,
        steel_is.1 a.steel,
        fibres_are.1 a.fibres,
        load_is.1 a.load,
        bars_are.1 a.bars,
        stirrups_are.1 a.stirrups,
      )

  pub accepted_exactly : (section_refusal s ≡ 0) ↔ Accepted s
  accepted_exactly = (accepted, accepts)

  -- ---- 12, where a layer is added
  module _ (l : Layer) where
    pub layer_line : layer_refusal s l ≡ line (in_range s.h l && not (taken l.depth (layers_of s)) && ltb s.count 8 && layers_right s) 12 0
    unfolding layer_refusal
    layer_line =
        one_line (in_range s.h l) _ 12 _ ∙ one_line (in_range s.h l && not (taken l.depth (layers_of s))) _ 12 _
        ∙ one_line (in_range s.h l && not (taken l.depth (layers_of s)) && ltb s.count 8) _ 12 0

    pub takes_layer : Decides (in_range s.h l && not (taken l.depth (layers_of s)) && ltb s.count 8 && layers_right s) (TakesLayer s l)
    takes_layer =
        Iff.trans (is_both (is_both (is_both (layer_in_is s.h l, in_layer s.h l) untaken_is) (is_less s.count 8)) layers_are)
        (λ p. record { layer = p.0.0.0; free = p.0.0.1; room = p.0.1; there = p.1 }, λ t. (((t.layer, t.free), t.room), t.there))
      where
        untaken_is : Decides (not (taken l.depth (layers_of s))) ((j : ℕ) → j < s.count → l.depth ≡ (layer_at s.layers j).depth → ⊥)
        untaken_is = (
          λ e j h. untaken s.layers s.h l.depth 0 s.count (not-true _ e) j (omega arith) (omega arith),
          λ f. rw (free s.layers s.h l.depth 0 s.count (λ j k h. f j (omega arith))),
        )

    pub takes : layer_refusal s l ≡ 0 → TakesLayer s l
    takes e = (passes 11 0 takes_layer (sym layer_line ∙ e)).0
