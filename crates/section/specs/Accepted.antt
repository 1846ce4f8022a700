-- What an accepted section is: the ranges of document 01's 'What a section is', by the line of the table of refusals that asks for them.
use Rattle.std.specs.Prelude.{ℕ, ◌+◌, ◌*◌, ◌-◌, ◌%◌, ◌≤◌, ◌<◌, ◌≡◌, nat_abs}
use Rattle.arith.specs.Lines.{Between}
use Rattle.section.specs.declared.Layer.{Layer}
use Rattle.section.specs.declared.Section.{Section}
use Rattle.section.specs.Section.{layer_at}

-- 7: Table 1 of document 002 has 20, 25, 30, 35, 40, 45, 50
abbrev pub ConcreteIn : Section → Type 0
ConcreteIn s = Between 20 50 s.fck × (s.fck % 5 ≡ 0)

-- 8: b and h
abbrev pub SizesIn : Section → Type 0
SizesIn s = Between 50 2000 s.b × Between 50 1000 s.h

-- 20, after 8: where there is a flange, hf below h and bf from b to 2,000
abbrev pub FlangeIn : Section → Type 0
FlangeIn s = 0 < s.hf → (s.hf < s.h) × Between s.b 2000 s.bf

-- 9: fyk
abbrev pub SteelIn : Section → Type 0
SteelIn s = Between 400 600 s.fyk

-- 10: feq2 and feq3
abbrev pub FibresIn : Section → Type 0
FibresIn s = (s.feq2 ≤ 20000) × (s.feq3 ≤ 20000)

-- 11: the axial load
abbrev pub LoadIn : Section → Type 0
LoadIn s = nat_abs s.load ≤ 10000000

-- 12: a layer, of 1 to h - 1 and with some area; up to 8 of them, whose depths rise strictly; the deepest below mid-height
pub record LayerIn (h : ℕ) (l : Layer) : Type 0 where
  pub deep : 0 < l.depth
  pub inside : l.depth < h
  pub some : 0 < l.area

pub record LayersIn (s : Section) : Type 0 where
  pub few : s.count ≤ 8
  pub each : (j : ℕ) → j < s.count → LayerIn s.h (layer_at s.layers j)
  pub rising : (j : ℕ) → j + 1 < s.count → (layer_at s.layers j).depth < (layer_at s.layers (j + 1)).depth

abbrev pub BarsIn : Section → Type 0
BarsIn s = LayersIn s × (0 < s.count → s.h < 2 * (layer_at s.layers (s.count - 1)).depth)

-- where a layer is added: in range, its depth not taken, fewer than 8 there, and these right
pub record TakesLayer (s : Section) (l : Layer) : Type 0 where
  pub layer : LayerIn s.h l
  pub free : (j : ℕ) → j < s.count → l.depth ≡ (layer_at s.layers j).depth → ⊥
  pub room : s.count < 8
  pub there : LayersIn s

-- 13: stirrups have a spacing
abbrev pub StirrupsIn : Section → Type 0
StirrupsIn s = 0 < s.asw → 0 < s.spacing

pub record Accepted (s : Section) : Type 0 where
  pub concrete : ConcreteIn s
  pub sizes : SizesIn s
  pub flange : FlangeIn s
  pub steel : SteelIn s
  pub fibres : FibresIn s
  pub load : LoadIn s
  pub bars : BarsIn s
  pub stirrups : StirrupsIn s
