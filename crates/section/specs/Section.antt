-- Document 01, 'What a section is': its bar layers. Depths in mm from the compressed face, areas in mm².
use Rattle.std.specs.Prelude.{ℕ, zero, suc, ◌*◌, Bool, true, ◌&&◌, List, [], ◌∷◌, ltb, leb, get_or}
use Rattle.section.specs.declared.Layer.{Layer}
use Rattle.section.specs.declared.Section.{Section}

abbrev pub no_layer : Layer
no_layer = record { depth = 0; area = 0 }

-- the layer at a place, counted from 0
abbrev pub layer_at : List Layer → ℕ → Layer
layer_at ls j = get_or ls j no_layer

-- below mid-height: twice the depth is more than h
abbrev pub below_mid : Section → ℕ → Bool
below_mid s depth = ltb s.h (2 * depth)

-- the n layers from place j on
unfoldable pub layers_from : List Layer → ℕ → ℕ → List Layer
layers_from ls j zero = []
layers_from ls j (suc n) = layer_at ls j ∷ layers_from ls (suc j) n

-- the layers there are: places past the layer count mean nothing
abbrev pub layers_of : Section → List Layer
layers_of s = layers_from s.layers 0 s.count

-- a depth of 1 to h - 1 and an area of 1 to 65,535, the most that its 16 bits hold
abbrev pub in_range : ℕ → Layer → Bool
in_range h l = ltb 0 l.depth && ltb l.depth h && ltb 0 l.area

-- each layer in range and deeper than what is above it: depths rise strictly
unfoldable pub rise : ℕ → ℕ → List Layer → Bool
rise h above [] = true
rise h above (l ∷ ls) = in_range h l && ltb above l.depth && rise h l.depth ls

-- up to 8 layers
unfoldable pub layers_right : Section → Bool
layers_right s = leb s.count 8 && rise s.h 0 (layers_of s)
