-- What a section has, of any section. Lengths in mm, areas in mm², the load in mN.
use Rattle.std.specs.Prelude.{ℕ, ◌*◌, cond, ltb, ℤ, pos, ◌*ℤ◌}
use Rattle.arith.specs.Sums.{sum_n}
use Rattle.section.specs.declared.Section.{Section}
use Rattle.section.specs.Section.{layer_at, below_mid}

-- the width of strip i, of h strips of 1 mm, counted from 0 at the compressed face: that of the flange where i is below hf ([4] of document 02)
abbrev pub width_at : Section → ℕ → ℕ
width_at s i = cond (ltb i s.hf) s.bf s.b

abbrev pub depth_at : Section → ℕ → ℕ
depth_at s j = (layer_at s.layers j).depth

abbrev pub area_at : Section → ℕ → ℕ
area_at s j = (layer_at s.layers j).area

-- the true area: b h without a flange
abbrev pub concrete_area : Section → ℕ
concrete_area s = sum_n s.h (width_at s)

-- As, the area of layers below mid-height
abbrev pub area_below : Section → ℕ → ℕ
area_below s j = cond (below_mid s (depth_at s j)) (area_at s j) 0

unfoldable pub steel_area : Section → ℕ
steel_area s = sum_n s.count (area_below s)

-- the sum of area times depth of these layers
abbrev pub moment_below : Section → ℕ → ℕ
moment_below s j = area_below s j * depth_at s j

unfoldable pub steel_moment : Section → ℕ
steel_moment s = sum_n s.count (moment_below s)

-- how many they are
abbrev pub layers_below : Section → ℕ
layers_below s = sum_n s.count (λ j. cond (below_mid s (depth_at s j)) 1 0)

-- the axial load, in mN
abbrev pub load_of : Section → ℤ
load_of s = pos 1000 *ℤ s.load

-- the neutral axis is each whole depth from 1 to this
abbrev pub last_depth : Section → ℕ
last_depth s = s.h
