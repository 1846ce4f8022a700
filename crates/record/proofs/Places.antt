-- What is read behind a record's head: its layers, and past their count none; its flange, and without one no width. Assumes nothing.
use Prim.Native.Nat.{ℕ, zero, suc, ◌+◌, ◌*◌, ◌≤◌, ◌<◌}
use mathlib.Core.Path.{◌≡◌, refl}
use mathlib.Core.List.{List}
use native.Mathlib.Omega.{arith}
use borrow.Author.Tests.{lt-ltb, le-ltb, eq-eqb, ne_eqb}
use Rattle.section.specs.declared.Layer.{Layer}
use Rattle.section.specs.Section.{no_layer, layer_at}
use Rattle.record.specs.Record.{le16_at, layers_end, layers_at, flange_at, layer_in, flange_width, section_in}

module _ (r : List ℕ) where
  abbrev end : ℕ
  end = layers_end (layers_at r 0)

  -- ---- a layer
  module _ (j : ℕ) where
    abbrev filedLayer : Layer
    filedLayer = record { depth = le16_at r (24 + 4 * j); area = le16_at r (26 + 4 * j) }

    pub layer_there : j < layers_at r 0 → layer_in r j ≡ filedLayer
    layer_there h = rw (lt-ltb (24 + 4 * j) end (omega arith), lt-ltb (26 + 4 * j) end (omega arith))

    pub layer_past : layers_at r 0 ≤ j → layer_in r j ≡ no_layer
    layer_past h = rw (le-ltb (24 + 4 * j) end (omega arith), le-ltb (26 + 4 * j) end (omega arith))

  -- of the section that is read from the record: its array has 8 places
  pub zero_past_count : (j : ℕ) → (section_in r).count ≤ j → layer_at (section_in r).layers j ≡ no_layer
  unfolding section_in
  zero_past_count zero = layer_past 0
  zero_past_count (suc zero) = layer_past 1
  zero_past_count (suc (suc zero)) = layer_past 2
  zero_past_count (suc (suc (suc zero))) = layer_past 3
  zero_past_count (suc (suc (suc (suc zero)))) = layer_past 4
  zero_past_count (suc (suc (suc (suc (suc zero))))) = layer_past 5
  zero_past_count (suc (suc (suc (suc (suc (suc zero)))))) = layer_past 6
  zero_past_count (suc (suc (suc (suc (suc (suc (suc zero))))))) = layer_past 7
  zero_past_count (suc (suc (suc (suc (suc (suc (suc (suc j)))))))) = λ h. refl

  -- ---- the flange
  pub width_none : flange_at r 0 ≡ 0 → flange_width r ≡ 0
  width_none e = rw (eq-eqb (flange_at r 0) 0 e)

  pub width_filed : 0 < flange_at r 0 → flange_width r ≡ le16_at r end
  width_filed h = rw (ne_eqb (flange_at r 0) 0 (λ e. omega arith))
