-- Document 01, 'The section book': a section's record, byte by byte. What it reads as is in Record; that each is the other's inverse is proved.
use Rattle.std.specs.Prelude.{ℕ, ◌-◌, ◌/◌, ◌%◌, cond, List, [], ◌∷◌, ◌++◌, ltb, leb, eqb, ℤ, nat_abs, get_or, take}
use Rattle.std.specs.Int.Signed.{non_neg}
use Rattle.arith.specs.Joined.{joined}
use Rattle.arith.specs.Lines.{line}
use Rattle.section.specs.declared.Layer.{Layer}
use Rattle.section.specs.declared.Section.{Section}
use Rattle.section.specs.Section.{no_layer, layer_at}
use Rattle.record.specs.Record.{layers_end, record_size}

-- a number of 16 bits in bytes, the lower first, and one of 32
abbrev pub bytes16 : ℕ → List ℕ
bytes16 n = n % 256 ∷ n / 256 ∷ []

abbrev pub bytes32 : ℕ → List ℕ
bytes32 n = bytes16 (n % 65536) ++ bytes16 (n / 65536)

-- 32 bits signed: below zero, the number and 2³²
unfoldable pub unsigned32 : ℤ → ℕ
unsigned32 z = cond (non_neg z) (nat_abs z) (4294967296 - nat_abs z)

-- b, h, fck, fyk, feq2, feq3; the load; Asw, s, layer count m, flange height hf; then depth and area of each place for a layer
unfoldable pub places_of : Section → List ℕ
places_of s =
    s.b ∷ s.h ∷ s.fck ∷ s.fyk ∷ s.feq2 ∷ s.feq3
    ∷ unsigned32 s.load % 65536 ∷ unsigned32 s.load / 65536
    ∷ s.asw ∷ s.spacing ∷ s.count ∷ s.hf
    ∷ (layer_at s.layers 0).depth ∷ (layer_at s.layers 0).area ∷ (layer_at s.layers 1).depth ∷ (layer_at s.layers 1).area
    ∷ (layer_at s.layers 2).depth ∷ (layer_at s.layers 2).area ∷ (layer_at s.layers 3).depth ∷ (layer_at s.layers 3).area
    ∷ (layer_at s.layers 4).depth ∷ (layer_at s.layers 4).area ∷ (layer_at s.layers 5).depth ∷ (layer_at s.layers 5).area
    ∷ (layer_at s.layers 6).depth ∷ (layer_at s.layers 6).area ∷ (layer_at s.layers 7).depth ∷ (layer_at s.layers 7).area
    ∷ []

-- behind the layers there are stand the flange width bf and a zero
abbrev pub numbers_of : Section → List ℕ
numbers_of s = take (layers_end s.count / 2) (places_of s) ++ (s.bf ∷ 0 ∷ [])

abbrev pub number_bytes : List ℕ → ℕ → List ℕ
number_bytes numbers k = bytes16 (get_or numbers k 0)

-- the record of a section of at most 8 layers: of these numbers as many as it is long, and so without these two where hf is 0
unfoldable pub filed : Section → List ℕ
filed s = joined (number_bytes (numbers_of s)) (record_size s.count s.hf / 2)

-- a section but for its flange width, its spacing and its places for layers
abbrev pub but : (s : Section) (bf spacing : ℕ) → List Layer → Section
but s bf spacing layers = record {
  b = s.b;
  h = s.h;
  hf = s.hf;
  bf = bf;
  fck = s.fck;
  fyk = s.fyk;
  feq2 = s.feq2;
  feq3 = s.feq3;
  load = s.load;
  asw = s.asw;
  spacing = spacing;
  count = s.count;
  layers = layers;
}

-- as it is written: without stirrups there is no spacing
unfoldable pub as_written : Section → Section
as_written s = but s s.bf (cond (eqb s.asw 0) 0 s.spacing) s.layers

-- and as it is read back: the places past the layer count are zero, and so is bf where there is no flange
abbrev pub cleared_at : Section → ℕ → Layer
cleared_at s j = cond (ltb j s.count) (layer_at s.layers j) no_layer

unfoldable pub as_read : Section → Section
as_read s =
    but s (cond (eqb s.hf 0) 0 s.bf) s.spacing
    (cleared_at s 0 ∷ cleared_at s 1 ∷ cleared_at s 2 ∷ cleared_at s 3 ∷ cleared_at s 4 ∷ cleared_at s 5 ∷ cleared_at s 6 ∷ cleared_at s 7 ∷ [])

-- more than 8 layers are refused 12
abbrev pub filed_refusal : Section → ℕ
filed_refusal s = line (leb s.count 8) 12 0
