-- Document 01, 'The section book': one record, by itself, little-endian. Its flange is of document 02 [4].
use Rattle.std.specs.Prelude.{ℕ, ◌+◌, ◌*◌, ◌<◌, Bool, cond, ◌&&◌, ◌||◌, List, [], ◌∷◌, ltb, leb, eqb, ℤ, pos, ◌-ℤ◌, length, get_or}
use Rattle.arith.specs.Answers.{unless_refused}
use Rattle.arith.specs.Lines.{line}
use Rattle.section.specs.declared.Layer.{Layer}
use Rattle.section.specs.declared.Section.{Section}

-- bytes are numbers below 256; in a definition they have no width
abbrev pub Bytes : List ℕ → Type 0
Bytes r = (i : ℕ) → get_or r i 0 < 256

-- the number of 16 bits, and of 32, at a place; a byte past the end is read as 0
abbrev pub le16_at : List ℕ → ℕ → ℕ
le16_at r i = get_or r i 0 + 256 * get_or r (i + 1) 0

abbrev pub le32_at : List ℕ → ℕ → ℕ
le32_at r i = le16_at r i + 65536 * le16_at r (i + 2)

-- 32 bits signed: from 2³¹ on, the number less 2³²
unfoldable pub signed32 : ℕ → ℤ
signed32 n = cond (ltb n 2147483648) (pos n) (pos n -ℤ pos 4294967296)

-- ---- how long it is: its head, four bytes for each of m layers, then four for its flange, which there is where hf is not 0
abbrev pub layers_end : ℕ → ℕ
layers_end m = 24 + 4 * m

unfoldable pub flange_size : ℕ → ℕ
flange_size hf = cond (eqb hf 0) 0 4

abbrev pub record_size : (m hf : ℕ) → ℕ
record_size m hf = layers_end m + flange_size hf

-- the layer count m of a record that starts at a place, its flange height hf, and its length
abbrev pub layers_at : List ℕ → ℕ → ℕ
layers_at r at = le16_at r (at + 20)

abbrev pub flange_at : List ℕ → ℕ → ℕ
flange_at r at = le16_at r (at + 22)

abbrev pub size_at : List ℕ → ℕ → ℕ
size_at r at = record_size (layers_at r at) (flange_at r at)

-- a lone one: of that length, m at most 8, and the zero behind bf zero where there is a flange
unfoldable pub record_right : List ℕ → Bool
record_right r = eqb (length r) (size_at r 0) && leb (layers_at r 0) 8 && (eqb (flange_at r 0) 0 || eqb (le16_at r (layers_end (layers_at r 0) + 2)) 0)

unfoldable pub record_refusal : List ℕ → ℕ
record_refusal r = line (record_right r) 6 0

-- ---- its section
-- a number of its layers: past the layer count there is none, whatever follows
abbrev pub number_in : List ℕ → ℕ → ℕ
number_in r i = cond (ltb i (layers_end (layers_at r 0))) (le16_at r i) 0

-- depth and area at a place, counted from 0
abbrev pub layer_in : List ℕ → ℕ → Layer
layer_in r j = record { depth = number_in r (24 + 4 * j); area = number_in r (26 + 4 * j) }

abbrev pub layers_in : List ℕ → List Layer
layers_in r = layer_in r 0 ∷ layer_in r 1 ∷ layer_in r 2 ∷ layer_in r 3 ∷ layer_in r 4 ∷ layer_in r 5 ∷ layer_in r 6 ∷ layer_in r 7 ∷ []

-- bf, behind the layers; read as 0 where hf is 0
abbrev pub flange_width : List ℕ → ℕ
flange_width r = cond (eqb (flange_at r 0) 0) 0 (le16_at r (layers_end (layers_at r 0)))

unfoldable pub section_in : List ℕ → Section
section_in r = record {
  b = le16_at r 0;
  h = le16_at r 2;
  hf = flange_at r 0;
  bf = flange_width r;
  fck = le16_at r 4;
  fyk = le16_at r 6;
  feq2 = le16_at r 8;
  feq3 = le16_at r 10;
  load = signed32 (le32_at r 12);
  asw = le16_at r 16;
  spacing = le16_at r 18;
  count = layers_at r 0;
  layers = layers_in r;
}

-- of a record that is handed over as bytes: 6 first, then what is answered of its section
abbrev pub of_record : {X : Type 0} → List ℕ → (Section → X) → (ℕ → X) → X
of_record r answered refused = unless_refused (record_refusal r) (answered (section_in r)) refused
