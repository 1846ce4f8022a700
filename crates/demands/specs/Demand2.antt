-- Demand 2: a section with a layer added, class, stress, imbalance, moment and shear equal the rules to the last rounding; a record read from a book
-- shows exactly the bytes filed.
use Rattle.std.specs.Prelude.{ℕ, ◌+◌, ◌*◌, ◌-◌, ◌/◌, ◌^◌, ◌≤◌, ◌<◌, ◌≡◌, true, ◌↔◌, List, leb, ℤ, pos, ◌*ℤ◌, length, get_or, take, ◌≤ℤ◌}
use Rattle.std.specs.Prelude.{Ok, Err, IfOk, IsOk}
use Rattle.std.specs.Int.Signed.{mag}
use Rattle.arith.specs.Floor.{RoundsDown}
use Rattle.arith.specs.Joined.{over}
use Rattle.arith.specs.Sums.{sum_z, after, sum_over}
use Rattle.arith.specs.Largest.{Largest, largest}
use Rattle.arith.specs.Least.{Least, multiple}
use Rattle.refusal.specs.Refusal.{number}
use Rattle.roots.specs.Root.{raised, past, Root}
use Rattle.section.specs.declared.Layer.{Layer}
use Rattle.section.specs.declared.Section.{Section}
use Rattle.section.specs.Section.{no_layer, layer_at, layers_of}
use Rattle.section.specs.Accepted.{LayersIn, Accepted}
use Rattle.section.specs.Added.{inserted, with_layer}
use Rattle.section.specs.Has.{concrete_area, steel_area, steel_moment, load_of, last_depth}
use Rattle.law.specs.declared.Lawful.{Lawful}
use Rattle.law.specs.Law.{law_of}
use Rattle.law.specs.Stress.{Stress, signed, size, rounded, concrete, bar}
use Rattle.law.specs.Sizes.{size_in}
use Rattle.drawn.specs.declared.Point.{Point}
use Rattle.drawn.specs.Drawn.{PointNear, point_at}
use Rattle.drawn.specs.Pieces.{evaluated}
use Rattle.strips.specs.declared.Range.{Range}
use Rattle.strips.specs.Strips.{scale_of, strip_size, strip_at}
use Rattle.forces.specs.Forces.{strain_scale, bar_at, imbalance, moment}
use Rattle.depths.specs.declared.Unlisted.TheVariants.{Refused}
use Rattle.depths.specs.Depths.{entry_of, listed, written, kind_number}
use Rattle.depths.specs.Answers.{ListAnswer, FirstAnswer, told, told_first, whole_work, first_of_list}
use Rattle.shear.specs.Shear.{squared, cubed, axial_share, resistance}
use Rattle.record.specs.Record.{Bytes, le32_at, record_size, layers_at, size_at, section_in}
use Rattle.record.specs.Filed.{filed, as_written, as_read}
use Rattle.book.specs.Book.{count_of, start_of, part_of}
use Rattle.book.specs.Good.{Shows}
use Rattle.writer.specs.Written.{book_in}
use Rattle.class.specs.Class.{ascii, step_of, letter_of}
use Rattle.strength.specs.Strength.{t10_of, square_from, spread, scaled}
use Rattle.demands.specs.Every as Every
use Rattle.demands.specs.Table.{First, asked_lines}

-- the layer is in its place by depth, and the layers are right as before
abbrev pub LayerAdded : Section → Layer → Section → Type 0
LayerAdded s l t = (t ≡ with_layer s l) × (layers_of t ≡ inserted l (layers_of s)) × LayersIn t

-- the section, its law, and that the section is accepted
abbrev pub LawfulIs : Section → Lawful → Type 0
LawfulIs s l = (l.section ≡ s) × (l.law ≡ law_of s) × Accepted s

-- places past the layer count are zero
abbrev pub ZeroPast : Section → Type 0
ZeroPast s = (j : ℕ) → s.count ≤ j → layer_at s.layers j ≡ no_layer

-- without a flange bf is 0
abbrev pub FlatIdle : Section → Type 0
FlatIdle s = s.hf ≡ 0 → s.bf ≡ 0

abbrev pub ClassIs : ℕ → ℕ → (step letter : ℕ) → Type 0
ClassIs fr1 fr3 step letter = (step ≡ step_of fr1) × (letter ≡ letter_of (step_of fr1) fr3)

-- the point is the rule's, and within one millionth of a kPa of the exact fraction
abbrev pub PointIs : Section → ℤ → Point → Type 0
PointIs s e p = (p ≡ point_at (law_of s) e) × PointNear (law_of s) e p

-- the list's words, then the row's own; the work of the whole grid
abbrev pub ListIs : Section → List ℤ → ListAnswer → List ℤ → Type 0
ListIs s before x after = (x.count ≡ length (listed s)) × (x.work ≡ whole_work s) × (after ≡ written (listed s) before)

-- the list's first entry, with the work as far as the depth that decides
abbrev pub FirstIs : Section → FirstAnswer → Type 0
FirstIs s x = x ≡ first_of_list s (entry_of (listed s) 0)

-- the record's place, inside the book; what lies there shows the record
abbrev pub PlaceIs : List ℕ → ℕ → (at len : ℕ) → Type 0
PlaceIs bytes i at len =
    (at ≡ start_of bytes i) × (len ≡ size_at bytes (start_of bytes i)) × (at + len ≤ length bytes) × Shows bytes i (part_of bytes at len)

-- bytes that are a record, which is read as this section, with nothing refused
abbrev pub ReadsAs : List ℕ → Section → Type 0
ReadsAs bytes s = Every.section_of (λ r y. r ≡ bytes → y ≡ Ok s)

-- a section's load is held by 32 bits; in a definition it has no width
abbrev pub Held : Section → Type 0
Held s = mag s.load < 2 ^ 31

-- the book, and the lent bytes' own behind it
abbrev pub BookPut : List ℕ → List ℕ → (len : ℕ) → List ℕ → Type 0
BookPut records before len after = (len ≡ length (book_in records)) × (after ≡ over (book_in records) before)

-- the record with the layer, and the lent bytes' own behind it; it is read as the section with the layer
abbrev pub LayerPut : List ℕ → Layer → List ℕ → (len : ℕ) → List ℕ → Type 0
LayerPut part l before len after =
    (len ≡ record_size ((section_in part).count + 1) (section_in part).hf)
    × (after ≡ over (filed (with_layer (section_in part) l)) before)
    × (Bytes part → ReadsAs (take len after) (with_layer (section_in part) l))

-- the record of a section: how long it is, and how it is read
abbrev pub RecordIs : Section → (read : Section) → List ℕ → Type 0
RecordIs s read bytes = (length bytes ≡ record_size s.count s.hf) × (Held s → ReadsAs bytes read)

-- f, the mean, rounded down; s, a and g by what they satisfy; the value is f less a and g
pub record StrengthIs (rs : List ℕ) (mean deviation value : ℕ) : Type 0 where
  pub mean_is : mean ≡ sum_over (λ r. r) rs / length rs
  pub deviation_is : Largest (spread (length rs)) (sum_over (square_from mean) rs) deviation
  pub a : ℕ
  pub a_is : Least (scaled (length rs)) (deviation * t10_of (length rs) * (deviation * t10_of (length rs))) a
  pub g : ℕ
  pub g_is : Least (multiple (200 * mean)) (329 * deviation * (mean + a)) g
  pub value_is : value + a + g ≡ mean

-- a sum lies from one bound to the other
abbrev pub Between : ℤ → Range → Type 0
Between sum x = (x.low ≤ℤ sum) × (sum ≤ℤ x.high)

-- of every call of each public function that answers anything: what, where it does not refuse
pub record Demand2 : Type 0 where
  -- the number of a refusal; that of a layer that is not added
  pub number_from : Every.number_from (λ r x. x ≡ number r)
  pub not_added_from : Every.not_added_from (λ e x. x ≡ e.refusal)
  -- a section
  pub check : Every.check (λ s x. IsOk x ↔ Accepted s)
  pub with_layer_call : Every.with_layer_call (λ s depth area x. IfOk x (LayerAdded s (record { depth = depth; area = area })))
  -- what it has: the grid's last depth, the layers below mid-height as one steel; of any section, and none is refused
  pub last_depth_call : Every.last_depth_call (λ s x. x ≡ last_depth s)
  pub steel : Every.steel (λ s x. (x.area ≡ steel_area s) × (x.moment ≡ steel_moment s))
  -- its law, and the stress of concrete and bars at the strain 500 t / q; the 0 of `sizeIn` is only of a law that no section has
  pub law_of_call : Every.law_of_call (λ s x. IfOk x (λ l. l ≡ law_of s))
  pub lawful_of : Every.lawful_of (λ s x. IfOk x (LawfulIs s))
  pub concrete_size : Every.concrete_size (λ l pulls t q x. x ≡ size_in l (concrete l pulls (500 * t) q))
  pub bar_size : Every.bar_size (λ l t q x. x ≡ size (bar l true (500 * t) q))
  pub sizes : (s : Section) → Accepted s → (t : Stress) → size_in (law_of s) t ≡ size t
  pub piece_at_call : Every.piece_at_call (λ piece e x. x ≡ evaluated piece e)
  pub draw : Every.draw (λ s e x. IfOk x (PointIs s e))
  -- the stress of a strip, and where the sum over a run of them lies, `to` not among them, of any law and axis
  pub strip : Every.strip (λ l axis i x. x ≡ signed (leb axis.x i) (strip_size l (leb axis.x i) axis i))
  pub bounds : Every.bounds (λ l axis from to x. from ≤ to → to ≤ 65535 → Between (sum_z (to - from) (after from (strip_at l axis))) x)
  -- the neutral axis at a depth of a section has its strains; the stress of a bar at a depth, rounded
  pub axis_at_call :
      Every.axis_at_call
      (λ l d x. (s : Section) → Accepted s → l ≡ law_of s → 1 ≤ d → d ≤ last_depth s →
      (x.x ≡ d) × (scale_of x ≡ strain_scale (law_of s) x.x))
  pub bar : Every.bar (λ l axis depth x. x ≡ rounded (bar_at l (scale_of axis) axis.x depth))
  -- the sums of a depth, the list, and its first entry alone
  pub imbalance_is : Every.imbalance (λ s d x. IfOk x (λ n. n ≡ imbalance s d))
  pub moment_is : Every.moment (λ s d x. IfOk x (λ n. n ≡ moment s d))
  pub depths : Every.depths (λ s before x after. x.refusal ≡ 0 → ListIs s before x after)
  pub first : Every.first (λ s x. x.refusal ≡ 0 → FirstIs s x)
  -- the number of a kind; why there is no list, where the section is refused, and the refusal that it is
  pub kind_from : Every.kind_from (λ k x. x ≡ kind_number k)
  pub unlisted_from : Every.unlisted_from (λ r x. x ≡ Refused r)
  pub refusal_from : Every.refusal_from (λ u x. number x ≡ (told (Err u)).refusal)
  -- a root, of so many digits of it; shear, whose roots are the largest of all numbers, and whose axial share is rounded towards minus infinity
  pub root : Every.root (λ cube digits by bound x. Root (raised cube by) (past digits) bound x)
  pub shear : Every.shear (λ s x. IfOk x (λ n. n ≡ pos (resistance s)))
  pub square_root : (d bound : ℕ) → 0 < d → Largest (squared d) bound (largest (squared d) bound)
  pub cube_root : (bd bound : ℕ) → 0 < bd → Largest (cubed bd) bound (largest (cubed bd) bound)
  pub axial_share_is : (s : Section) → Accepted s → RoundsDown (pos 15 *ℤ load_of s) (100 * concrete_area s) (axial_share s)
  -- numbers in bytes, 0 past the end, and the section of a record, in which places past the layer count are zero, and so is bf where hf is
  pub byte : Every.byte (λ bytes at x. x ≡ get_or bytes at 0)
  pub le32 : Every.le32 (λ bytes at x. x ≡ le32_at bytes at)
  pub layers_at_call : Every.layers_at_call (λ bytes at x. x ≡ layers_at bytes at)
  pub size_at_call : Every.size_at_call (λ bytes at x. x ≡ size_at bytes at)
  pub section_of : Every.section_of (λ part x. IfOk x (λ s. (s ≡ section_in part) × ZeroPast s × FlatIdle s))
  -- and back: the record is read as the section, with zeros past the layer count and bf 0 where hf is 0; as it is written, with spacing 0 where there are
  -- no stirrups
  pub as_slice : Every.as_slice (λ r bytes. bytes ≡ r)
  pub filed : Every.filed (λ s x. IfOk x (RecordIs s (as_read s)))
  pub record_of_call : Every.record_of_call (λ s x. IfOk x (RecordIs s (as_read (as_written s))))
  -- a book and the part of a record
  pub book : Every.book (λ bytes x. IfOk x (λ count. count ≡ count_of bytes))
  pub record_place : Every.record_place (λ bytes i x. IfOk x (λ p. PlaceIs bytes i p.at p.len))
  pub record_part : Every.record_part (λ bytes i part. First (asked_lines bytes i) 0 → Shows bytes i part)
  -- a book that is written, and a record with a layer added; what is past it stays
  pub write_book : Every.write_book (λ records before x after. IfOk x (λ len. BookPut records before len after))
  pub add_layer :
      Every.add_layer (λ part depth area before x after. IfOk x (λ len. LayerPut part (record { depth = depth; area = area }) before len after))
  -- a class, and its letter as its byte
  pub letter_from : Every.letter_from (λ letter x. x ≡ ascii letter)
  pub class : Every.class (λ fr1 fr3 x. IfOk x (λ c. ClassIs fr1 fr3 c.step (ascii c.letter)))
  -- a strength
  pub strength : Every.strength (λ rs x. IfOk x (λ y. StrengthIs rs y.mean y.deviation y.value))
  -- what C gets of an answer that is no refusal, and of one of `depths`
  pub book_from : Every.book_from (λ r x. IfOk r (λ count. x ≡ record { refusal = 0; count = count }))
  pub record_from : Every.record_from (λ r x. IfOk r (λ p. x ≡ record { refusal = 0; at = p.at; len = p.len }))
  pub written_from : Every.written_from (λ r x. IfOk r (λ len. x ≡ record { refusal = 0; len = len }))
  pub class_from : Every.class_from (λ r x. IfOk r (λ c. x ≡ record { refusal = 0; step = c.step; letter = ascii c.letter }))
  pub strength_from :
      Every.strength_from (λ r x. IfOk r (λ y. x ≡ record { refusal = 0; mean = y.mean; deviation = y.deviation; value = y.value }))
  pub drawn_from : Every.drawn_from (λ r x. IfOk r (λ p. x ≡ record { refusal = 0; point = p }))
  pub amount_from : Every.amount_from (λ r x. IfOk r (λ n. x ≡ record { refusal = 0; amount = n }))
  pub listing_from : Every.listing_from (λ r x. x ≡ told r)
  pub first_from : Every.first_from (λ r x. x ≡ told_first r)
  -- the C face
  pub fw_book : Every.fw_book (λ bytes x. x.refusal ≡ 0 → x.count ≡ count_of bytes)
  pub fw_record : Every.fw_record (λ bytes i x. x.refusal ≡ 0 → PlaceIs bytes i x.at x.len)
  pub fw_write_book : Every.fw_write_book (λ records before x after. x.refusal ≡ 0 → BookPut records before x.len after)
  pub fw_add_layer :
      Every.fw_add_layer
      (λ part depth area before x after. x.refusal ≡ 0 → LayerPut part (record { depth = depth; area = area }) before x.len after)
  pub fw_class : Every.fw_class (λ fr1 fr3 x. x.refusal ≡ 0 → ClassIs fr1 fr3 x.step x.letter)
  pub fw_strength : Every.fw_strength (λ rs x. x.refusal ≡ 0 → StrengthIs rs x.mean x.deviation x.value)
  pub fw_draw : Every.fw_draw (λ part e x. x.refusal ≡ 0 → PointIs (section_in part) e x.point)
  pub fw_imbalance : Every.fw_imbalance (λ part d x. x.refusal ≡ 0 → x.amount ≡ imbalance (section_in part) d)
  pub fw_moment : Every.fw_moment (λ part d x. x.refusal ≡ 0 → x.amount ≡ moment (section_in part) d)
  pub fw_depths : Every.fw_depths (λ part before x after. x.refusal ≡ 0 → ListIs (section_in part) before x after)
  pub fw_first : Every.fw_first (λ part x. x.refusal ≡ 0 → FirstIs (section_in part) x)
  pub fw_shear : Every.fw_shear (λ part x. x.refusal ≡ 0 → x.amount ≡ pos (resistance (section_in part)))
