-- Demand 2, by what each contract tells. Assumes nothing.
use Prim.Native.Nat.{ℕ, ◌-◌, ◌≤◌}
use mathlib.Core.Path.{◌≡◌, refl, sym, ap, ◌∙◌, subst}
use mathlib.Core.Logic.Iff
use mathlib.Core.List.{List}
use native.Mathlib.Omega.{arith}
use lib.IntN.{ℤ, pos}
use lib.ListN.{length, take}
use Rattle.std.specs.Prelude.{Ok}
use Rattle.arith.specs.Sums.{sum_z, after}
use Rattle.arith.specs.Joined.{over}
use Rattle.arith.proofs.Tests.{is_most}
use Rattle.arith.proofs.Joined.{over_front}
use Rattle.arith.proofs.Lines.{passes, none_of}
use Rattle.refusal.proofs.Answers.{answers, answered}
use Rattle.section.specs.declared.Layer.{Layer}
use Rattle.section.specs.declared.Section.{Section}
use Rattle.section.specs.Refusal.{section_refusal}
use Rattle.section.specs.Accepted.{Accepted}
use Rattle.section.specs.Added.{layer_refusal, with_layer}
use Rattle.section.proofs.Accepted.{layers_are, accepted_exactly}
use Rattle.section.proofs.Inserted.{layers_added, added_right}
use Rattle.law.specs.declared.Law.{Law}
use Rattle.law.specs.declared.Lawful.{Lawful}
use Rattle.law.specs.Law.{law_of}
use Rattle.law.specs.Stress.{Stress, size}
use Rattle.law.specs.Sizes.{size_in}
use Rattle.law.proofs.Sizes.{small_law}
use Rattle.drawn.specs.Drawn.{point_at, drawn_refusal}
use Rattle.drawn.proofs.Within.{point_near}
use Rattle.strips.specs.declared.Axis.{Axis}
use Rattle.strips.specs.declared.Range.{Range}
use Rattle.strips.specs.Strips.{strip_at}
use Rattle.strips.specs.Bounds.{bounds_of}
use Rattle.strips.proofs.Within.{bounds_hold}
use Rattle.forces.specs.Forces.{imbalance, moment}
use Rattle.forces.proofs.Strains.{axis_is}
use Rattle.depths.specs.Answers.{ListAnswer, FirstAnswer, list_answer, row_after, first_answer}
use Rattle.depths.proofs.Answers.{list_number, list_count, list_work, of_first, row_written}
use Rattle.shear.specs.Shear.{resistance}
use Rattle.shear.proofs.Theorems.{square_root, cube_root, axial_floor}
use Rattle.record.specs.Record.{record_refusal, section_in, size_at}
use Rattle.record.specs.Filed.{filed, as_written, as_read, filed_refusal}
use Rattle.record.proofs.Alone.{record_stands}
use Rattle.record.proofs.Inverse.{filed_length, filed_stands, section_filed}
use Rattle.record.proofs.Places.{zero_past_count, width_none}
use Rattle.book.specs.Book.{count_of, start_of, book_refusal, asked_refusal, record_of}
use Rattle.book.specs.Good.{Shows}
use Rattle.book.proofs.Parts.{part_is, part_shows, place_inside}
use Rattle.writer.specs.Written.{book_in, write_refusal, book_after, layer_record, add_refusal, added_refusal, added_size, record_after}
use Rattle.writer.proofs.Layers.{layer_length, layer_reads}
use Rattle.class.specs.Class.{letter_of, class_refusal, class_of}
use Rattle.strength.specs.Strength.{mean_of, squares_of, series_a, series_g, strength_refusal, strength_of}
use Rattle.strength.proofs.Refused.{passes_all}
use Rattle.strength.proofs.Satisfied.{deviation_largest, a_least, g_least}
use Rattle.panel.specs.Answers as Given
use Rattle.panel.specs.Face.{book_answer, record_answer, write_answer, add_answer}
use Rattle.panel.specs.Face.{class_answer, strength_answer, row_of}
use Rattle.demands.specs.Every.{as_list, as_first}
use Rattle.demands.specs.Table.{First, asked_lines}
use Rattle.demands.specs.Demand2.{Between, LayerAdded, LawfulIs, ClassIs, PointIs, ListIs, FirstIs, PlaceIs}
use Rattle.demands.specs.Demand2.{ReadsAs, BookPut, LayerPut, RecordIs, StrengthIs, Demand2}
use Rattle.demands.proofs.Results.{if_ok, and_so, ok_exactly, added_ok}
use Rattle.demands.proofs.Shapes.{books, places, writings, classes, strengths, listings, gets, points, amounts, shown, grants, point_shown}
use Rattle.demands.proofs.Shapes.{imbalance_shown, moment_shown, shear_shown, first_shown, list_in, list_there}
use Rattle.demands.proofs.Table.{exactly, asked_first}

-- ---- each answer where it is not refused
bounds_are :
    (l : Law) (a : Axis) (from to : ℕ) {x : Range} → x ≡ bounds_of l a from to → from ≤ to → to ≤ 65535
    → Between (sum_z (to - from) (after from (strip_at l a))) x
bounds_are l a from to is h few = let b = bounds_hold l a from to h few in rw is (b.above, b.below)

small_size : {s : Section} → Accepted s → (t : Stress) → size_in (law_of s) t ≡ size t
unfolding size_in
small_size a t = rw (small_law a)

module _ (s : Section) where
  layer_is : (l : Layer) → layer_refusal s l ≡ 0 → LayerAdded s l (with_layer s l)
  layer_is l fits = (refl, layers_added s l, (layers_are (with_layer s l)).0 (added_right s l fits))

  pub lawful_is : (l : Lawful) → l.section ≡ s → LawfulIs s l
  lawful_is l same = (same, l.is ∙ ap law_of same, subst Accepted same l.accepted)

  point_is : (e : ℤ) → drawn_refusal s e ≡ 0 → PointIs s e (point_at (law_of s) e)
  point_is e none = (refl, point_near s e none)

  pub list_is :
      (before : List ℤ) {x : ListAnswer} {after : List ℤ} → x ≡ list_answer s (length before) → after ≡ row_after s before
      → x.refusal ≡ 0 → ListIs s before x after
  unfolding list_answer
  list_is before is left h =
      let none = sym (list_number s (length before) is) ∙ h in
      let ok = (grants listings (section_refusal s) _ is h).0 in
      (list_count s (length before) is ok, list_work s (length before) is ok, left ∙ row_written s before none)

  pub first_is : {x : FirstAnswer} → x ≡ first_answer s → x.refusal ≡ 0 → FirstIs s x
  first_is = of_first (λ x. x.refusal ≡ 0 → FirstIs s x) s (λ f h. absurd (f h)) (λ e h. absurd (omega arith)) (λ e h. refl)

module _ (s : List ℕ) (i : ℕ) where
  part_filed : First (asked_lines s i) 0 → Shows s i (record_of s i)
  part_filed f = part_shows s i ((exactly _ _ (asked_first s i) 0).1 f)

  place_is : asked_refusal s i ≡ 0 → PlaceIs s i (start_of s i) (size_at s (start_of s i))
  place_is none = (refl, refl, place_inside s i (answers none refl), rw (part_is s i none) at (part_shows s i none))

strength_is : (rs : List ℕ) → strength_refusal rs ≡ 0 → StrengthIs rs (strength_of rs).mean (strength_of rs).deviation (strength_of rs).value
unfolding mean_of squares_of strength_of
strength_is rs none =
    let p = passes_all rs none in
    record {
      mean_is = refl;
      deviation_is = deviation_largest p.0;
      a = series_a rs;
      a_is = a_least p.0;
      g = series_g rs;
      g_is = g_least p.0;
      value_is = omega (arith, p.1);
    }

-- ---- the list of a record that is handed over as bytes
pub list_of_is :
    (r : List ℕ) (before : List ℤ) {x : ListAnswer} {after : List ℤ} → x ≡ list_in r (length before) → after ≡ row_of r before
    → x.refusal ≡ 0 → ListIs (section_in r) before x after
unfolding row_of
list_of_is r before is left h =
    let g = grants listings (record_refusal r) _ is h in
    list_is (section_in r) before g.1 (rw g.0 at left) h

-- ---- a record in some bytes, that is read as a section
read_as : (r : List ℕ) {s : Section} → record_refusal r ≡ 0 → section_in r ≡ s → ReadsAs r s
read_as r ok is κs a y e p q = answered (rw q at p) ok ∙ ap Ok is

-- ---- and back
filed_is : (s : Section) → filed_refusal s ≡ 0 → RecordIs s (as_read s) (filed s)
filed_is s none =
    let few = (passes 11 0 (is_most s.count 8) none).0 in
    (filed_length s, λ held. read_as (filed s) ((record_stands (filed s)).1 (filed_stands s few)) (section_filed s few held))

module _ (r before : List ℕ) {after : List ℕ} where
  write_is : after ≡ book_after r before → write_refusal r (length before) ≡ 0 → BookPut r before (length (book_in r)) after
  unfolding book_after
  write_is left none = (refl, left ∙ rw none)

  add_is :
      (l : Layer) → after ≡ record_after r l before → added_refusal r l (length before) ≡ 0
      → LayerPut r l before (added_size r) after
  unfolding record_after added_refusal add_refusal
  add_is l left none =
      let s = section_in r in
      let put : after ≡ over (layer_record s l) before = left ∙ rw none in
      let there : take (added_size r) after ≡ layer_record s l = rw (put, ← (layer_length s l)) (over_front (layer_record s l) before) in
      let passes = none_of (record_refusal r) _ none in
      let fits = (none_of (layer_refusal s l) _ passes.1).0 in
      (refl, put, λ b. let reads = layer_reads r l b passes.0 fits in rw there (read_as (layer_record s l) reads.0 reads.1))

pub demand2 : Demand2
unfolding book_answer record_answer write_answer add_answer class_answer strength_answer section_in as_written letter_of class_of
demand2 = record {
  number_from = λ κs a x e p. p;
  not_added_from = λ κs a x e p. p;
  check = λ κs a x e p. Iff.trans (ok_exactly x) (rw p (accepted_exactly a.0));
  with_layer_call = λ κs a x e p. added_ok _ x (if_ok _ (layer_is a.0 _) p.answer);
  last_depth_call = λ κs a x e p. p;
  steel = λ κs a x e p. (p.0, p.1);
  law_of_call = λ κs a x e p. p.value;
  lawful_of = λ κs a x e p. and_so (λ l. l.section ≡ a.0) (LawfulIs a.0) (lawful_is a.0) x p.1;
  concrete_size = λ κs a x e p. p;
  bar_size = λ κs a x e p. p;
  sizes = λ s a t. small_size a t;
  piece_at_call = λ κs a x e p. p;
  draw = λ κs a x e p. if_ok _ (point_is a.0 a.1.0) p;
  strip = λ κs a x e p. p;
  bounds = λ κs a x e p. bounds_are a.0 a.1.0 a.1.1.0 a.1.1.1.0 p;
  axis_at_call = λ κs a x e p s ok is from to. axis_is ok is to p;
  bar = λ κs a x e p. p;
  imbalance_is = λ κs a x e p. p.value;
  moment_is = λ κs a x e p. p.value;
  depths = λ κs a x e p. list_is a.0 a.1.0.now p.0 p.1;
  first = λ κs a x e p. first_is a.0 p;
  kind_from = λ κs a x e p. p;
  unlisted_from = λ κs a x e p. p;
  refusal_from = λ κs a x e p. p;
  root = λ κs a x e p. p;
  shear = λ κs a x e p. p.value;
  square_root = square_root;
  cube_root = cube_root;
  axial_share_is = λ s a. axial_floor a;
  as_slice = λ κs a x e p. p;
  byte = λ κs a x e p. p;
  le32 = λ κs a x e p. p;
  layers_at_call = λ κs a x e p. p;
  size_at_call = λ κs a x e p. p.0;
  section_of = λ κs a x e p. if_ok _ (λ none. (refl, zero_past_count a.0.now, width_none a.0.now)) p;
  filed = λ κs a x e p. if_ok _ (filed_is a.0) p;
  record_of_call = λ κs a x e p. if_ok _ (filed_is (as_written a.0)) p;
  book = λ κs a x e p. p.value;
  record_place = λ κs a x e p. if_ok _ (place_is a.0.now a.1.0) p;
  record_part = λ κs a x e p. rw p (part_filed a.0.now a.1.0);
  write_book = λ κs a x e p. if_ok _ (write_is a.0.now a.1.0.now p.1) p.0;
  add_layer = λ κs a x e p. if_ok _ (add_is a.0.now a.1.1.1.0.now _ p.1) p.0;
  letter_from = λ κs a x e p. p;
  class = λ κs a x e p. if_ok _ (λ none. (refl, refl)) p;
  strength = λ κs a x e p. if_ok _ (strength_is a.0.now) p;
  book_from = λ κs a x e p. gets books Given.counted a.0 p;
  record_from = λ κs a x e p. gets places Given.found a.0 p;
  written_from = λ κs a x e p. gets writings Given.written a.0 p;
  class_from = λ κs a x e p. gets classes Given.classed a.0 p;
  strength_from = λ κs a x e p. gets strengths Given.measured a.0 p;
  drawn_from = λ κs a x e p. gets points Given.drawn a.0 p;
  amount_from = λ κs a x e p. gets amounts Given.answered a.0 p;
  listing_from = λ κs a x e p. ap as_list p;
  first_from = λ κs a x e p. ap as_first p;
  fw_book = λ κs a x e p. shown books (λ y. y.count ≡ count_of a.0.now) (book_refusal a.0.now) _ (λ none h. refl) p;
  fw_record = λ κs a x e p.
      shown places (λ y. PlaceIs a.0.now a.1.0 y.at y.len) (asked_refusal a.0.now a.1.0) _ (λ none h. place_is a.0.now a.1.0 none) p;
  fw_write_book = λ κs a x e p.
      shown writings (λ y. BookPut a.0.now a.1.0.now y.len e.1.0.now) (write_refusal a.0.now (length a.1.0.now)) _
      (λ none h. write_is a.0.now a.1.0.now p.1 none) p.0;
  fw_add_layer = λ κs a x e p.
      let l : Layer = record { depth = a.1.0; area = a.1.1.0 } in
      shown writings (λ y. LayerPut a.0.now l a.1.1.1.0.now y.len e.1.1.1.0.now) (added_refusal a.0.now l (length a.1.1.1.0.now)) _
      (λ none h. add_is a.0.now a.1.1.1.0.now l p.1 none) p.0;
  fw_class = λ κs a x e p. shown classes (λ y. ClassIs a.0 a.1.0 y.step y.letter) (class_refusal a.0 a.1.0) _ (λ none h. (refl, refl)) p;
  fw_strength = λ κs a x e p.
      shown strengths (λ y. StrengthIs a.0.now y.mean y.deviation y.value) (strength_refusal a.0.now) _ (λ none h. strength_is a.0.now none) p;
  fw_draw = λ κs a x e p. point_shown a.0.now a.1.0 (PointIs (section_in a.0.now) a.1.0) (point_is (section_in a.0.now) a.1.0) p;
  fw_imbalance = λ κs a x e p. imbalance_shown a.0.now a.1.0 (λ n. n ≡ imbalance (section_in a.0.now) a.1.0) (λ none. refl) p;
  fw_moment = λ κs a x e p. moment_shown a.0.now a.1.0 (λ n. n ≡ moment (section_in a.0.now) a.1.0) (λ none. refl) p;
  fw_depths = λ κs a x e p. list_of_is a.0.now a.1.0.now (list_there a.0.now _ p.0) p.1;
  fw_first = λ κs a x e p. first_shown a.0.now (FirstIs (section_in a.0.now)) (first_is (section_in a.0.now) refl) p;
  fw_shear = λ κs a x e p. shear_shown a.0.now (λ n. n ≡ pos (resistance (section_in a.0.now))) (λ none. refl) p;
}
