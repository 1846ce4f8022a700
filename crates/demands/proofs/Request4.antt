-- Document 02 [4]: what it promises, by what each contract tells. Assumes nothing.
use Prim.Native.Nat.{ℕ}
use mathlib.Core.Path.{◌≡◌, refl, sym, ap, ◌∙◌}
use mathlib.Core.Bool.{cond}
use mathlib.Core.List.{List, [], ◌∷◌}
use native.Mathlib.Omega.{arith}
use lib.Dec.{eqb}
use lib.IntN.{ℤ, pos}
use lib.ListN.{length}
use Rattle.std.specs.Prelude.{Result, Ok, Err, IfOk, IfErr}
use Rattle.std.specs.Result.{result_map_both}
use Rattle.arith.specs.Answers.{unless_refused}
use Rattle.arith.specs.Joined.{joined}
use Rattle.arith.specs.Sums.{sum_n}
use Rattle.arith.proofs.Tests.{is_most}
use Rattle.arith.proofs.Lines.{passes}
use Rattle.refusal.specs.declared.Refusal.{Refusal}
use Rattle.refusal.specs.Refusal.{number_of, Answers}
use Rattle.section.specs.declared.Section.{Section}
use Rattle.section.specs.declared.Steel.{Steel}
use Rattle.section.specs.Refusal.{section_refusal}
use Rattle.section.specs.Has.{concrete_area, steel_area, steel_moment, last_depth}
use Rattle.section.specs.declared.Layer.{Layer}
use Rattle.section.specs.declared.NotAdded.{NotAdded}
use Rattle.section.specs.Added.{layer_refusal, with_layer, by_refusal, Adds}
use Rattle.section.specs.Accepted.{ConcreteIn, SizesIn, FlangeIn}
use Rattle.law.specs.declared.Law.{Law}
use Rattle.law.specs.declared.Lawful.{Lawful}
use Rattle.law.specs.Law.{effective_depth, law_by, law_of}
use Rattle.drawn.specs.declared.Point.{Point}
use Rattle.drawn.specs.Drawn.{point_at, drawn_refusal}
use Rattle.forces.specs.Forces.{imbalance, moment}
use Rattle.forces.specs.Answers.{grid_refusal}
use Rattle.depths.specs.Depths.{entry_of, written}
use Rattle.depths.specs.Answers.{ListAnswer, FirstAnswer, told, list_answer, row_after, first_of_list, first_answer}
use Rattle.shear.specs.Shear.{kf_of, resistance, shear_refusal}
use Rattle.record.specs.Record.{flange_size, record_refusal, section_in}
use Rattle.record.specs.Alone.{StandsAlone}
use Rattle.record.specs.Filed.{unsigned32, places_of, filed, as_written, filed_refusal}
use Rattle.record.proofs.Alone.{record_stands}
use Rattle.panel.specs.declared.answers.Drawn.{Drawn}
use Rattle.panel.specs.declared.answers.Amount.{Amount}
use Rattle.panel.specs.Answers.{drawn, no_drawn, answered, no_amount}
use Rattle.panel.specs.Face.{drawn_answer, amount_answer, shear_answer}
use Rattle.panel.specs.Face.{drawn_of, imbalance_of, moment_of, row_of, shear_of}
use Rattle.demands.specs.Every.{as_list}
use Rattle.demands.specs.Table.{◌unless◌}
use Rattle.demands.specs.Demand1.{ByTable}
use Rattle.demands.specs.Demand2.{ListIs}
use Rattle.demands.specs.Request4.{plain_lines, Flat, rectangle, flat_back, its_law, Level, Two, plain_imbalance, plain_moment, plain_shear}
use Rattle.demands.specs.Request4.{ListBefore, FirstBefore, rib, rib_record, Request4}
use Rattle.demands.proofs.Demand2.{list_is, first_is, list_of_is}
use Rattle.demands.proofs.Results as Results
use Rattle.demands.proofs.Results.{value_is, made, by_number, one_added}
use Rattle.demands.proofs.Shapes.{imbalance_shown, moment_shown, shear_shown, first_shown, list_in, list_there, first_in, first_there}
use Rattle.demands.proofs.Table.{exactly, without_line, section_first}
use Rattle.demands.proofs.Plain.{Plain, flat_plain, level_plain, imbalance_plain, moment_plain, list_plain, shear_plain}
use Rattle.demands.proofs.Plain.{same_law, imbalance_same, moment_same, shear_same, drawn_alike, grid_alike, shear_alike}
use Rattle.demands.proofs.Plain.{first_alike, list_alike, row_alike, as_filed, taken_alike, added_alike}

-- ---- two answers
alike : {X : Type 0} (f : Section → X) {s t : Section} {x y : X} → f s ≡ f (rectangle s) → t ≡ rectangle s → x ≡ f s → y ≡ f t → x ≡ y
alike f same e is js = is ∙ same ∙ ap f (sym e) ∙ sym js

alike_at :
    {D X : Type 0} (f : Section → D → X) {s t : Section} {d e : D} {x y : X}
    → f s d ≡ f (rectangle s) d → t ≡ rectangle s → e ≡ d → x ≡ f s d → y ≡ f t e → x ≡ y
alike_at f same p q is js = is ∙ same ∙ (λ j. f (sym p j) (sym q j)) ∙ sym js

-- of a Result, by what it is refused by and by what it answers
both_alike :
    {X : Type 0} (f : Section → ℕ) (g : Section → X) {s t : Section} {x y : Result X Refusal}
    → f s ≡ f (rectangle s) → g s ≡ g (rectangle s) → t ≡ rectangle s → Answers (f s) (g s) x → Answers (f t) (g t) y → x ≡ y
both_alike f g refusal value e a b = Results.alike (refusal ∙ ap f (sym e)) (λ none. value ∙ ap g (sym e)) a b

both_alike_at :
    {D X : Type 0} (f : Section → D → ℕ) (g : Section → D → X) {s t : Section} {d e : D} {x y : Result X Refusal}
    → f s d ≡ f (rectangle s) d → g s d ≡ g (rectangle s) d → t ≡ rectangle s → e ≡ d → Answers (f s d) (g s d) x → Answers (f t e) (g t e) y → x ≡ y
both_alike_at f g refusal value p q a b = Results.alike (refusal ∙ (λ j. f (sym p j) (sym q j))) (λ none. value ∙ (λ j. g (sym p j) (sym q j))) a b

steel_alike :
    (s : Section) {t : Section} {x y : Steel} → t ≡ rectangle s
    → x.area ≡ steel_area s → x.moment ≡ steel_moment s → y.area ≡ steel_area t → y.moment ≡ steel_moment t → x ≡ y
unfolding steel_area steel_moment
steel_alike s r a m b n = λ j. record { area = alike steel_area {s = s} refl r a b j; moment = alike steel_moment {s = s} refl r m n j }

by_flat :
    (x : Result Section NotAdded)
    → by_refusal (result_map_both rectangle flat_back x) ≡ result_map_both rectangle (λ e. e) (by_refusal x)
by_flat (Ok u) = refl
by_flat (Err e) = refl

back_flat :
    (s t : Section) (x : Result Section NotAdded) → t ≡ rectangle s → IfErr x (λ e. e.section ≡ s)
    → IfErr (result_map_both rectangle flat_back x) (λ e. e.section ≡ t)
back_flat s t (Ok u) r p = tt
back_flat s t (Err e) r p = ap rectangle p ∙ sym r

added :
    (s : Section) {t : Section} {d e a b : ℕ} {x y : Result Section NotAdded} → t ≡ rectangle s → e ≡ d → b ≡ a
    → Adds s (record { depth = d; area = a }) x → Adds t (record { depth = e; area = b }) y → result_map_both rectangle flat_back x ≡ y
added s {t} {d = d} {a = a} {x = x} {y = y} r p q is js =
    let l : Layer = record { depth = d; area = a } in
    let layer : (j : 𝕀) → Layer = λ j. record { depth = sym p j; area = sym q j } in
    let refused = taken_alike s l ∙ (λ j. layer_refusal (sym r j) (layer j)) in
    let there = added_alike s l ∙ (λ j. with_layer (sym r j) (layer j)) in
    let same = Results.alike refused (λ none. there) (made rectangle is.answer) js.answer in
    one_added t _ y (by_flat x ∙ same) (back_flat s t x r is.back) js.back

-- what is filed: refused alike, and else the same bytes
filed_alike :
    (s : Section) → Flat s → {t : Section} {x y : Result (List ℕ) Refusal} → t ≡ rectangle s
    → Answers (filed_refusal s) (filed s) x → Answers (filed_refusal t) (filed t) y → x ≡ y
filed_alike s flat r is js =
    let few = λ (none : filed_refusal s ≡ 0). (passes 11 0 (is_most s.count 8) none).0 in
    Results.alike (ap filed_refusal (sym r)) (λ none. as_filed s flat (few none) ∙ ap filed (sym r)) is js

-- ---- as before
module _ {s : Section} (p : Plain s) where
  list_before : (before : List ℤ) (x : ListAnswer) {after : List ℤ} → ListIs s before x after → ListBefore s before x after
  list_before before x is = let same = list_plain p in (is.0 ∙ ap length same, is.2 ∙ ap (λ es. written es before) same)

  first_before : {x : FirstAnswer} → x ≡ first_answer s → x.refusal ≡ 0 → FirstBefore s x
  first_before is h = first_is s is h ∙ ap (λ es. first_of_list s (entry_of es 0)) (list_plain p)

-- ---- a record that is read
of_read : {X : Type 0} (r : List ℕ) (y z : X) {x : X} → StandsAlone r → x ≡ cond (eqb (record_refusal r) 0) y z → x ≡ y
of_read r y z alone is = rw ((record_stands r).1 alone) at is

-- ---- the request's rib
rib_record_is : filed rib ≡ rib_record
unfolding filed places_of joined flange_size unsigned32
rib_record_is = refl

rib_area : concrete_area rib ≡ 128000
unfolding sum_n
rib_area = refl

rib_depth : (law_of rib).d ≡ 360
unfolding law_by effective_depth steel_area steel_moment sum_n
rib_depth = refl

rib_kf : kf_of 360 rib ≡ 1266
unfolding kf_of
rib_kf = refl

module _ {s : Section} (p : Plain s) {t : Section} (e : t ≡ rectangle s) {before row : List ℤ} (r : row ≡ before) where
  lists_alike :
      {x y : ListAnswer} {after left : List ℤ} → (x ≡ list_answer s (length before)) × (after ≡ row_after s before)
      → (y ≡ list_answer t (length row)) × (left ≡ row_after t row)
      → (x ≡ y) × (after ≡ left)
  lists_alike a b = (
    alike_at list_answer (list_alike p (length before)) e (ap length r) a.0 b.0,
    alike_at row_after (row_alike p before) e r a.1 b.1,
  )

-- what is answered of a section whose flange adds nothing, and of the rectangle
module _ {s : Section} (p : Plain s) {t : Section} (r : t ≡ rectangle s) where
  checked : {x y : Result Unit Refusal} → number_of x ≡ section_refusal s → number_of y ≡ section_refusal t → x ≡ y
  checked {x} {y} a b = both_alike section_refusal (λ s. tt) p.right refl r (by_number x a) (by_number y b)

  law_both : {x y : Result Law Refusal} → Answers (section_refusal s) (law_of s) x → Answers (section_refusal t) (law_of t) y → x ≡ y
  law_both = both_alike section_refusal law_of p.right (same_law s) r

  -- of one that has its section with it
  law_in :
      (v : Section) (x : Result Lawful Refusal) → number_of x ≡ section_refusal v → IfOk x (λ l. l.section ≡ v)
      → Answers (section_refusal v) (law_of v) (its_law x)
  law_in v (Ok l) n same = record { number = n; value = l.is ∙ ap law_of same }
  law_in v (Err e) n same = record { number = n; value = tt }

  lawful_both :
      (x y : Result Lawful Refusal) → number_of x ≡ section_refusal s → IfOk x (λ l. l.section ≡ s)
      → number_of y ≡ section_refusal t → IfOk y (λ l. l.section ≡ t) → its_law x ≡ its_law y
  lawful_both x y n a m b = law_both (law_in s x n a) (law_in t y m b)

  draw_both :
      {e d : ℤ} {x y : Result Point Refusal} → d ≡ e → Answers (drawn_refusal s e) (point_at (law_of s) e) x
      → Answers (drawn_refusal t d) (point_at (law_of t) d) y → x ≡ y
  draw_both {e} = both_alike_at drawn_refusal (λ s e. point_at (law_of s) e) (drawn_alike p e) (ap (λ l. point_at l e) (same_law s)) r

  imbalance_both :
      {e d : ℕ} {x y : Result ℤ Refusal} → d ≡ e → Answers (grid_refusal s e) (imbalance s e) x → Answers (grid_refusal t d) (imbalance t d) y → x ≡ y
  imbalance_both {e} = both_alike_at grid_refusal imbalance (grid_alike p e) (imbalance_same p e) r

  moment_both :
      {e d : ℕ} {x y : Result ℤ Refusal} → d ≡ e → Answers (grid_refusal s e) (moment s e) x → Answers (grid_refusal t d) (moment t d) y → x ≡ y
  moment_both {e} = both_alike_at grid_refusal moment (grid_alike p e) (moment_same p e) r

  shear_both :
      {x y : Result ℤ Refusal} → Answers (shear_refusal s) (pos (resistance s)) x → Answers (shear_refusal t) (pos (resistance t)) y → x ≡ y
  shear_both = both_alike shear_refusal (λ s. pos (resistance s)) (shear_alike p) (ap pos (shear_same p)) r

-- 20 does not hold
refusal_before : (s : Section) → Flat s → ByTable (plain_lines s) (section_refusal s)
refusal_before s e =
    let first = without_line ((7 unless ConcreteIn s) ∷ (8 unless SizesIn s) ∷ []) _ (20 unless FlangeIn s) (section_refusal s)
    (λ some. absurd (omega arith)) (section_first s) in
    exactly (plain_lines s) (section_refusal s) first

-- ---- by the C face
module _ {r q : List ℕ} (two : Two Level r q) where
  abbrev plain : Plain (section_in r)
  plain = level_plain two.what

  -- what is answered of a section, by what it is refused by and by what it answers
  drawn_same : (e : ℤ) → drawn_answer (section_in r) e ≡ drawn_answer (rectangle (section_in r)) e
  drawn_same e = λ j. unless_refused (drawn_alike plain e j) (drawn (point_at (same_law (section_in r) j) e)) no_drawn

  amount_same : (d : ℕ) {z v : ℤ} → z ≡ v → amount_answer (section_in r) d z ≡ amount_answer (rectangle (section_in r)) d v
  amount_same d e = λ j. unless_refused (grid_alike plain d j) (answered (e j)) no_amount

  shears_same : shear_answer (section_in r) ≡ shear_answer (rectangle (section_in r))
  shears_same = λ j. unless_refused (shear_alike plain j) (answered (pos (shear_same plain j))) no_amount

  face_draw : {d e : ℤ} {x y : Drawn} → e ≡ d → x ≡ drawn_of r d → y ≡ drawn_of q e → x ≡ y
  unfolding drawn_of
  face_draw {d} k is js = alike_at drawn_answer (drawn_same d) two.same k (of_read r _ _ two.rib is) (of_read q _ _ two.other js)

  face_imbalance : {d e : ℕ} {x y : Amount} → e ≡ d → x ≡ imbalance_of r d → y ≡ imbalance_of q e → x ≡ y
  unfolding imbalance_of
  face_imbalance {d} k is js =
      alike_at (λ s d. amount_answer s d (imbalance s d)) (amount_same d (imbalance_same plain d)) two.same k
      (of_read r _ _ two.rib is) (of_read q _ _ two.other js)

  face_moment : {d e : ℕ} {x y : Amount} → e ≡ d → x ≡ moment_of r d → y ≡ moment_of q e → x ≡ y
  unfolding moment_of
  face_moment {d} k is js =
      alike_at (λ s d. amount_answer s d (moment s d)) (amount_same d (moment_same plain d)) two.same k
      (of_read r _ _ two.rib is) (of_read q _ _ two.other js)

  face_first : {x y : FirstAnswer} → x ≡ first_in r → y ≡ first_in q → x ≡ y
  face_first is js = alike first_answer (first_alike plain) two.same (of_read r _ _ two.rib is) (of_read q _ _ two.other js)

  face_shear : {x y : Amount} → x ≡ shear_of r → y ≡ shear_of q → x ≡ y
  unfolding shear_of
  face_shear is js = alike shear_answer shears_same two.same (of_read r _ _ two.rib is) (of_read q _ _ two.other js)

  face_lists :
      {before row : List ℤ} {x y : ListAnswer} {after left : List ℤ} → row ≡ before
      → (x ≡ list_in r (length before)) × (after ≡ row_of r before) → (y ≡ list_in q (length row)) × (left ≡ row_of q row)
      → (x ≡ y) × (after ≡ left)
  unfolding row_of
  face_lists k a b =
      lists_alike plain two.same k
      (of_read r _ _ two.rib a.0, of_read r _ _ two.rib a.1) (of_read q _ _ two.other b.0, of_read q _ _ two.other b.1)

pub request4 : Request4
unfolding as_written
request4 = record {
  check = λ κs a x e p f κ b y g q r. checked (flat_plain f) r p q;
  with_layer_call = λ κs a x e p f κ b y g q r d w. added a.0 r d w p q;
  last_depth_call = λ κs a x e p f κ b y g q r. alike last_depth {s = a.0} refl r p q;
  steel = λ κs a x e p f κ b y g q r. steel_alike a.0 r p.0 p.1 q.0 q.1;
  law_of_call = λ κs a x e p f κ b y g q r. law_both (flat_plain f) r p q;
  lawful_of = λ κs a x e p f κ b y g q r. lawful_both (flat_plain f) r x y p.0 p.1 q.0 q.1;
  draw = λ κs a x e p f κ b y g q r d. draw_both (flat_plain f) r d p q;
  imbalance = λ κs a x e p f κ b y g q r d. imbalance_both (flat_plain f) r d p q;
  moment = λ κs a x e p f κ b y g q r d. moment_both (flat_plain f) r d p q;
  depths = λ κs a x e p f κ b y g q r d. lists_alike (flat_plain f) r d p q;
  first = λ κs a x e p f κ b y g q r. alike first_answer (first_alike (flat_plain f)) r p q;
  shear = λ κs a x e p f κ b y g q r. shear_both (flat_plain f) r p q;
  filed = λ κs a x e p f κ b y g q r. filed_alike a.0 f r p q;
  record_of_call = λ κs a x e p f κ b y g q r. filed_alike (as_written a.0) f (ap as_written r) p q;
  refusal_before = λ κs a x e p f. rw p (refusal_before a.0 f);
  imbalance_before = λ κs a x e p f. value_is (imbalance_plain (flat_plain f) a.1.0) p;
  moment_before = λ κs a x e p f. value_is (moment_plain (flat_plain f) a.1.0) p;
  depths_before = λ κs a x e p f h. list_before (flat_plain f) a.1.0.now (told x) (list_is a.0 a.1.0.now p.0 p.1 h);
  first_before = λ κs a x e p f h. first_before (flat_plain f) p h;
  shear_before = λ κs a x e p f. value_is (ap pos (shear_plain (flat_plain f))) p;
  level_check = λ κs a x e p f κ b y g q r. checked (level_plain f) r p q;
  level_law_of = λ κs a x e p f κ b y g q r. law_both (level_plain f) r p q;
  level_lawful_of = λ κs a x e p f κ b y g q r. lawful_both (level_plain f) r x y p.0 p.1 q.0 q.1;
  level_draw = λ κs a x e p f κ b y g q r d. draw_both (level_plain f) r d p q;
  level_imbalance = λ κs a x e p f κ b y g q r d. imbalance_both (level_plain f) r d p q;
  level_moment = λ κs a x e p f κ b y g q r d. moment_both (level_plain f) r d p q;
  level_depths = λ κs a x e p f κ b y g q r d. lists_alike (level_plain f) r d p q;
  level_first = λ κs a x e p f κ b y g q r. alike first_answer (first_alike (level_plain f)) r p q;
  level_shear = λ κs a x e p f κ b y g q r. shear_both (level_plain f) r p q;
  fw_draw = λ κs a x e p κ b y g q two d. face_draw two d p q;
  fw_imbalance = λ κs a x e p κ b y g q two d. face_imbalance two d p q;
  fw_moment = λ κs a x e p κ b y g q two d. face_moment two d p q;
  fw_depths = λ κs a x e p κ b y g q two d. face_lists two d (list_there a.0.now _ p.0, p.1) (list_there b.0.now _ q.0, q.1);
  fw_first = λ κs a x e p κ b y g q two. face_first two (first_there a.0.now p) (first_there b.0.now q);
  fw_shear = λ κs a x e p κ b y g q two. face_shear two p q;
  fw_imbalance_before = λ κs a x e p f.
      imbalance_shown a.0.now a.1.0 (λ n. n ≡ plain_imbalance (section_in a.0.now) a.1.0) (λ none. imbalance_plain (flat_plain f) a.1.0) p;
  fw_moment_before = λ κs a x e p f.
      moment_shown a.0.now a.1.0 (λ n. n ≡ plain_moment (section_in a.0.now) a.1.0) (λ none. moment_plain (flat_plain f) a.1.0) p;
  fw_depths_before = λ κs a x e p f h.
      list_before (flat_plain f) a.1.0.now (as_list x) (list_of_is a.0.now a.1.0.now (list_there a.0.now _ p.0) p.1 h);
  fw_first_before = λ κs a x e p f. first_shown a.0.now (FirstBefore (section_in a.0.now)) (first_before (flat_plain f) refl) p;
  fw_shear_before = λ κs a x e p f.
      shear_shown a.0.now (λ n. n ≡ pos (plain_shear (section_in a.0.now))) (λ none. ap pos (shear_plain (flat_plain f))) p;
  figures = (rib_record_is, rib_area, rib_depth, rib_kf);
}
