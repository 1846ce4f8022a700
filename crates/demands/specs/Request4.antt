-- Document 02 [4], ribbed floors: what it promises to keep. It is said of two calls, of a section and of the same section as a rectangle, and of what
-- document 01 answers, written out here with the width b at every strip.
use Rattle.std.specs.Prelude.{ℕ, ◌+◌, ◌*◌, ◌-◌, ◌/◌, ◌<◌, min, max, ◌≡◌, List, [], ◌∷◌, ℤ, pos, ◌+ℤ◌, ◌-ℤ◌, ◌*ℤ◌, length, replicate, Result, IfOk}
use Rattle.std.specs.Result.{result_map_both}
use Rattle.arith.specs.Sums.{sum_z}
use Rattle.arith.specs.Floor.{floor_div}
use Rattle.refusal.specs.declared.Refusal.{Refusal}
use Rattle.refusal.specs.Refusal.{number_of}
use Rattle.section.specs.declared.Section.{Section}
use Rattle.section.specs.declared.NotAdded.{NotAdded}
use Rattle.section.specs.Section.{no_layer}
use Rattle.section.specs.Accepted.{ConcreteIn, SizesIn, SteelIn, FibresIn, LoadIn, BarsIn, StirrupsIn}
use Rattle.section.specs.Has.{concrete_area, steel_area, load_of, last_depth}
use Rattle.law.specs.declared.Law.{Law}
use Rattle.law.specs.declared.Lawful.{Lawful}
use Rattle.law.specs.Law.{law_of}
use Rattle.law.specs.Stress.{rounded}
use Rattle.forces.specs.Forces.{strip_stress, bar_force, bar_moment}
use Rattle.depths.specs.Depths.{Entry, entry_of, kind_of, list_to, written}
use Rattle.depths.specs.Answers.{ListAnswer, FirstAnswer, first_of_list}
use Rattle.shear.specs.Shear.{k_of, c_of, at_least_zero, kf_of, stirrups, struts}
use Rattle.record.specs.Record.{section_in}
use Rattle.record.specs.Filed.{filed}
use Rattle.record.specs.Alone.{StandsAlone}
use Rattle.demands.specs.Every as Every
use Rattle.demands.specs.Table.{Line, ◌unless◌}
use Rattle.demands.specs.Demand1.{ByTable}

-- ---- the same section without a flange
abbrev pub rectangle : Section → Section
rectangle s = record {
  b = s.b;
  h = s.h;
  hf = 0;
  bf = 0;
  fck = s.fck;
  fyk = s.fyk;
  feq2 = s.feq2;
  feq3 = s.feq3;
  load = s.load;
  asw = s.asw;
  spacing = s.spacing;
  count = s.count;
  layers = s.layers;
}

-- it has none, whatever bf is; or it has one that is no wider than its web
abbrev pub Flat : Section → Type 0
Flat s = s.hf ≡ 0

abbrev pub Level : Section → Type 0
Level s = (s.bf ≡ s.b) × (s.hf < s.h)

-- the answer is that of the rectangle: of a call that takes a section, and of one that takes a number too
abbrev pub Alike : {X : Type 0} → ((Section → X → Type 0) → Type 0) → (Section → Type 0) → Type 0
Alike every is = every (λ s x. is s → every (λ t y. t ≡ rectangle s → x ≡ y))

abbrev pub AlikeAt : {D X : Type 0} → ((Section → D → X → Type 0) → Type 0) → (Section → Type 0) → Type 0
AlikeAt every is = every (λ s d x. is s → every (λ t e y. t ≡ rectangle s → e ≡ d → x ≡ y))

-- of a layer that is not added: the section that comes back is one
abbrev pub flat_back : NotAdded → NotAdded
flat_back e = record { refusal = e.refusal; section = rectangle e.section }

-- of a law that has its section with it: refused alike, and the law is
abbrev pub its_law : Result Lawful Refusal → Result Law Refusal
its_law x = result_map_both (λ l. l.law) (λ e. e) x

abbrev pub AlikeLaw : (Section → Type 0) → Type 0
AlikeLaw is = Every.lawful_of (λ s x. is s → Every.lawful_of (λ t y. t ≡ rectangle s → its_law x ≡ its_law y))

-- of the list, with the row that it leaves; and by the C face, of two records that are read as such sections
abbrev pub AlikeList : (Section → Type 0) → Type 0
AlikeList is = Every.depths (λ s before x after. is s → Every.depths (λ t row y left. t ≡ rectangle s → row ≡ before → (x ≡ y) × (after ≡ left)))

pub record Two (is : Section → Type 0) (r q : List ℕ) : Type 0 where
  pub rib : StandsAlone r
  pub other : StandsAlone q
  pub what : is (section_in r)
  pub same : section_in q ≡ rectangle (section_in r)

abbrev pub FaceAlikeAt : {D X : Type 0} → ((List ℕ → D → X → Type 0) → Type 0) → (Section → Type 0) → Type 0
FaceAlikeAt every is = every (λ r d x. every (λ q e y. Two is r q → e ≡ d → x ≡ y))

-- ---- document 01's sums, list and shear: the width is b at every strip, the area b h, and no flange helps the fibres
abbrev pub plain_imbalance : Section → ℕ → ℤ
plain_imbalance s x = (sum_z s.h (λ i. pos s.b *ℤ rounded (strip_stress (law_of s) s x i)) +ℤ sum_z s.count (bar_force (law_of s) s x)) -ℤ load_of s

abbrev pub plain_moment : Section → ℕ → ℤ
plain_moment s x =
    sum_z s.h (λ i. (pos s.h -ℤ pos (2 * i + 1)) *ℤ (pos s.b *ℤ rounded (strip_stress (law_of s) s x i)))
    +ℤ sum_z s.count (bar_moment (law_of s) s x)

abbrev pub plain_list : Section → List Entry
plain_list s = list_to (kind_of (plain_imbalance s) (last_depth s)) (plain_moment s) (last_depth s)

abbrev pub plain_shear : Section → ℕ
plain_shear s =
    let d = (law_of s).d in
    let bd = s.b * d in
    let axial = floor_div (pos 15 *ℤ load_of s) (100 * (s.b * s.h)) in
    let concrete = at_least_zero (pos (12 * k_of d * c_of bd (steel_area s) s.fck / 100000) +ℤ axial) in
    let fibres = 12 * s.feq3 / 100 * max 1000 (1600 - d) / 1000 in
    min ((concrete + fibres) * bd + stirrups s.asw d (law_of s).fyd s.spacing) (struts s.fck bd)

-- and its refusals, without 20
abbrev pub plain_lines : Section → List Line
plain_lines s =
    (7 unless ConcreteIn s)
    ∷ (8 unless SizesIn s)
    ∷ (9 unless SteelIn s)
    ∷ (10 unless FibresIn s)
    ∷ (11 unless LoadIn s)
    ∷ (12 unless BarsIn s)
    ∷ (13 unless StirrupsIn s)
    ∷ []

abbrev pub ListBefore : Section → List ℤ → ListAnswer → List ℤ → Type 0
ListBefore s before x after = (x.count ≡ length (plain_list s)) × (after ≡ written (plain_list s) before)

abbrev pub FirstBefore : Section → FirstAnswer → Type 0
FirstBefore s x = x ≡ first_of_list s (entry_of (plain_list s) 0)

-- ---- the request's rib: its record, area 128000, and kf 1266 at its d of 360
abbrev pub rib : Section
rib = record {
  b = 200;
  h = 400;
  hf = 80;
  bf = 800;
  fck = 30;
  fyk = 500;
  feq2 = 2000;
  feq3 = 2000;
  load = pos 100000;
  asw = 0;
  spacing = 0;
  count = 1;
  layers = record { depth = 360; area = 1000 } ∷ replicate 7 no_layer;
}

abbrev pub rib_record : List ℕ
rib_record =
    200 ∷ 0 ∷ 144 ∷ 1 ∷ 30 ∷ 0 ∷ 244 ∷ 1 ∷ 208 ∷ 7 ∷ 208 ∷ 7
    ∷ 160 ∷ 134 ∷ 1 ∷ 0 ∷ 0 ∷ 0 ∷ 0 ∷ 0 ∷ 1 ∷ 0 ∷ 80 ∷ 0
    ∷ 104 ∷ 1 ∷ 232 ∷ 3
    ∷ 32 ∷ 3 ∷ 0 ∷ 0
    ∷ []

abbrev pub RibFigures : Type 0
RibFigures = (filed rib ≡ rib_record) × (concrete_area rib ≡ 128000) × ((law_of rib).d ≡ 360) × (kf_of 360 rib ≡ 1266)

pub record Request4 : Type 0 where
  -- hf 0: bf is ignored by every call that takes a section. What is filed has none; to a section with a layer added it is still handed on
  pub check : Alike Every.check Flat
  pub with_layer_call :
      Every.with_layer_call
      (λ s depth area x. Flat s →
      Every.with_layer_call (λ t d a y. t ≡ rectangle s → d ≡ depth → a ≡ area → result_map_both rectangle flat_back x ≡ y))
  pub last_depth_call : Alike Every.last_depth_call Flat
  pub steel : Alike Every.steel Flat
  pub law_of_call : Alike Every.law_of_call Flat
  pub lawful_of : AlikeLaw Flat
  pub draw : AlikeAt Every.draw Flat
  pub imbalance : AlikeAt Every.imbalance Flat
  pub moment : AlikeAt Every.moment Flat
  pub depths : AlikeList Flat
  pub first : Alike Every.first Flat
  pub shear : Alike Every.shear Flat
  pub filed : Alike Every.filed Flat
  pub record_of_call : Alike Every.record_of_call Flat
  -- and the answers are document 01's: the refusal, and where nothing is refused imbalance, moment, list, its first and shear, by the C face too
  pub refusal_before : Every.check (λ s x. Flat s → ByTable (plain_lines s) (number_of x))
  pub imbalance_before : Every.imbalance (λ s d x. Flat s → IfOk x (λ n. n ≡ plain_imbalance s d))
  pub moment_before : Every.moment (λ s d x. Flat s → IfOk x (λ n. n ≡ plain_moment s d))
  pub depths_before : Every.depths (λ s before x after. Flat s → x.refusal ≡ 0 → ListBefore s before x after)
  pub first_before : Every.first (λ s x. Flat s → x.refusal ≡ 0 → FirstBefore s x)
  pub shear_before : Every.shear (λ s x. Flat s → IfOk x (λ n. n ≡ pos (plain_shear s)))
  pub fw_imbalance_before : Every.fw_imbalance (λ r d x. Flat (section_in r) → x.refusal ≡ 0 → x.amount ≡ plain_imbalance (section_in r) d)
  pub fw_moment_before : Every.fw_moment (λ r d x. Flat (section_in r) → x.refusal ≡ 0 → x.amount ≡ plain_moment (section_in r) d)
  pub fw_depths_before : Every.fw_depths (λ r before x after. Flat (section_in r) → x.refusal ≡ 0 → ListBefore (section_in r) before x after)
  pub fw_first_before : Every.fw_first (λ r x. Flat (section_in r) → x.refusal ≡ 0 → FirstBefore (section_in r) x)
  pub fw_shear_before : Every.fw_shear (λ r x. Flat (section_in r) → x.refusal ≡ 0 → x.amount ≡ pos (plain_shear (section_in r)))
  -- bf = b: a rib answers as the rectangle does
  pub level_check : Alike Every.check Level
  pub level_law_of : Alike Every.law_of_call Level
  pub level_lawful_of : AlikeLaw Level
  pub level_draw : AlikeAt Every.draw Level
  pub level_imbalance : AlikeAt Every.imbalance Level
  pub level_moment : AlikeAt Every.moment Level
  pub level_depths : AlikeList Level
  pub level_first : Alike Every.first Level
  pub level_shear : Alike Every.shear Level
  -- and by the C face
  pub fw_draw : FaceAlikeAt Every.fw_draw Level
  pub fw_imbalance : FaceAlikeAt Every.fw_imbalance Level
  pub fw_moment : FaceAlikeAt Every.fw_moment Level
  pub fw_depths :
      Every.fw_depths (λ r before x after. Every.fw_depths (λ q row y left. Two Level r q → row ≡ before → (x ≡ y) × (after ≡ left)))
  pub fw_first : Every.fw_first (λ r x. Every.fw_first (λ q y. Two Level r q → x ≡ y))
  pub fw_shear : Every.fw_shear (λ r x. Every.fw_shear (λ q y. Two Level r q → x ≡ y))
  pub figures : RibFigures
