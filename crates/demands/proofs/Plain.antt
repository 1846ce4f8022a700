-- Sections whose flange adds nothing answer as rectangles do, and as document 01 says. Assumes nothing.
use Prim.Native.Nat.{ℕ, ◌+◌, ◌*◌, ◌-◌, ◌/◌, ◌≤◌, min, max}
use mathlib.Core.Path.{◌≡◌, refl, sym, ap, ◌∙◌}
use mathlib.Core.Bool.{Bool, true, false, cond, ◌&&◌}
use mathlib.Core.List.{List}
use mathlib.Core.Logic.{⊎_elim}
use native.Mathlib.Omega.{arith}
use lib.Dec.{ltb, leb, eqb}
use lib.IntN.{ℤ, pos, ◌+ℤ◌, ◌-ℤ◌, ◌*ℤ◌}
use lib.ListN.{length}
use borrow.Author.Tests.{eq-eqb}
use Rattle.arith.specs.Answers.{unless_refused}
use Rattle.arith.specs.Sums.{sum_z}
use Rattle.arith.specs.Floor.{floor_div}
use Rattle.arith.specs.Lines.{line, first_of, within}
use Rattle.arith.proofs.Tests.{less_or_not}
use Rattle.arith.proofs.Sums.{sum_same, sum_alike}
use Rattle.section.specs.declared.Section.{Section}
use Rattle.section.specs.declared.Layer.{Layer}
use Rattle.section.specs.Section.{layers_right}
use Rattle.section.specs.Refusal.{in_table, flange_right, mid_right, section_refusal}
use Rattle.section.specs.Has.{width_at, concrete_area, steel_area, steel_moment, load_of}
use Rattle.section.specs.Added.{layer_refusal, with_layer}
use Rattle.section.specs.Accepted.{SizesIn, FlangeIn}
use Rattle.section.proofs.Accepted.{sizes_are, flange_is}
use Rattle.section.proofs.Widths.{web_width, flange_width_is}
use Rattle.law.specs.Law.{limit_depth, effective_depth, law_of}
use Rattle.law.specs.Stress.{rounded}
use Rattle.drawn.specs.Drawn.{in_drawn_range, drawn_refusal}
use Rattle.forces.specs.Forces.{strip_stress, lever, strip_force, bar_force, strip_moment, bar_moment, forces, moments, imbalance, moment}
use Rattle.forces.specs.Answers.{grid_refusal}
use Rattle.depths.specs.Depths.{entry_of, kind_of, kind_at, list_to, listed, written}
use Rattle.depths.specs.Answers.{depths_refusal, list_refusal, whole_work, unlisted, no_depth, no_first, looked_at_all}
use Rattle.depths.specs.Answers.{list_answer, row_after, first_of_list, first_answer}
use Rattle.shear.specs.Shear.{k_of, c_of, at_least_zero, axial_share, concrete_share, kf_of, fibre_share, stirrups, struts}
use Rattle.shear.specs.Shear.{resistance_under, resistance, shear_refusal}
use Rattle.shear.proofs.Flange.{kf_without, kf_level}
use Rattle.record.specs.Filed.{filed, but}
use Rattle.record.proofs.Inverse.{flat_filed}
use Rattle.demands.specs.Request4.{rectangle, Flat, Level, plain_imbalance, plain_moment, plain_list, plain_shear}

-- ---- a flange that adds nothing: it is not refused, every strip is as wide as the web, and it does not help the fibres
pub record Plain (s : Section) : Type 0 where
  pub right : section_refusal s ≡ section_refusal (rectangle s)
  pub wide : (i : ℕ) → width_at s i ≡ s.b
  pub kf : (d : ℕ) → kf_of d s ≡ 1000

-- 20 stands behind 8
behind : (sizes flange : Bool) (below : ℕ) → (sizes ≡ true → flange ≡ true) → line sizes 8 (line flange 20 below) ≡ line sizes 8 below
behind true flange below h = rw (h refl)
behind false flange below h = refl

pub flat_plain : {s : Section} → Flat s → Plain s
unfolding section_refusal layers_right mid_right
flat_plain {s} e = record { right = rw (eq-eqb s.hf 0 e); wide = λ i. web_width s i (omega arith); kf = λ d. kf_without d s e }

pub level_plain : {s : Section} → Level s → Plain s
unfolding section_refusal layers_right mid_right
level_plain {s} l = record {
  right = ap (line (in_table s.fck) 7)
      (behind (within 50 2000 s.b && within 50 1000 s.h) (flange_right s) _ (λ e. (flange_is s).1 (inside ((sizes_are s).0 e))));
  wide = λ i. ⊎_elim (λ h. flange_width_is s i h ∙ l.0) (λ h. web_width s i h) (less_or_not i s.hf);
  kf = λ d. kf_level d s l.0;
}
  where
    inside : SizesIn s → FlangeIn s
    inside z some = (l.1, (omega (arith, l.0), omega (arith, l.0, z.0.1)))

-- ---- what is answered of it is what document 01 says
pub same_law : (s : Section) → law_of s ≡ law_of (rectangle s)
unfolding effective_depth limit_depth steel_area steel_moment
same_law s = refl

module _ {s : Section} (p : Plain s) where
  pub imbalance_plain : (x : ℕ) → imbalance s x ≡ plain_imbalance s x
  unfolding imbalance forces strip_force
  imbalance_plain x =
      λ j. (sum_z s.h (λ i. pos (p.wide i j) *ℤ rounded (strip_stress (law_of s) s x i)) +ℤ sum_z s.count (bar_force (law_of s) s x)) -ℤ load_of s

  pub moment_plain : (x : ℕ) → moment s x ≡ plain_moment s x
  unfolding moment moments strip_moment strip_force
  moment_plain x =
      λ j. sum_z s.h (λ i. lever s (2 * i + 1) *ℤ (pos (p.wide i j) *ℤ rounded (strip_stress (law_of s) s x i))) +ℤ sum_z s.count (bar_moment (law_of s) s x)

  pub list_plain : listed s ≡ plain_list s
  unfolding kind_at
  list_plain = λ j. list_to (kind_of (λ x. imbalance_plain x j) s.h) (λ x. moment_plain x j) s.h

  area_plain : concrete_area s ≡ s.b * s.h
  area_plain = sum_same (width_at s) (λ i. s.b) s.h (λ i h. p.wide i) ∙ sum_alike s.h s.b

  fibres_plain : (d : ℕ) → fibre_share s.feq3 d (kf_of d s) ≡ 12 * s.feq3 / 100 * max 1000 (1600 - d) / 1000
  unfolding fibre_share
  fibres_plain d = rw (p.kf d) (omega arith)

  pub shear_plain : resistance s ≡ plain_shear s
  unfolding resistance_under concrete_share axial_share
  shear_plain =
      let d = (law_of s).d in
      let bd = s.b * d in
      let k = 12 * k_of d * c_of bd (steel_area s) s.fck / 100000 in
      λ j. min
      ((at_least_zero (pos k +ℤ floor_div (pos 15 *ℤ load_of s) (100 * area_plain j)) + fibres_plain d j) * bd + stirrups s.asw d (law_of s).fyd s.spacing)
      (struts s.fck bd)

-- ---- and so what is answered of the rectangle
module _ {s : Section} (p : Plain s) where
  abbrev own : Plain (rectangle s)
  own = flat_plain {s = rectangle s} refl

  pub imbalance_same : (x : ℕ) → imbalance s x ≡ imbalance (rectangle s) x
  unfolding effective_depth limit_depth steel_area steel_moment bar_force
  imbalance_same x = imbalance_plain p x ∙ sym (imbalance_plain own x)

  pub moment_same : (x : ℕ) → moment s x ≡ moment (rectangle s) x
  unfolding effective_depth limit_depth steel_area steel_moment bar_force bar_moment
  moment_same x = moment_plain p x ∙ sym (moment_plain own x)

  list_same : listed s ≡ listed (rectangle s)
  unfolding kind_at
  list_same = λ j. list_to (kind_of (λ x. imbalance_same x j) s.h) (λ x. moment_same x j) s.h

  pub shear_same : resistance s ≡ resistance (rectangle s)
  unfolding effective_depth limit_depth steel_area steel_moment
  shear_same = shear_plain p ∙ sym (shear_plain own)

  -- and its refusals
  pub drawn_alike : (e : ℤ) → drawn_refusal s e ≡ drawn_refusal (rectangle s) e
  unfolding drawn_refusal
  drawn_alike e = ap (λ (n : ℕ). first_of n (line (in_drawn_range e) 18 0)) p.right

  pub grid_alike : (x : ℕ) → grid_refusal s x ≡ grid_refusal (rectangle s) x
  unfolding grid_refusal
  grid_alike x = ap (λ (n : ℕ). first_of n (line (within 1 s.h x) 18 0)) p.right

  pub shear_alike : shear_refusal s ≡ shear_refusal (rectangle s)
  unfolding shear_refusal
  shear_alike = ap (λ (n : ℕ). first_of n (line (ltb 0 s.count) 16 0)) p.right

  none_alike : depths_refusal s ≡ depths_refusal (rectangle s)
  unfolding depths_refusal
  none_alike = λ j. first_of (p.right j) (line (ltb 0 (length (list_same j))) 14 0)

  pub first_alike : first_answer s ≡ first_answer (rectangle s)
  unfolding first_answer
  first_alike = λ j. let inner = unless_refused (none_alike j) (first_of_list s (entry_of (list_same j) 0)) (no_depth (whole_work s)) in
      unless_refused (p.right j) inner no_first

  number_alike : (room : ℕ) → list_refusal s room ≡ list_refusal (rectangle s) room
  unfolding list_refusal
  number_alike room = λ j. first_of (none_alike j) (line (leb (3 * length (list_same j)) room) 15 0)

  pub list_alike : (room : ℕ) → list_answer s room ≡ list_answer (rectangle s) room
  unfolding list_answer
  list_alike room = λ j. unless_refused (p.right j) (looked_at_all s (number_alike room j) (length (list_same j))) unlisted

  pub row_alike : (row : List ℤ) → row_after s row ≡ row_after (rectangle s) row
  unfolding row_after
  row_alike row = λ j. cond (eqb (number_alike (length row) j) 0) (written (list_same j) row) row

-- ---- a section that is filed, and one with a layer added
module _ (s : Section) (e : Flat s) where
  pub as_filed : s.count ≤ 8 → filed s ≡ filed (rectangle s)
  as_filed few =
      let bare : filed (but s 0 s.spacing s.layers) ≡ filed (rectangle s) = rw e in
      sym (flat_filed s 0 e few) ∙ bare

-- a layer is taken and put in as into the rectangle
pub taken_alike : (s : Section) (l : Layer) → layer_refusal s l ≡ layer_refusal (rectangle s) l
unfolding layer_refusal layers_right
taken_alike s l = refl

pub added_alike : (s : Section) (l : Layer) → rectangle (with_layer s l) ≡ with_layer (rectangle s) l
unfolding with_layer
added_alike s l = refl
