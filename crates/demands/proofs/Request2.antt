-- Document 02 [2]: what it promises, by what each contract tells. Assumes nothing.
use Prim.Native.Nat.{ℕ, ◌<◌}
use mathlib.Core.Path.{◌≡◌, refl, sym, ap, ◌∙◌}
use mathlib.Core.List.{List}
use lib.IntN.{ℤ, pos}
use lib.ListN.{length}
use native.Mathlib.Omega.{arith}
use borrow.Author.Tests.{eq-eqb, ne_eqb}
use Rattle.std.proofs.Common.{subst}
use Rattle.std.specs.Prelude.{Result, IfOk}
use Rattle.refusal.specs.declared.Refusal.{Refusal}
use Rattle.section.specs.declared.Section.{Section}
use Rattle.section.specs.Accepted.{Accepted}
use Rattle.section.proofs.Accepted.{accepted, accepts}
use Rattle.law.specs.declared.Law.{Law}
use Rattle.law.specs.declared.Lawful.{Lawful}
use Rattle.law.specs.Law.{limit_depth, effective_depth, law_by, law_with, law_of}
use Rattle.law.proofs.Ranges.{depth_below, depth_most, one_depth}
use Rattle.drawn.specs.Drawn.{point_at}
use Rattle.forces.specs.Forces.{imbalance_under, moments, imbalance, moment}
use Rattle.depths.specs.Depths.{entry_of, kind_at, listed, listed_under, written}
use Rattle.depths.specs.Answers.{ListAnswer, FirstAnswer, list_answer, row_after, first_of_list, first_answer}
use Rattle.depths.proofs.Answers.{list_number, list_count, row_written}
use Rattle.shear.specs.Shear.{resistance_under, resistance}
use Rattle.record.specs.Record.{section_in}
use Rattle.record.specs.Alone.{StandsAlone}
use Rattle.record.proofs.Alone.{record_stands}
use Rattle.panel.specs.Face.{row_of}
use Rattle.demands.specs.Request2.{TwoDepths, deepest_law, OneSteel, ListKept, FirstKept, Request2}
use Rattle.demands.proofs.Results.{if_ok, value_is, and_so}
use Rattle.demands.proofs.Shapes.{point_shown, imbalance_shown, moment_shown, shear_shown, first_shown, list_in, list_there}
use Rattle.demands.proofs.Demand2.{lawful_is, first_is}

-- ---- the two depths
module _ (s : Section) where
  without : s.count ≡ 0 → ((law_of s).d ≡ s.h) × ((law_of s).limit ≡ s.h)
  unfolding law_by effective_depth limit_depth
  without e = rw (eq-eqb s.count 0 e) (refl, refl)

  both : Accepted s → 0 < s.count → TwoDepths s (law_of s)
  unfolding law_by effective_depth limit_depth
  both ok some =
      let with = ne_eqb s.count 0 (λ e. omega arith) in
      record { centroid = rw with; deepest = rw with; below = depth_below ok; most = depth_most ok }

-- of a law that has its section with it what is said of the section's law
lawful_tells :
    (s : Section) (P : Law → Type 0) → (Accepted s → P (law_of s)) → (x : Result Lawful Refusal)
    → IfOk x (λ l. l.section ≡ s) → IfOk x (λ l. P l.law)
lawful_tells s P h =
    and_so (λ l. l.section ≡ s) (λ l. P l.law) (λ l same. let is = lawful_is s l same in subst P (sym is.1) (h is.2))

-- ---- what is kept
module _ {s : Section} (o : OneSteel s) where
  kept : law_of s ≡ deepest_law s
  kept = ap (λ d. law_with d s) (one_depth o.accepted o.one)

  point_kept : (e : ℤ) → point_at (law_of s) e ≡ point_at (deepest_law s) e
  point_kept e = ap (λ l. point_at l e) kept

  imbalance_kept : (d : ℕ) → imbalance s d ≡ imbalance_under (deepest_law s) s d
  unfolding imbalance
  imbalance_kept d = ap (λ l. imbalance_under l s d) kept

  moment_kept : (d : ℕ) → moment s d ≡ moments (deepest_law s) s d
  unfolding moment
  moment_kept d = ap (λ l. moments l s d) kept

  shear_kept : pos (resistance s) ≡ pos (resistance_under (deepest_law s) s)
  shear_kept = ap (λ l. pos (resistance_under l s)) kept

  same_list : listed s ≡ listed_under (deepest_law s) s
  unfolding kind_at imbalance moment
  same_list = ap (λ l. listed_under l s) kept

  list_kept : (before : List ℤ) {x : ListAnswer} {after : List ℤ} → x ≡ list_answer s (length before) → after ≡ row_after s before → ListKept s before x after
  list_kept before is left = (
    list_count s (length before) is (accepts s o.accepted) ∙ ap length same_list,
    λ h. left ∙ row_written s before (sym (list_number s (length before) is) ∙ h) ∙ ap (λ es. written es before) same_list,
  )

  first_kept : {x : FirstAnswer} → x ≡ first_answer s → x.refusal ≡ 0 → FirstKept s x
  first_kept is h = first_is s is h ∙ ap (λ es. first_of_list s (entry_of es 0)) same_list

list_of_is :
    (r : List ℕ) (before : List ℤ) {x : ListAnswer} {after : List ℤ} → x ≡ list_in r (length before) → after ≡ row_of r before
    → StandsAlone r → OneSteel (section_in r) → ListKept (section_in r) before x after
unfolding row_of
list_of_is r before is left alone o = let none = (record_stands r).1 alone in list_kept o before (rw none at is) (rw none at left)

pub request2 : Request2
request2 = record {
  without_bars = λ κs a x e p. if_ok (λ l. a.0.count ≡ 0 → (l.d ≡ a.0.h) × (l.limit ≡ a.0.h)) (λ none. without a.0) p;
  with_bars = λ κs a x e p. if_ok (λ l. 0 < a.0.count → TwoDepths a.0 l) (λ none. both a.0 (accepted a.0 none)) p;
  lawful_without_bars = λ κs a x e p.
      lawful_tells a.0 (λ l. a.0.count ≡ 0 → (l.d ≡ a.0.h) × (l.limit ≡ a.0.h)) (λ ok. without a.0) x p.1;
  lawful_with_bars = λ κs a x e p. lawful_tells a.0 (λ l. 0 < a.0.count → TwoDepths a.0 l) (both a.0) x p.1;
  law_of_call = λ κs a x e p o. value_is (kept o) p;
  lawful_of = λ κs a x e p o. lawful_tells a.0 (λ l. l ≡ deepest_law a.0) (λ ok. kept o) x p.1;
  draw = λ κs a x e p o. value_is (point_kept o a.1.0) p;
  imbalance = λ κs a x e p o. value_is (imbalance_kept o a.1.0) p;
  moment = λ κs a x e p o. value_is (moment_kept o a.1.0) p;
  depths = λ κs a x e p o. list_kept o a.1.0.now p.0 p.1;
  first = λ κs a x e p o. first_kept o p;
  shear = λ κs a x e p o. value_is (shear_kept o) p;
  fw_draw = λ κs a x e p o.
      point_shown a.0.now a.1.0 (λ y. y ≡ point_at (deepest_law (section_in a.0.now)) a.1.0) (λ none. point_kept o a.1.0) p;
  fw_imbalance = λ κs a x e p o.
      let s = section_in a.0.now in
      imbalance_shown a.0.now a.1.0 (λ n. n ≡ imbalance_under (deepest_law s) s a.1.0) (λ none. imbalance_kept o a.1.0) p;
  fw_moment = λ κs a x e p o.
      let s = section_in a.0.now in
      moment_shown a.0.now a.1.0 (λ n. n ≡ moments (deepest_law s) s a.1.0) (λ none. moment_kept o a.1.0) p;
  fw_depths = λ κs a x e p. list_of_is a.0.now a.1.0.now (list_there a.0.now _ p.0) p.1;
  fw_first = λ κs a x e p o. first_shown a.0.now (FirstKept (section_in a.0.now)) (first_kept o refl) p;
  fw_shear = λ κs a x e p o.
      let s = section_in a.0.now in
      shear_shown a.0.now (λ n. n ≡ pos (resistance_under (deepest_law s) s)) (λ none. shear_kept o) p;
}
