-- Document 02 [7]: what it promises, by what each contract tells. Assumes nothing.
use Prim.Native.Nat.{ℕ, ◌*◌, ◌^◌, ◌≤◌}
use mathlib.Core.Path.{◌≡◌, refl, sym, ap, ◌∙◌}
use mathlib.Core.List.{List, [], ◌∷◌}
use native.Mathlib.Nat as NatL
use native.Mathlib.Omega.{arith}
use lib.ListN.{length}
use Rattle.std.specs.Prelude.{Result, Ok, Err}
use Rattle.arith.specs.Answers.{unless_refused}
use Rattle.arith.specs.Below.{all_below}
use Rattle.arith.specs.Sums.{sum_n}
use Rattle.arith.proofs.Answers.{of_answer}
use Rattle.refusal.specs.declared.Refusal.{Refusal}
use Rattle.refusal.specs.declared.Refusal.TheVariants.{ResultCount, ResultRange, BelowZero}
use Rattle.refusal.specs.Refusal.{number, Answers}
use Rattle.refusal.proofs.Answers.{answered, refuses, one_answer}
use Rattle.strength.specs.declared.answer.Strength.{Strength}
use Rattle.strength.specs.Strength.{numbers, fractiles, under, t10_of, mean_of, squares_of, series_deviation, series_a}
use Rattle.strength.specs.Strength.{NumberIn, ResultsIn, strength_refusal, strength_of}
use Rattle.strength.proofs.Formula.{mean_some, mean_most, total_most, reach_most, g_most}
use Rattle.strength.proofs.Refused.{t10_most, series_in}
use Rattle.strength.proofs.Answers.{a_is, g_is, by_21, by_22, by_23, by_none}
use Rattle.strength.proofs.Order.{any_order}
use Rattle.strength.proofs.Alike.{equal_answer}
use Rattle.strength.proofs.Satisfied.{deviation_largest, squares_most, deviation_most, a_most, g_under}
use Rattle.strength.proofs.Figures.{found_by}
use Rattle.panel.specs.declared.answers.StrengthAnswer.{StrengthAnswer}
use Rattle.panel.specs.Answers.{measured, no_strength}
use Rattle.panel.specs.Face.{strength_answer}
use Rattle.demands.specs.Request7.{Equal, level, face_level, In64, beams, StrengthFigures, Request7}
use Rattle.demands.proofs.Results.{if_ok, alike}

-- ---- each answer
module _ (rs : List ℕ) where
  equal : {x : Result Strength Refusal} → Answers (strength_refusal rs) (strength_of rs) x → Equal level rs x
  equal p r number range all =
      let e = equal_answer rs r number range all in
      record { is = answered p e.0 ∙ ap Ok e.1; a = e.2; g = e.3 }

  face_equal : {x : StrengthAnswer} → x ≡ strength_answer rs → Equal face_level rs x
  unfolding strength_answer
  face_equal is r number range all =
      let e = equal_answer rs r number range all in
      record { is = rw (is, e.0, e.1); a = e.2; g = e.3 }

  value_most : (strength_of rs).value ≤ (strength_of rs).mean
  unfolding strength_of
  value_most = omega arith

  face_most : {x : StrengthAnswer} → x ≡ strength_answer rs → x.value ≤ x.mean
  unfolding strength_answer
  face_most is = rw is (of_answer (λ x. x.value ≤ x.mean) (strength_refusal rs) _ no_strength (λ e. value_most) (λ h. omega arith))

in_64 : (rs : List ℕ) → NumberIn rs → ResultsIn rs → In64 rs
in_64 rs number each =
    let w = series_in rs number each in
    let n = length rs in
    let s = series_deviation rs in
    let small = g_most (mean_of rs) s (series_a rs) (mean_some w) (mean_most w) (deviation_most w) (a_most w) in
    let square = NatL.mul-le-mul {n₂ = 2 ^ 16} {m₂ = 2 ^ 16} (a_most w) (a_most w) in
    let many : 10000 * n ≤ 150000 = omega (arith, w.few) in
    let product = NatL.mul-le-mul {n₂ = 2 ^ 32} {m₂ = 150000} square many in
    record {
      sum = omega (arith, total_most w, w.few);
      squares = omega (arith, squares_most w, w.few);
      spread_is = omega (arith, (deviation_largest w).fits, squares_most w, w.few);
      reach = omega (arith, reach_most s (t10_of n) (deviation_most w) (t10_most n));
      scaled_is = omega (arith, product);
      margin = omega (arith, small, mean_most w);
      less = omega (arith, small, a_most w, g_under w);
    }

-- ---- the figures
-- no other refusal has its number
by_refusal : (e : Refusal) {n : ℕ} {v : Strength} {x : Result Strength Refusal} → n ≡ number e → Answers n v x → x ≡ Err e
by_refusal e is p = one_answer p (refuses (sym is))

figures : StrengthFigures
unfolding numbers fractiles under t10_of mean_of squares_of sum_n all_below
figures =
    let some = found_by beams 4200 200 218 346 refl refl refl refl refl refl refl refl refl in
    let none = found_by (1718 ∷ 2734 ∷ 3256 ∷ []) 2569 782 853 1714 refl refl refl refl refl refl refl refl refl in
    let below = found_by (2698 ∷ 4495 ∷ 5098 ∷ []) 4097 1248 1361 2735 refl refl refl refl refl refl refl refl refl in
    let first = by_none beams (omega arith) refl some (omega arith) in
    let last = by_none (1718 ∷ 2734 ∷ 3256 ∷ []) (omega arith) refl none (omega arith) in (
      λ κs a x e p is. answered (rw is at p) first.0 ∙ ap Ok (sym first.1),
      sym (a_is some),
      sym (g_is some),
      λ κs a x e p is. answered (rw is at p) last.0 ∙ ap Ok (sym last.1),
      λ κs a x e p is. by_refusal BelowZero (by_23 _ (omega arith) refl below (omega arith)) (rw is at p),
      λ κs a x e p is. by_refusal ResultRange (by_22 _ (omega arith) refl) (rw is at p),
      λ κs a x e p is. by_refusal ResultCount (by_21 _ (omega arith)) (rw is at p),
      λ κs a x e p is. by_refusal ResultCount (by_21 _ (omega arith)) (rw is at p),
    )

pub request7 : Request7
unfolding strength_answer
request7 = record {
  any_order = λ κs a x e p κs' b y f q same. let o = any_order a.0.now b.0.now same in alike o.0 (λ none. o.1) p q;
  fw_any_order = λ κs a x e p κs' b y f q same.
      let o = any_order a.0.now b.0.now same in
      p ∙ (λ j. unless_refused (o.0 j) (measured (o.1 j)) no_strength) ∙ sym q;
  equal = λ κs a x e p. equal a.0.now p;
  fw_equal = λ κs a x e p. face_equal a.0.now p;
  most = λ κs a x e p. if_ok (λ y. y.value ≤ y.mean) (λ none. value_most a.0.now) p;
  fw_most = λ κs a x e p. face_most a.0.now p;
  in_64 = in_64;
  figures = figures;
}
