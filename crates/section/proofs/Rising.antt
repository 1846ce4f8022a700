-- Layers that rise, place by place. Assumes nothing.
use Prim.Native.Nat.{ℕ, zero, suc, ◌+◌, ◌≤◌, ◌<◌}
use mathlib.Core.Path.{◌≡◌, refl, sym, ◌∙◌}
use mathlib.Core.Bool.{Bool, true, false, ◌&&◌, false≢true}
use mathlib.Core.List.{List}
use mathlib.Core.Logic.{⊎_elim}
use native.Mathlib.Nat.{eq-or-lt_of_le}
use native.Mathlib.Numerals.{add-one}
use native.Mathlib.Omega.{arith}
use lib.Dec.{ltb, eqb}
use lib.ListN.{length}
use lib.Seq.{take-length}
use borrow.Author.Tests.{ltb-true, ltb-false, eqb-false, lt-ltb, ne_eqb}
use Rattle.std.specs.List.{list_all, IsAllAdjacentAnswer}
use Rattle.std.proofs.lemmas.List.{get_or_default}
use Rattle.std.proofs.lemmas.List.Sums.{AllPass-from_list_all, list_all-from_AllPass}
use Rattle.arith.proofs.Tests.{both, neither}
use Rattle.section.specs.declared.Layer.{Layer}
use Rattle.section.specs.Section.{no_layer, layer_at, layers_from, in_range, rise}
use Rattle.section.specs.Added.{taken}
use Rattle.section.specs.Accepted.{LayerIn}
use Rattle.section.proofs.Layers.{from_is}

pub layer_in_is : (h : ℕ) (l : Layer) → in_range h l ≡ true → LayerIn h l
layer_in_is h l e =
    let a = both (ltb 0 l.depth && ltb l.depth h) (ltb 0 l.area) e in
    let b = both (ltb 0 l.depth) (ltb l.depth h) a.0 in
    record { deep = ltb-true _ _ b.0; inside = ltb-true _ _ b.1; some = ltb-true _ _ a.1 }

pub in_layer : (h : ℕ) (l : Layer) → LayerIn h l → in_range h l ≡ true
in_layer h l k = rw (lt-ltb 0 l.depth k.deep, lt-ltb l.depth h k.inside, lt-ltb 0 l.area k.some)

module _ (ls : List Layer) (h : ℕ) where
  abbrev depth : ℕ → ℕ
  depth j = (layer_at ls j).depth

  -- ---- from the rule to each place
  pub each : (above i n : ℕ) → rise h above (layers_from ls i n) ≡ true → (j : ℕ) → i ≤ j → j < i + n → LayerIn h (layer_at ls j)
  unfolding rise layers_from
  each above i zero e j k l = absurd (omega arith)
  each above i (suc n) e j k l =
      let a = both (in_range h (layer_at ls i) && ltb above (depth i)) _ e in
      ⊎_elim
      (λ q. rw (← q) (layer_in_is h (layer_at ls i) (both (in_range h (layer_at ls i)) _ a.0).0))
      (λ q. each (depth i) (suc i) n a.1 j q (omega arith))
      (eq-or-lt_of_le k)

  pub above_next : (above i n : ℕ) → rise h above (layers_from ls i n) ≡ true → (j : ℕ) → i ≤ j → j + 1 < i + n → depth j < depth (j + 1)
  unfolding rise layers_from
  above_next above i zero e j k l = absurd (omega arith)
  above_next above i (suc zero) e j k l = absurd (omega arith)
  above_next above i (suc (suc n)) e j k l =
      let a = (both (in_range h (layer_at ls i) && ltb above (depth i)) _ e).1 in
      let b = (both (in_range h (layer_at ls (suc i)) && ltb (depth i) (depth (suc i))) _ a).0 in
      ⊎_elim
      (λ q. rw (← q, add-one i) (ltb-true _ _ (both (in_range h (layer_at ls (suc i))) _ b).1))
      (λ q. above_next (depth i) (suc i) (suc n) a j q (omega arith))
      (eq-or-lt_of_le k)

  pub untaken : (d i n : ℕ) → taken d (layers_from ls i n) ≡ false → (j : ℕ) → i ≤ j → j < i + n → d ≡ depth j → ⊥
  unfolding taken layers_from
  untaken d i zero e j k l = absurd (omega arith)
  untaken d i (suc n) e j k l =
      let a = neither (eqb d (depth i)) _ e in
      ⊎_elim (λ q. rw (← q) (eqb-false d (depth i) a.0)) (λ q. untaken d (suc i) n a.1 j q (omega arith)) (eq-or-lt_of_le k)

  -- ---- and back
  pub rises :
      (above i n : ℕ)
      → ((j : ℕ) → j < i + n → LayerIn h (layer_at ls j))
      → ((j : ℕ) → j + 1 < i + n → depth j < depth (j + 1))
      → (0 < n → above < depth i)
      → rise h above (layers_from ls i n) ≡ true
  unfolding rise layers_from
  rises above i zero f g k = refl
  rises above i (suc n) f g k =
      let deeper : 0 < n → depth i < depth (suc i) = λ q. rw (add-one i) at (g i (omega arith)) in
      let rest = rises (depth i) (suc i) n (λ j q. f j (omega arith)) (λ j q. g j (omega arith)) deeper in
      rw (in_layer h (layer_at ls i) (f i (omega arith)), lt-ltb above (depth i) (k (omega arith)), rest)

  pub free : (d i n : ℕ) → ((j : ℕ) → i ≤ j → j < i + n → d ≡ depth j → ⊥) → taken d (layers_from ls i n) ≡ false
  unfolding taken layers_from
  free d i zero f = refl
  free d i (suc n) f = rw (ne_eqb d (depth i) (f i (omega arith) (omega arith)), free d (suc i) n (λ j k l. f j (omega arith) (omega arith)))

-- ---- as the code tests it: each is in range, and each next one deeper
same_truth : (a b : Bool) → (a ≡ true → b ≡ true) → (b ≡ true → a ≡ true) → a ≡ b
same_truth true b f g = sym (f refl)
same_truth false true f g = g refl
same_truth false false f g = refl

module _ (h : ℕ) (ks : List Layer) where
  whole : layers_from ks 0 (length ks) ≡ ks
  whole = from_is ks 0 (length ks) (omega arith) ∙ take-length ks

  all_in : rise h 0 ks ≡ true → list_all (in_range h) ks ≡ true
  all_in e =
      list_all-from_AllPass (in_range h) ks
      (λ j d q.
      let here = each ks h 0 0 (length ks) (rw (← whole) at e) j (omega arith) (omega arith) in
      rw (get_or_default ks j d no_layer q) (in_layer h (layer_at ks j) here))

  pub not_all : list_all (in_range h) ks ≡ false → false ≡ rise h 0 ks
  not_all e = same_truth _ _ (λ k. absurd (false≢true k)) (λ k. absurd (false≢true (sym e ∙ all_in k)))

  pub rise_is :
      (sorted : Bool)
      → IsAllAdjacentAnswer (λ k l b. b ≡ ltb k.depth l.depth) ks sorted → list_all (in_range h) ks ≡ true
      → sorted ≡ rise h 0 ks
  rise_is true next p =
      let each_in : (j : ℕ) → j < 0 + length ks → LayerIn h (layer_at ks j) =
      λ j q. layer_in_is h (layer_at ks j) (AllPass-from_list_all (in_range h) ks p j no_layer (omega arith)) in
      sym (rw whole at (rises ks h 0 0 (length ks) each_in (λ j q. ltb-true _ _ (sym (next j no_layer (omega arith)))) (λ q. (each_in 0 (omega arith)).deep)))
  rise_is false (j, last, above) p =
      same_truth _ _ (λ k. absurd (false≢true k))
      (λ e.
      let less = above_next ks h 0 0 (length ks) (rw (← whole) at e) j (omega arith) (omega arith) in
      absurd (omega (arith, ltb-false _ _ (sym (above no_layer)))))
