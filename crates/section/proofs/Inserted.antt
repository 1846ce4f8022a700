-- A layer that is taken in leaves the layers right: in range and rising, at most 8. Assumes nothing.
use Prim.Native.Nat.{ℕ, zero, suc, ◌+◌, ◌-◌, ◌≤◌, ◌<◌}
use mathlib.Core.Path.{◌≡◌, refl, sym, ◌∙◌, ap}
use mathlib.Core.Bool.{Bool, true, false, cond, ◌&&◌}
use mathlib.Core.List.{List, [], ◌∷◌, ◌++◌, append_assoc}
use native.Mathlib.Omega.{arith}
use native.Mathlib.Numerals.{add-one}
use lib.Dec.{ltb, eqb}
use lib.ListN.{length, drop, length-append, length-drop}
use lib.Seq.{get_or-append_seam, get_or-append-add, get_or-drop}
use borrow.Author.Tests.{ltb-false, eqb-false, lt-ltb, le-leb}
use Rattle.arith.proofs.Tests.{both, neither}
use Rattle.section.specs.declared.Layer.{Layer}
use Rattle.section.specs.declared.Section.{Section}
use Rattle.section.specs.Section.{no_layer, layer_at, layers_from, layers_of, in_range, rise, layers_right}
use Rattle.section.specs.Added.{taken, layer_refusal, inserted, with_layer}
use Rattle.section.proofs.Layers.{rising}
use Rattle.section.proofs.Rising.{in_layer, free}
use Rattle.section.proofs.Accepted.{layers_are, takes}

-- ---- in its place, the layer keeps the order
module _ (h : ℕ) (l : Layer) (i : in_range h l ≡ true) where
  inserted_rises :
      (above : ℕ) (ks : List Layer)
      → above < l.depth
      → taken l.depth ks ≡ false
      → rise h above ks ≡ true
      → rise h above (inserted l ks) ≡ true
  unfolding rise taken inserted
  inserted_rises above [] a f r = rw (i, lt-ltb above l.depth a)
  inserted_rises above (k ∷ ks) a f r =
      let q = both (in_range h k && ltb above k.depth) (rise h k.depth ks) r in
      let p = both (in_range h k) (ltb above k.depth) q.0 in
      let g = neither (eqb l.depth k.depth) (taken l.depth ks) f in
      pick (ltb l.depth k.depth) refl p q.1 g.0 (λ b. inserted_rises k.depth ks b g.1 q.1)
    where
      pick :
          (t : Bool)
          → ltb l.depth k.depth ≡ t
          → (in_range h k ≡ true) × (ltb above k.depth ≡ true)
          → rise h k.depth ks ≡ true
          → eqb l.depth k.depth ≡ false
          → (k.depth < l.depth → rise h k.depth (inserted l ks) ≡ true)
          → rise h above (cond t (l ∷ k ∷ ks) (k ∷ inserted l ks)) ≡ true
      pick true e p r g f = rw (i, lt-ltb above l.depth a, p.0, e, r)
      pick false e p r g f = rw (p.0, p.1, f (omega (arith, ltb-false l.depth k.depth e, eqb-false l.depth k.depth g)))

-- ---- and it is found there
length_inserted : (l : Layer) (ks : List Layer) → length (inserted l ks) ≡ suc (length ks)
unfolding inserted
length_inserted l [] = refl
length_inserted l (k ∷ ks) = pick (ltb l.depth k.depth) (length_inserted l ks)
  where
    pick : (t : Bool) → length (inserted l ks) ≡ suc (length ks) → length (cond t (l ∷ k ∷ ks) (k ∷ inserted l ks)) ≡ suc (suc (length ks))
    pick true e = refl
    pick false e = ap suc e

length_from : (ls : List Layer) (j n : ℕ) → length (layers_from ls j n) ≡ n
unfolding layers_from
length_from ls j zero = refl
length_from ls j (suc n) = ap suc (length_from ls (suc j) n)

from_append : (ps xs ys : List Layer) → layers_from (ps ++ (xs ++ ys)) (length ps) (length xs) ≡ xs
unfolding layers_from
from_append ps [] ys = refl
from_append ps (x ∷ xs) ys =
    let e : length (ps ++ (x ∷ [])) ≡ suc (length ps) = length-append ps (x ∷ []) ∙ add-one (length ps) in
    let r = rw (e, append_assoc ps (x ∷ []) (xs ++ ys)) at (from_append (ps ++ (x ∷ [])) xs ys) in
    rw (get_or-append_seam ps x (xs ++ ys) no_layer, r)

one_more : (s : Section) (l : Layer) → length (inserted l (layers_of s)) ≡ s.count + 1
one_more s l = rw (length_inserted l (layers_of s), length_from s.layers 0 s.count) (sym (add-one s.count))

pub layers_added : (s : Section) (l : Layer) → layers_of (with_layer s l) ≡ inserted l (layers_of s)
unfolding with_layer
layers_added s l = rw (← (one_more s l)) (from_append [] (inserted l (layers_of s)) _)

-- ---- and all places past it stay
pub added_places : (s : Section) (l : Layer) → s.count < length s.layers → length (with_layer s l).layers ≡ length s.layers
unfolding with_layer
added_places s l h = rw (length-append (inserted l (layers_of s)) (drop (s.count + 1) s.layers), length-drop (s.count + 1) s.layers, one_more s l) (omega arith)

pub added_past : (s : Section) (l : Layer) (j : ℕ) → s.count + 1 ≤ j → layer_at (with_layer s l).layers j ≡ layer_at s.layers j
unfolding with_layer
added_past s l j h =
    let ls = inserted l (layers_of s) in
    let e : length ls + (j - length ls) ≡ j = omega (arith, one_more s l) in
    let f : s.count + 1 + (j - length ls) ≡ j = omega (arith, one_more s l) in
    ap (λ (i : ℕ). layer_at (ls ++ drop (s.count + 1) s.layers) i) (sym e)
    ∙ get_or-append-add ls (drop (s.count + 1) s.layers) (j - length ls) no_layer
    ∙ get_or-drop (s.count + 1) s.layers (j - length ls) no_layer
    ∙ ap (layer_at s.layers) f

pub added_right : (s : Section) (l : Layer) → layer_refusal s l ≡ 0 → layers_right (with_layer s l) ≡ true
unfolding layers_right with_layer
added_right s l e =
    let t = takes s l e in
    let untaken = free s.layers s.h l.depth 0 s.count (λ j k h. t.free j (omega arith)) in
    let r = inserted_rises s.h l (in_layer s.h l t.layer) 0 (layers_of s) t.layer.deep untaken (rising s ((layers_are s).1 t.there)) in
    rw (le-leb (s.count + 1) 8 (omega (arith, t.room)), layers_added s l) r
