-- `Section::steel`: the layers below mid-height, one after another.
use Prim.Native.Nat.{ℕ, zero, suc, ◌*◌, ◌-◌, ◌≤◌, ◌<◌}
use mathlib.Core.Path.{◌≡◌, refl, sym, ap, ◌∙◌}
use mathlib.Core.Bool.{cond}
use mathlib.Core.Logic.{⊎_elim}
use native.Mathlib.Nat as NatL
use native.Mathlib.Omega.{arith}
use borrow.Author.Tests.{lt-ltb, le-ltb}
use lib.ListN.{length, get_or, get_or-eq_default}
use borrow.Author.Rules.{rules}
use Rattle.std.proofs.lemmas.List.{get_or-take, length-take}
use Rattle.section.specs.declared.Layer.{Layer}
use Rattle.section.specs.declared.Section.{Section}
use Rattle.arith.specs.Sums.{sum_n}
use Rattle.arith.proofs.Lists.{length_mapped}
use Rattle.arith.proofs.Sums.{sum_next}
use Rattle.section.specs.Section.{no_layer, layer_at, below_mid}
use Rattle.section.specs.Has.{depth_at, area_below, steel_area, moment_below, steel_moment}
use Rattle.section.proofs.Section.steel.Goals as goal
use Rattle.section.proofs.Section.steel.Goals.{then-self-layer, else-self-layer}

-- a place past the array's end is the zero layer
area-none : (s : Section) (j : ℕ) → length s.layers ≡ 8 → 8 ≤ j → area_below s j ≡ 0
area-none s j long h =
    ap (λ (l : Layer). cond (below_mid s l.depth) l.area 0) (get_or-eq_default s.layers no_layer {n = j} (omega arith))
    ∙ rw (le-ltb s.h 0 (omega arith))

all-places : (f : ℕ → ℕ) (n : ℕ) → ((j : ℕ) → 8 ≤ j → f j ≡ 0) → sum_n (n - (n - 8)) f ≡ sum_n n f
unfolding sum_n
all-places f zero h = refl
all-places f (suc n) h =
    ⊎_elim
    (λ k. let all : suc n - (suc n - 8) ≡ suc n = omega arith in rw all)
    (λ k. let same : suc n - (suc n - 8) ≡ n - (n - 8) = omega arith in rw (same, h n (omega arith)) (all-places f n h ∙ sym (NatL.add-zero (sum_n n f))))
    (NatL.eq-zero-or-pos (n - 7))

pub loop-layer-init : goal.loop-layer-init
unfolding sum_n
loop-layer-init c = record { areas = refl; area_most = omega arith; moments = refl; moment_most = omega arith }

pub loop-layer-preserved : goal.loop-layer-preserved
loop-layer-preserved c =
    let s = c.args.self in
    let j = c.loop-layer.layer-index in
    let i = c.loop-layer.invariant in
    let k = get_or c.present-layer-items.result.now j no_layer in
    let passed = ap length c.present-layer-items.ensures in
    let inside : j < s.count = omega (arith, c.loop-layer-test.true, length-take s.count s.layers) in
    let here : k ≡ layer_at s.layers j = rw c.present-layer-items.ensures (get_or-take s.count s.layers j no_layer inside) in
    let deep : k.depth ≡ depth_at s j = ap (λ (l : Layer). l.depth) here in
    elim c.if-self-layer.branch [
      | then-self-layer w ↦
          let b : area_below s j ≡ k.area = rw (lt-ltb s.h (2 * depth_at s j) (omega arith)) (sym (ap (λ (l : Layer). l.area) here)) in
          record {
            areas = omega (arith, sum_next (area_below s) j);
            area_most = let small : k.area ≤ 65535 = search rules in omega arith;
            moments = w.moment-is ∙ rw (i.moments, ← b, deep) (sym (sum_next (moment_below s) j));
            moment_most = omega (arith, NatL.mul-le-mul {n₁ = k.area} {m₁ = k.depth} {n₂ = 65535} {m₂ = 65535} (search rules) (search rules));
          }
      | else-self-layer w ↦
          let b : area_below s j ≡ 0 = rw (le-ltb s.h (2 * depth_at s j) (omega arith)) in
          record {
            areas = omega (arith, sum_next (area_below s) j);
            area_most = omega arith;
            moments =
                w.moment-is
                ∙ rw (i.moments, sum_next (moment_below s) j, b, NatL.zero-mul (depth_at s j)) (sym (NatL.add-zero (sum_n j (moment_below s))));
            moment_most = omega arith;
          }
    ]

pub returns : goal.returns
unfolding steel_area steel_moment
returns c =
    let s = c.args.self in
    let l = c.loop-layer in
    let long : length s.layers ≡ 8 = search (rules, length_mapped) in
    let passed = ap length c.present-layer-items.ensures in
    let all : l.layer-index ≡ s.count - (s.count - 8) = omega (arith, c.loop-layer-test.false, length-take s.count s.layers) in (
      l.invariant.areas ∙ ap (λ n. sum_n n (area_below s)) all ∙ all-places (area_below s) s.count (λ j. area-none s j long),
      l.invariant.moments ∙ ap (λ n. sum_n n (moment_below s)) all
          ∙ all-places (moment_below s) s.count (λ j k. ap (λ n. n * depth_at s j) (area-none s j long k) ∙ NatL.zero-mul (depth_at s j)),
      omega (arith, l.invariant.area_most),
    )
