-- The ranges of a section's depths and of its law's numbers, where it is accepted. Assumes nothing.
use Prim.Native.Nat.{ℕ, zero, suc, ◌*◌, ◌-◌, ◌/◌, ◌≤◌, ◌<◌}
use mathlib.Core.Path.{◌≡◌, refl}
use mathlib.Core.Bool.{true, cond, ◌&&◌}
use mathlib.Core.List.{List, [], ◌∷◌}
use native.Mathlib.Nat as NatL
use native.Mathlib.Omega.{arith}
use lib.Dec.{leb, eqb, eqb-suc-zero}
use lib.ListN.{get_or}
use borrow.Author.Tests.{leb-true}
use Rattle.arith.specs.Below.{all_below}
use Rattle.arith.proofs.Tests.{both, all_below_is}
use Rattle.section.specs.declared.Section.{Section}
use Rattle.section.specs.Accepted.{Accepted}
use Rattle.section.specs.Has.{depth_at, steel_area, steel_moment, layers_below}
use Rattle.section.proofs.Centroid.{centroid_below, centroid_most, centroid_alone}
use Rattle.law.specs.Edition.{edition}
use Rattle.law.specs.Law.{column, flexural, modulus, limit_depth, effective_depth, s1_of, e1_of, law_by, law_of}
use Rattle.law.specs.Ranges.{LawIn}

-- ---- Table 1
pub column_in : {s : Section} → Accepted s → column s.fck < 7
column_in a = omega (arith, a.concrete.0.1)

row :
    (c : List ℕ) (low high n : ℕ)
    → all_below 7 (λ i. leb low (get_or c i 0) && leb (get_or c i 0) high) ≡ true
    → n < 7
    → (low ≤ get_or c n 0) × (get_or c n 0 ≤ high)
row c low high n e h =
    let k = both (leb low (get_or c n 0)) (leb (get_or c n 0) high) (all_below_is 7 (λ i. leb low (get_or c i 0) && leb (get_or c i 0) high) e n h) in
    (leb-true _ _ k.0, leb-true _ _ k.1)

pub flexural_in : {s : Section} → Accepted s → (3700 ≤ flexural s.fck) × (flexural s.fck ≤ 6800)
unfolding flexural all_below
flexural_in {s} a = row (3700 ∷ 4300 ∷ 4800 ∷ 5300 ∷ 5800 ∷ 6300 ∷ 6800 ∷ []) 3700 6800 (column s.fck) refl (column_in a)

pub modulus_in : {s : Section} → Accepted s → (29000 ≤ modulus s.fck) × (modulus s.fck ≤ 37000)
unfolding modulus all_below
modulus_in {s} a = row (29000 ∷ 30500 ∷ 32000 ∷ 33500 ∷ 35000 ∷ 36000 ∷ 37000 ∷ []) 29000 37000 (column s.fck) refl (column_in a)

-- ---- depths
-- what holds of two depths, without bars and with them
by_bars : (P : ℕ → ℕ → Type 0) (m h d e : ℕ) → P h h → (0 < m → P d e) → P (cond (eqb m 0) h d) (cond (eqb m 0) h e)
by_bars P zero h d e none some = none
by_bars P (suc m) h d e none some = rw eqb-suc-zero (some (omega arith))

module _ {s : Section} (a : Accepted s) where
  pub limit_in : (0 < limit_depth s) × (limit_depth s ≤ s.h)
  unfolding limit_depth
  limit_in =
      by_bars (λ d e. (0 < d) × (d ≤ s.h)) s.count s.h (depth_at s (s.count - 1)) 0 (omega (arith, a.sizes.1.0), omega arith)
      (λ h. let l = a.bars.0.each (s.count - 1) (omega arith) in (l.deep, omega (arith, l.inside)))

  -- d lies below mid-height, and no deeper than the limit depth
  pub depth_below : s.h < 2 * effective_depth s
  unfolding effective_depth
  depth_below = by_bars (λ d e. s.h < 2 * d) s.count s.h (steel_moment s / steel_area s) 0 (omega (arith, a.sizes.1.0)) (centroid_below a)

  pub depth_most : effective_depth s ≤ limit_depth s
  unfolding effective_depth limit_depth
  depth_most = by_bars (λ d e. d ≤ e) s.count s.h (steel_moment s / steel_area s) (depth_at s (s.count - 1)) (omega arith) (centroid_most a)

  -- the centroid as the code has it
  pub centroid_in : (s.count ≡ 0 → ⊥) → steel_moment s / steel_area s ≤ 1000
  centroid_in h =
      let bars = NatL.pos_of_ne-zero h in
      let deepest = a.bars.0.each (s.count - 1) (omega (arith, bars)) in
      omega (arith, centroid_most a bars, deepest.inside, a.sizes.1.1)

  pub depth_in : (0 < effective_depth s) × (effective_depth s ≤ 1000)
  depth_in = (omega (arith, depth_below), omega (arith, depth_most, limit_in.1, a.sizes.1.1))

  -- with one layer below mid-height, or without bars, both are one depth
  pub one_depth : layers_below s ≤ 1 → effective_depth s ≡ limit_depth s
  unfolding effective_depth limit_depth
  one_depth one = by_bars (λ d e. d ≡ e) s.count s.h (steel_moment s / steel_area s) (depth_at s (s.count - 1)) refl (λ h. centroid_alone a h one)

-- ---- the whole numbers
pub s1_product :
    {s : Section}
    → Accepted s
    → let product = 7 * flexural s.fck * (1600 - effective_depth s) in (25900 * 600 ≤ product) × (product ≤ 47600 * 1600)
s1_product {s} a =
    let f = flexural_in a in
    let d = depth_in a in
    (NatL.mul-le-mul {n₁ = 25900} {m₁ = 600} (omega arith) (omega arith), NatL.mul-le-mul {n₂ = 47600} {m₂ = 1600} (omega arith) (omega arith))

pub s1_in : {s : Section} → Accepted s → (1554 ≤ s1_of s.fck (effective_depth s)) × (s1_of s.fck (effective_depth s) ≤ 7616)
unfolding s1_of
s1_in a = let p = s1_product a in (omega arith, omega arith)

pub e1_in : {s : Section} → Accepted s → (42 ≤ e1_of s.fck (effective_depth s)) × (e1_of s.fck (effective_depth s) ≤ 262)
unfolding e1_of
e1_in {s} a =
    let m = modulus_in a in
    let k = s1_in a in
    let p : 0 < modulus s.fck = omega arith in
    let below = (NatL.div-lt_iff_lt-mul {x = 1000 * s1_of s.fck (effective_depth s)} {y = 263} p).1 (omega arith) in
    ((NatL.le-div_iff_mul-le p).1 (omega arith), omega (arith, below))

pub law_in : {s : Section} → Accepted s → LawIn (law_of s)
unfolding law_by edition
law_in {s} a =
    let k = s1_in a in
    let e = e1_in a in
    let f = a.concrete in
    let y = a.steel in
    record {
      lines = record { first = omega arith; second = omega arith; third = omega arith };
      fcd = (omega arith, omega arith);
      s1 = k;
      e1 = e;
      e2 = (omega arith, omega arith);
      s2 = omega (arith, a.fibres.0);
      s3 = omega (arith, a.fibres.1);
      e3 = refl;
      fyd = (omega arith, omega arith);
      strain = refl;
      limit = ((limit_in a).0, omega (arith, (limit_in a).1, a.sizes.1.1));
      d = depth_in a;
      ratio = refl;
      drawn = refl;
    }
