-- The layers below mid-height as one steel: where its centroid lies in an accepted section with bars. Assumes nothing.
use Prim.Native.Nat.{ℕ, zero, suc, ◌+◌, ◌*◌, ◌-◌, ◌/◌, ◌≤◌, ◌<◌}
use mathlib.Core.Path.{◌≡◌, refl, ap}
use mathlib.Core.Bool.{Bool, true, false, cond}
use mathlib.Core.Logic.{⊎_elim}
use native.Mathlib.Nat as NatL
use native.Mathlib.Omega.{arith}
use borrow.Author.Tests.{ltb-true, lt-ltb}
use Rattle.arith.specs.Sums.{sum_n}
use Rattle.arith.proofs.Sums.{sum_next, sum_holds}
use Rattle.arith.proofs.Mean.{mean_least, mean_most}
use Rattle.section.specs.declared.Section.{Section}
use Rattle.section.specs.Section.{below_mid}
use Rattle.section.specs.Accepted.{LayersIn, Accepted}
use Rattle.section.specs.Has.{depth_at, area_at, area_below, steel_area, steel_moment, layers_below}

-- a layer has its area below mid-height only
counts : (t : Bool) (n : ℕ) → 0 < cond t n 0 → t ≡ true
counts true n h = refl
counts false n h = absurd (omega arith)

lies_below : (s : Section) (j : ℕ) → 0 < area_below s j → s.h < 2 * depth_at s j
lies_below s j h = ltb-true s.h (2 * depth_at s j) (counts (below_mid s (depth_at s j)) (area_at s j) h)

-- depths rise from any layer to any below it
deeper : {s : Section} → LayersIn s → (j k : ℕ) → j + k < s.count → depth_at s j ≤ depth_at s (j + k)
deeper {s} l j zero h = let e : j + 0 ≡ j = omega arith in rw e (omega arith)
deeper {s} l j (suc k) h =
    let e : j + suc k ≡ j + k + 1 = omega arith in
    rw e (omega (arith, deeper l j k (omega arith), l.rising (j + k) (omega arith)))

module _ {s : Section} (a : Accepted s) (some : 0 < s.count) where
  abbrev last : ℕ
  last = s.count - 1

  last_below : below_mid s (depth_at s last) ≡ true
  last_below = lt-ltb s.h (2 * depth_at s last) (a.bars.1 some)

  deepest : (j : ℕ) → j < s.count → depth_at s j ≤ depth_at s last
  deepest j h = let e : j + (last - j) ≡ last = omega arith in rw e at (deeper a.bars.0 j (last - j) (omega arith))

  pub steel_some : 0 < steel_area s
  unfolding steel_area
  steel_some =
      let here : area_below s last ≡ area_at s last = ap (λ t. cond t (area_at s last) 0) last_below in
      omega (arith, here, (a.bars.0.each last (omega arith)).some, sum_holds s.count (area_below s) last (omega arith))

  -- depths are whole, so that the centroid, rounded down, still lies below mid-height
  pub centroid_below : s.h < 2 * (steel_moment s / steel_area s)
  unfolding steel_area steel_moment
  centroid_below = omega (arith, mean_least (area_below s) (depth_at s) s.count (s.h / 2 + 1) steel_some (λ j h k. omega (arith, lies_below s j k)))

  pub centroid_most : steel_moment s / steel_area s ≤ depth_at s last
  unfolding steel_area steel_moment
  centroid_most = mean_most (area_below s) (depth_at s) s.count (depth_at s last) (λ j h k. deepest j h)

  -- with one layer there, it is that layer's depth: a second would count too
  two : (j : ℕ) → j < last → 0 < area_below s j → 2 ≤ layers_below s
  two j h k =
      let below : ℕ → ℕ = λ i. cond (below_mid s (depth_at s i)) 1 0 in
      let here : below j ≡ 1 = ap (λ t. cond t 1 0) (counts (below_mid s (depth_at s j)) (area_at s j) k) in
      let there : below last ≡ 1 = ap (λ t. cond t 1 0) last_below in
      let all : sum_n (last + 1) below ≡ layers_below s = ap (λ n. sum_n n below) (omega arith) in
      omega (arith, all, sum_next below last, sum_holds last below j h, here, there)

  pub centroid_alone : layers_below s ≤ 1 → steel_moment s / steel_area s ≡ depth_at s last
  unfolding steel_area steel_moment
  centroid_alone one = NatL.le_antisymm centroid_most (mean_least (area_below s) (depth_at s) s.count (depth_at s last) steel_some only)
    where
      only : (j : ℕ) → j < s.count → 0 < area_below s j → depth_at s last ≤ depth_at s j
      only j h k = ⊎_elim (λ e. rw e (omega arith)) (λ l. absurd (omega (arith, two j l k))) (NatL.eq-or-lt_of_le {n = j} {m = last} (omega arith))
