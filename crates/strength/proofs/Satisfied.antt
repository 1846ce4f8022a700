-- What the numbers of a series satisfy, and how large they get. Assumes nothing.
use Prim.Native.Nat.{ℕ, ◌+◌, ◌*◌, ◌-◌, ◌^◌, ◌≤◌, ◌<◌}
use mathlib.Core.Bool.{false}
use mathlib.Core.List.{List}
use native.Mathlib.Nat as NatL
use native.Mathlib.Omega.{arith}
use lib.ListN.{length}
use Rattle.arith.specs.Largest.{Largest}
use Rattle.arith.specs.Least.{Least, multiple}
use Rattle.arith.proofs.Largest.{Climbs, largest_is, fits_below}
use Rattle.arith.proofs.Least.{least_is, multiple_climbs}
use Rattle.roots.proofs.Powers.{raised_climbs}
use Rattle.strength.specs.Strength.{t10_of, mean_of, squares_of, spread, deviation_of, scaled, a_of, g_of}
use Rattle.strength.specs.Strength.{series_deviation, series_a, series_g}
use Rattle.strength.specs.Code.{SeriesIn}
use Rattle.strength.proofs.Formula.{mean_some, mean_most, squares_under, reach_most}
use Rattle.strength.proofs.Refused.{t10_most}

module _ {rs : List ℕ} (w : SeriesIn rs) where
  spread_climbs : Climbs (spread (length rs))
  spread_climbs = raised_climbs false (length rs - 1) (omega (arith, w.some))

  scaled_climbs : Climbs (scaled (length rs))
  scaled_climbs = raised_climbs false (10000 * length rs) (omega (arith, w.some))

  margin_climbs : Climbs (multiple (200 * mean_of rs))
  margin_climbs = multiple_climbs (200 * mean_of rs) (omega (arith, mean_some w))

  -- ---- what they satisfy
  pub deviation_largest : Largest (spread (length rs)) (squares_of (mean_of rs) rs) (series_deviation rs)
  unfolding deviation_of
  deviation_largest = largest_is spread_climbs (omega (arith, NatL.zero-mul (length rs - 1)))

  pub a_least : Least (scaled (length rs)) (series_deviation rs * t10_of (length rs) * (series_deviation rs * t10_of (length rs))) (series_a rs)
  unfolding a_of
  a_least = least_is scaled_climbs

  pub g_least : Least (multiple (200 * mean_of rs)) (329 * series_deviation rs * (mean_of rs + series_a rs)) (series_g rs)
  unfolding g_of
  g_least = least_is margin_climbs

  -- ---- how large they get
  pub squares_most : squares_of (mean_of rs) rs ≤ 400000000 * length rs
  squares_most = squares_under w (mean_of rs) (mean_most w)

  pub deviation_most : series_deviation rs < 2 ^ 15
  deviation_most =
      fits_below (series_deviation rs) (2 ^ 15) spread_climbs deviation_largest.fits (omega (arith, squares_most, w.some))

  pub a_most : series_a rs ≤ 2 ^ 16
  a_most =
      let few = reach_most (series_deviation rs) (t10_of (length rs)) deviation_most (t10_most (length rs)) in
      a_least.least (2 ^ 16) (omega (arith, few, w.some))

  pub g_under : series_g rs ≤ 329 * series_deviation rs * (mean_of rs + series_a rs)
  g_under = g_least.least _ (margin_climbs.above _)
