-- The closed sums are what the strips bear before rounding. Assumes nothing.
use Prim.Native.Nat.{ℕ, zero, suc, ◌+◌, ◌*◌, ◌-◌, ◌≤◌, ◌<◌}
use mathlib.Core.Path.{◌≡◌, refl, sym, ap}
use native.Mathlib.Nat as NatL
use native.Mathlib.Omega.{arith}
use Rattle.arith.specs.Sums.{sum_n, after}
use Rattle.strips.specs.Strips.{middle}
use Rattle.strips.specs.Closed.{odds, thrice, squares, bent_sum, ramp_sum}
use Rattle.strips.specs.Code.{Near, bent_at, OnParabola, ramp_at, OnRamp}
use Rattle.strips.proofs.Quotients.{quotients, weighed}

-- ---- odd numbers and their squares
abbrev pub square : ℕ → ℕ
square j = middle j * middle j

sum_odds : (n from : ℕ) → sum_n n (after from middle) + from * from ≡ (from + n) * (from + n)
unfolding sum_n
sum_odds zero from = omega arith
sum_odds (suc n) from = omega (arith, sum_odds n from)

sum_squares : (n from : ℕ) → 3 * sum_n n (after from square) + 4 * (from * from * from) + (from + n) ≡ 4 * ((from + n) * (from + n) * (from + n)) + from
unfolding sum_n
sum_squares zero from = omega arith
sum_squares (suc n) from = omega (arith, sum_squares n from)

pub thrice_some : (n : ℕ) → n ≤ 4 * (n * n * n)
thrice_some n = let e = sum_squares n 0 in omega arith

module _ {from to : ℕ} (h : from ≤ to) where
  pub run_odds : sum_n (to - from) (after from middle) + from * from ≡ to * to
  run_odds = let all : from + (to - from) ≡ to = omega arith in rw all at (sum_odds (to - from) from)

  pub run_squares : 3 * sum_n (to - from) (after from square) + thrice from ≡ thrice to
  run_squares =
      let all : from + (to - from) ≡ to = omega arith in
      omega (arith, rw all at (sum_squares (to - from) from), thrice_some from, thrice_some to)

-- ---- the parabola
-- three times the numerator of the j-th
abbrev bend : (fcd over unit : ℕ) → ℕ → ℕ
bend fcd over unit j = 3 * (fcd * (unit * middle j * (8 * over - unit * middle j)))

module _ (fcd : ℕ) {over unit from to : ℕ} (h : from ≤ to) (o : OnParabola over unit from to) where
  pub bends : sum_n (to - from) (after from (bend fcd over unit)) + fcd * unit * unit * squares from to ≡ fcd * unit * (24 * over) * odds from to
  bends =
      let all =
      weighed (to - from) (3 * (fcd * unit * unit)) 0 (fcd * unit * (24 * over)) 0 (after from (bend fcd over unit)) (after from square) (after from middle)
      (λ i k.
      let t = unit * middle (from + i) in
      let far : 8 * over - t + t ≡ 8 * over = omega (arith, o.on (from + i) (omega arith) (omega arith)) in
      omega (arith, ap (λ n. 3 * (fcd * (t * n))) far)) in
      let odd : sum_n (to - from) (after from middle) ≡ odds from to = omega (arith, run_odds h) in
      let three : 3 * sum_n (to - from) (after from square) ≡ squares from to = omega (arith, run_squares h) in
      omega (arith, ap (λ n. fcd * unit * (24 * over) * n) odd, ap (λ n. fcd * unit * unit * n) three)

  pub bent_near : 0 < over → Near (sum_n (to - from) (after from (bent_at fcd over unit))) (to - from) (bent_sum fcd over unit from to)
  bent_near k =
      let some : 0 < 48 * over * over = NatL.mul-pos (omega arith) k in
      quotients some (to - from) _ _ (after from (bend fcd over unit))
      (λ i k.
      let den : 48 * over * over ≡ 3 * (16 * over * over) = omega arith in
      rw den (sym (NatL.mul-div-mul_left {m = 3} _ (16 * over * over) (omega arith))))
      (omega (arith, bends))

-- ---- a ramp
abbrev slope : (ea sa eb sb over unit : ℕ) → ℕ → ℕ
slope ea sa eb sb over unit j = sa * (eb * over - 500 * unit * middle j) + sb * (500 * unit * middle j - ea * over)

module _ (sa sb : ℕ) {ea eb over unit from to : ℕ} (h : from ≤ to) (o : OnRamp ea eb over unit from to) where
  pub slopes : sum_n (to - from) (after from (slope ea sa eb sb over unit)) + (sa * (500 * unit * odds from to) + sb * (ea * (over * (to - from))))
      ≡ sa * (eb * (over * (to - from))) + sb * (500 * unit * odds from to)
  slopes =
      let all =
      weighed (to - from) (sa * (500 * unit)) (sb * (ea * over)) (sb * (500 * unit)) (sa * (eb * over))
      (after from (slope ea sa eb sb over unit))
      (after from middle)
      (after from middle)
      (λ i k.
      let p = 500 * unit * middle (from + i) in
      let on = o.on (from + i) (omega arith) (omega arith) in
      let high : eb * over - p + p ≡ eb * over = omega arith in
      let low : p - ea * over + ea * over ≡ p = omega arith in
      omega (arith, ap (λ n. sa * n) high, ap (λ n. sb * n) low)) in
      let odd : sum_n (to - from) (after from middle) ≡ odds from to = omega (arith, run_odds h) in
      omega (arith, ap (λ n. sa * (500 * unit) * n) odd, ap (λ n. sb * (500 * unit) * n) odd)

  pub ramp_near :
      0 < over → ea < eb
      → Near (sum_n (to - from) (after from (ramp_at ea sa eb sb over unit))) (to - from) (ramp_sum ea sa eb sb over unit from to)
  ramp_near k longer =
      let long : 0 < eb - ea = omega arith in
      quotients (NatL.mul-pos long k) (to - from) _ _ (after from (slope ea sa eb sb over unit)) (λ i k. refl) (omega (arith, slopes))
