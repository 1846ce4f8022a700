-- The sum of a run of strips before any rounding, by their places from the axis: the reach of the j-th is 2 j + 1. Along one piece of the law all
-- strips have one denominator, so that the sum is one quotient.
use Rattle.std.specs.Prelude.{ℕ, ◌+◌, ◌*◌, ◌-◌, ◌/◌}

-- ---- over the places from..to
-- the sum of the reaches
abbrev pub odds : ℕ → ℕ → ℕ
odds from to = to * to - from * from

-- three times the sum of the squares of the first n reaches, and of those from..to
abbrev pub thrice : ℕ → ℕ
thrice n = 4 * (n * n * n) - n

abbrev pub squares : ℕ → ℕ → ℕ
squares from to = thrice to - thrice from

-- ---- the parabola, t (8 over - t) fcd / (16 over²) at t = unit (2 j + 1)
abbrev pub bent_sum : (fcd over unit from to : ℕ) → ℕ
bent_sum fcd over unit from to = (fcd * unit * (24 * over) * odds from to - fcd * unit * unit * squares from to) / (48 * over * over)

-- ---- a ramp from (ea, sa) to (eb, sb)
abbrev pub ramp_sum : (ea sa eb sb over unit from to : ℕ) → ℕ
ramp_sum ea sa eb sb over unit from to =
    (sa * (eb * (over * (to - from))) + sb * (500 * unit * odds from to) - (sa * (500 * unit * odds from to) + sb * (ea * (over * (to - from)))))
    / ((eb - ea) * over)
