-- Document 01, 'Strains, strips and balance': the forces of strips and bars at a neutral axis, the imbalance and the moment. Stress in kPa, length in
-- mm, area in mm², force in mN, moment in mN half-mm. Compression is positive.
use Rattle.std.specs.Prelude.{ℕ, ◌+◌, ◌*◌, ◌-◌, cond, ltb, ℤ, pos, ◌+ℤ◌, ◌-ℤ◌, ◌*ℤ◌}
use Rattle.arith.specs.Sums.{sum_z}
use Rattle.section.specs.declared.Section.{Section}
use Rattle.section.specs.Has.{width_at, depth_at, area_at, load_of}
use Rattle.law.specs.declared.Law.{Law}
use Rattle.law.specs.Law.{law_of}
use Rattle.law.specs.Stress.{Stress, rounded, bar}
use Rattle.strips.specs.Strips.{Scale, middle, strip}

-- ---- strains (3.1.1 of document 002)
-- where 7d > 27x the strain at depth y is 10000 (x - y) / (d - x), else 3500 (x - y) / x: 27, 10000 and this d are the law's ratio, strain and limit; a
-- position is twice a depth
unfoldable pub strain_scale : Law → ℕ → Scale
strain_scale l x =
    cond (ltb (l.ratio * x) (7 * l.limit))
    (record { num = l.strain; den = 2 * (l.limit - x) })
    (record { num = 3500; den = 2 * x })

-- ---- stresses, of a section under a law, which has all that its strains need. The section is cut in h strips of 1 mm
abbrev pub strip_stress : Law → Section → ℕ → ℕ → Stress
strip_stress l s x = strip l (strain_scale l x) x

-- a bar at a depth y
abbrev pub bar_at : Law → Scale → ℕ → ℕ → Stress
bar_at l k x y = bar l (ltb x y) (k.num * (2 * ((x - y) + (y - x)))) k.den

abbrev pub bar_stress : Law → Section → ℕ → ℕ → Stress
bar_stress l s x j = bar_at l (strain_scale l x) x (depth_at s j)

-- what it counts with, in whole kPa
abbrev pub bar_counts : Law → Scale → ℕ → ℕ → ℤ
bar_counts l k x y = rounded (bar_at l k x y)

-- ---- forces, by rounded stresses, and each times twice its distance above mid-height
abbrev pub lever : Section → ℕ → ℤ
lever s position = pos s.h -ℤ pos position

unfoldable pub strip_force : Law → Section → ℕ → ℕ → ℤ
strip_force l s x i = pos (width_at s i) *ℤ rounded (strip_stress l s x i)

unfoldable pub bar_force : Law → Section → ℕ → ℕ → ℤ
bar_force l s x j = pos (area_at s j) *ℤ bar_counts l (strain_scale l x) x (depth_at s j)

unfoldable pub strip_moment : Law → Section → ℕ → ℕ → ℤ
strip_moment l s x i = lever s (middle i) *ℤ strip_force l s x i

unfoldable pub bar_moment : Law → Section → ℕ → ℕ → ℤ
bar_moment l s x j = lever s (2 * depth_at s j) *ℤ bar_force l s x j

-- compression forces minus tension forces; bars add their whole force, the concrete in their place is not taken off
unfoldable pub forces : Law → Section → ℕ → ℤ
forces l s x = sum_z s.h (strip_force l s x) +ℤ sum_z s.count (bar_force l s x)

unfoldable pub moments : Law → Section → ℕ → ℤ
moments l s x = sum_z s.h (strip_moment l s x) +ℤ sum_z s.count (bar_moment l s x)

-- minus the axial load
abbrev pub imbalance_under : Law → Section → ℕ → ℤ
imbalance_under l s x = forces l s x -ℤ load_of s

-- ---- the sums of a section at a depth, under its own law
unfoldable pub imbalance : Section → ℕ → ℤ
imbalance s x = imbalance_under (law_of s) s x

unfoldable pub moment : Section → ℕ → ℤ
moment s x = moments (law_of s) s x
