-- Document 01, 'Stress at a strain': a drawn point, one strain with its stress, compression positive.
use Rattle.std.specs.Prelude.{ℕ, Bool, ◌&&◌, ℤ, pos, neg_ℤ, nat_abs, ◌≤ℤ◌, Float}
use Rattle.std.specs.Int.Signed.{le_z}
use Rattle.arith.specs.Floats.{is_neg, whole, frac, Holds, Near}
use Rattle.arith.specs.Lines.{line, first_of}
use Rattle.section.specs.declared.Section.{Section}
use Rattle.section.specs.Refusal.{section_refusal}
use Rattle.law.specs.declared.Law.{Law}
use Rattle.law.specs.Edition.{edition}
use Rattle.law.specs.Stress.{Stress, signed, concrete}
use Rattle.drawn.specs.declared.Point.{Point}

-- the exact stress at a whole strain: the strips' own, at nat_abs e over 1
abbrev pub stress_at : Law → ℤ → Stress
stress_at l e = concrete l (is_neg e) (nat_abs e) 1

-- a stress as it is drawn: its numerator over its denominator in one rounded division, so that a zero is plus zero
abbrev pub drawn_stress : Stress → Float
drawn_stress t = frac (signed t.pulls t.num) t.den

abbrev pub point_at : Law → ℤ → Point
point_at l e = record { strain = whole e; stress = drawn_stress (stress_at l e) }

-- what is asked of a point: the strain itself, and a stress within one millionth of a kPa of the exact fraction, equal to it where that is
-- whole, with its sign, and zero only as plus zero
abbrev pub PointNear : Law → ℤ → Point → Type 0
PointNear l e p = Holds p.strain e × Near p.stress (signed (stress_at l e).pulls (stress_at l e).num) (stress_at l e).den

-- a strain from -10000 to 3500
abbrev pub Drawable : ℤ → Type 0
Drawable e = (neg_ℤ (pos edition.drawn_tension) ≤ℤ e) × (e ≤ℤ pos edition.drawn_compression)

abbrev pub in_drawn_range : ℤ → Bool
in_drawn_range e = le_z (neg_ℤ (pos edition.drawn_tension)) e && le_z e (pos edition.drawn_compression)

-- 7 to 13 with 20 first, then 18
unfoldable pub drawn_refusal : Section → ℤ → ℕ
drawn_refusal s e = first_of (section_refusal s) (line (in_drawn_range e) 18 0)
