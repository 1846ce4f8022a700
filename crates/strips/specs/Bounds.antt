-- Bounds of the sum over a run of strips: the closed sum of those on each side of the axis, cut where one piece of the law ends and the next starts.
use Rattle.std.specs.Prelude.{ℕ, ◌+◌, ◌*◌, ◌-◌, ◌/◌, min, max, Bool, cond, ◌&&◌, ltb, leb, ℤ, pos, neg_ℤ, ◌+ℤ◌, ◌-ℤ◌}
use Rattle.law.specs.declared.Law.{Law}
use Rattle.strips.specs.declared.Axis.{Axis}
use Rattle.strips.specs.declared.Bound.{Bound}
use Rattle.strips.specs.declared.Range.{Range}
use Rattle.strips.specs.Closed.{bent_sum, ramp_sum}

-- the first of the places from..to whose reach times a rate is above a limit; or `to`
abbrev pub cut_at : (limit rate from to : ℕ) → ℕ
cut_at limit rate from to = max from (min ((limit / rate + 1) / 2) to)

-- ---- the sizes of law, axis and run, with room for what is to come: 64 bits hold every closed sum of up to 2000 strips
abbrev pub fits : Law → Axis → ℕ → Bool
fits l a to =
    ltb 0 a.over
    && leb a.over 22000
    && ltb 0 a.unit
    && leb a.unit 50
    && leb a.x 2000
    && leb to 2000
    && leb l.fcd 28333
    && leb l.s1 10000
    && leb l.s2 10000
    && leb l.s3 10000
    && ltb 0 l.e1
    && ltb l.e1 l.e2
    && ltb l.e2 l.e3
    && leb l.e3 25000

-- ---- compressed strips: the parabola as far as a place, then its top
abbrev pub level : Law → Axis → (from to top : ℕ) → Bound
level l a from to top = record { most = l.fcd * (to - top) + bent_sum l.fcd a.over a.unit from top; rounded = top - from }

abbrev pub top_of : Axis → ℕ → ℕ → ℕ
top_of a from to = cut_at (4 * a.over) a.unit from to

unfoldable pub pressed_bound : Law → Axis → ℕ → ℕ → Bound
pressed_bound l a from to = level l a from to (top_of a from to)

-- ---- stretched strips: three ramps, and where the one to a strain ends
abbrev pub three : Law → Axis → (from end1 end2 end3 : ℕ) → Bound
three l a from end1 end2 end3 = record {
  most = ramp_sum 0 0 l.e1 l.s1 a.over a.unit from end1 + ramp_sum l.e1 l.s1 l.e2 l.s2 a.over a.unit end1 end2
      + ramp_sum l.e2 l.s2 l.e3 l.s3 a.over a.unit end2 end3;
  rounded = end3 - from;
}

abbrev pub end_of : ℕ → Axis → ℕ → ℕ → ℕ
end_of e a from to = cut_at (e * a.over) (500 * a.unit) from to

unfoldable pub pulled_bound : Law → Axis → ℕ → ℕ → Bound
pulled_bound l a from to =
    let end1 = end_of l.e1 a from to in
    let end2 = end_of l.e2 a end1 to in
    three l a from end1 end2 (end_of l.e3 a end2 to)

-- ---- both sides
abbrev pub apart : Bound → Bound → ℤ
apart push pull = pos push.most -ℤ pos pull.most

abbrev pub sides : Bound → Bound → Range
sides push pull = record { low = apart push pull -ℤ pos push.rounded; high = apart push pull +ℤ pos pull.rounded }

-- the strips from..to lie x - to to x - from places above the axis and from - x to to - x below it, none where this is below zero
abbrev pub closed_bounds : Law → Axis → ℕ → ℕ → Range
closed_bounds l a from to = sides (pressed_bound l a (a.x - to) (a.x - from)) (pulled_bound l a (from - a.x) (to - a.x))

-- 65,535 strips of less than 2¹⁶ kPa each
abbrev pub unknown : Range
unknown = record { low = neg_ℤ (pos 4294967296); high = pos 4294967296 }

unfoldable pub bounds_of : Law → Axis → ℕ → ℕ → Range
bounds_of l a from to = cond (fits l a to) (closed_bounds l a (min from to) to) unknown
