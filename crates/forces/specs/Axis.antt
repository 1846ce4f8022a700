-- The neutral axis at a depth as the code has it: its strains are 500 unit (2 x - position) / over. A law whose numbers no section's has gives none.
use Rattle.std.specs.Prelude.{ℕ, ◌*◌, ◌-◌, ◌/◌, Bool, cond, ◌&&◌, ltb, leb}
use Rattle.law.specs.declared.Law.{Law}
use Rattle.strips.specs.declared.Axis.{Axis}

-- of a size that the axis has room for; from a ratio of 7 on the limit lies below an axis that it is reached with
abbrev pub axis_fits : Law → ℕ → Bool
axis_fits l x = ltb l.limit 32768 && ltb l.strain 128000 && leb 7 l.ratio && ltb x 32768

unfoldable pub axis_at : Law → ℕ → Axis
axis_at l x =
    cond (axis_fits l x)
    (cond (ltb (l.ratio * x) (7 * l.limit))
    (record { x = x; unit = l.strain / 500; over = 2 * (l.limit - x) })
    (record { x = x; unit = 7; over = 2 * x }))
    (record { x = x; unit = 0; over = 0 })
