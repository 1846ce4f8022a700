-- The strains of a neutral axis: that the code's axis has them, by the two cases of 3.1.1. Assumes nothing.
use Prim.Native.Nat.{ℕ, ◌*◌, ◌-◌, ◌/◌, ◌≤◌, ◌<◌}
use mathlib.Core.Path.{◌≡◌, refl, sym, ap, ◌∙◌}
use mathlib.Core.Bool.{Bool, true, false, cond}
use native.Mathlib.Nat as NatL
use native.Mathlib.Omega.{arith}
use lib.Dec.{ltb}
use borrow.Author.Tests.{lt-ltb, le-leb}
use Rattle.section.specs.declared.Section.{Section}
use Rattle.section.specs.Accepted.{Accepted}
use Rattle.section.specs.Has.{last_depth}
use Rattle.law.specs.declared.Law.{Law}
use Rattle.law.specs.Edition.{edition}
use Rattle.law.specs.Law.{law_of}
use Rattle.law.proofs.Ranges.{law_in}
use Rattle.strips.specs.declared.Axis.{Axis}
use Rattle.strips.specs.Strips.{scale_of}
use Rattle.forces.specs.Forces.{strain_scale}
use Rattle.forces.specs.Axis.{axis_fits, axis_at}

-- ---- an axis that has room for its strains
fits : (l : Law) (x : ℕ) → l.limit < 32768 → l.strain < 128000 → 7 ≤ l.ratio → x < 32768 → axis_fits l x ≡ true
fits l x a b c d = rw (lt-ltb l.limit 32768 a, lt-ltb l.strain 128000 b, le-leb 7 l.ratio c, lt-ltb x 32768 d)

-- the depth of the limit strain lies below the axis where it is reached
pub below_axis : {ratio limit : ℕ} (x : ℕ) → 7 ≤ ratio → ratio * x < 7 * limit → x < limit
below_axis x seven h = omega (arith, NatL.mul-le-mul_right x seven)

-- ---- of an accepted section
strains :
    {s : Section} → Accepted s → {l : Law} → l ≡ law_of s → (x : ℕ) → x ≤ last_depth s
    → ((axis_at l x).x ≡ x) × (scale_of (axis_at l x) ≡ strain_scale (law_of s) x)
unfolding axis_at strain_scale edition
strains {s} a is x to =
    let n = law_in a in
    let own = law_of s in
    let room : axis_fits own x ≡ true = fits own x (omega arith) (omega arith) (omega arith) (omega (arith, a.sizes.1.1)) in
    rw (is, room) (pick (ltb (own.ratio * x) (7 * own.limit)) (own.strain / 500) own.strain (2 * (own.limit - x)) (rw n.strain refl))
  where
    pick : (t : Bool) (unit strain over : ℕ) → 500 * unit ≡ strain
        → let at : Axis = cond t (record { x = x; unit = unit; over = over }) (record { x = x; unit = 7; over = 2 * x }) in
        (at.x ≡ x) × (scale_of at ≡ cond t (record { num = strain; den = over }) (record { num = 3500; den = 2 * x }))
    pick true unit strain over e = (refl, ap (λ n. record { num = n; den = over }) e)
    pick false unit strain over e = (refl, refl)

-- the code's axis is the depth's
pub axis_is :
    {s : Section} → Accepted s → {l : Law} → l ≡ law_of s → {x : ℕ} → x ≤ last_depth s → {a : Axis} → a ≡ axis_at l x
    → (a.x ≡ x) × (scale_of a ≡ strain_scale (law_of s) a.x)
axis_is {s} k is {x} to e = let w = strains k is x to in rw e (w.0, w.1 ∙ ap (strain_scale (law_of s)) (sym w.0))
