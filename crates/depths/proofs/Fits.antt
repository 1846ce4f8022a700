-- At every depth of an accepted section the strips' bounds are closed sums, and they will be with the axes that are to come. Assumes nothing.
use Prim.Native.Nat.{ℕ, ◌*◌, ◌-◌, ◌≤◌, ◌<◌}
use mathlib.Core.Path.{◌≡◌, refl, ap, ◌∙◌}
use mathlib.Core.Bool.{Bool, true, false, cond}
use native.Mathlib.Omega.{arith}
use lib.Dec.{ltb}
use borrow.Author.Tests.{ltb-true}
use Rattle.section.specs.declared.Section.{Section}
use Rattle.section.specs.Accepted.{Accepted}
use Rattle.section.specs.Has.{last_depth}
use Rattle.law.specs.declared.Law.{Law}
use Rattle.law.specs.Edition.{edition}
use Rattle.law.specs.Law.{law_of}
use Rattle.law.proofs.Ranges.{law_in}
use Rattle.strips.specs.declared.Axis.{Axis}
use Rattle.strips.specs.Strips.{Scale, scale_of}
use Rattle.strips.specs.Bounds.{fits}
use Rattle.strips.specs.Code.{AxisFit}
use Rattle.strips.proofs.Within.{fits_is}
use Rattle.forces.specs.Forces.{strain_scale}
use Rattle.forces.specs.Axis.{axis_at}
use Rattle.forces.proofs.Strains.{below_axis, axis_is}

-- an axis by its strains
by_scale :
    (a : Axis) (unit over : ℕ) → scale_of a ≡ record { num = 500 * unit; den = over }
    → 0 < over → over ≤ 22000 → 0 < unit → unit ≤ 50 → a.x ≤ 2000 → AxisFit a
by_scale a unit over e some most low high x =
    let num = ap (λ (k : Scale). k.num) e in
    let den = ap (λ (k : Scale). k.den) e in
    record { over = (omega arith, omega arith); unit = (omega arith, omega arith); x = x }

axis_fits_is : {s : Section} → Accepted s → (a : Axis) → 0 < a.x → a.x ≤ last_depth s → scale_of a ≡ strain_scale (law_of s) a.x → AxisFit a
unfolding strain_scale edition
axis_fits_is {s} k a some to e = pick (ltb ((law_of s).ratio * a.x) (7 * (law_of s).limit)) refl e
  where
    pick : (t : Bool) → ltb ((law_of s).ratio * a.x) (7 * (law_of s).limit) ≡ t
        → scale_of a ≡ cond t (record { num = (law_of s).strain; den = 2 * ((law_of s).limit - a.x) }) (record { num = 3500; den = 2 * a.x }) → AxisFit a
    pick true t e =
        let deep = below_axis a.x (omega (arith, (law_in k).ratio)) (ltb-true _ _ t) in
        let strain : (law_of s).strain ≡ 500 * 20 = (law_in k).strain in
        by_scale a 20 (2 * ((law_of s).limit - a.x)) (e ∙ ap (λ m. record { num = m; den = 2 * ((law_of s).limit - a.x) }) strain)
        (omega arith) (omega (arith, (law_in k).limit.1)) (omega arith) (omega arith)
        (omega (arith, k.sizes.1.1))
    pick false t e = by_scale a 7 (2 * a.x) e (omega arith) (omega (arith, k.sizes.1.1)) (omega arith) (omega arith) (omega (arith, k.sizes.1.1))

pub always_fits :
    {s : Section} → Accepted s → {l : Law} → l ≡ law_of s
    → {x : ℕ} → 0 < x → x ≤ last_depth s → {a : Axis} → a ≡ axis_at l x → fits l a s.h ≡ true
unfolding edition
always_fits {s} k {l} is some to {a} e =
    let n = law_in k in
    let w = axis_is k is to e in
    let axis = axis_fits_is k a (omega (arith, w.0)) (omega (arith, w.0)) w.1 in
    (fits_is l a s.h).1
    (rw is
    record {
      axis = axis;
      few = omega (arith, k.sizes.1.1);
      lines = n.lines;
      fcd = n.fcd.1;
      s1 = omega (arith, n.s1.1);
      s2 = omega (arith, n.s2);
      s3 = omega (arith, n.s3);
      e3 = omega (arith, n.e3);
    })

-- ---- to come: 25 per mille at the limit ([9]), and an axis below the section ([14])
pub final_text_fits : (d x : ℕ) → d ≤ 1000 → 57 * x < 7 * d → AxisFit (record { x = x; unit = 50; over = 2 * (d - x) })
final_text_fits d x most h = record { over = (omega arith, omega arith); unit = (omega arith, omega arith); x = omega arith }

pub full_compression_fits : (h x : ℕ) → h ≤ 1000 → h < x → x ≤ 2 * h → AxisFit (record { x = x; unit = 28; over = 2 * (7 * x - 3 * h) })
full_compression_fits h x most low high = record { over = (omega arith, omega arith); unit = (omega arith, omega arith); x = omega arith }
