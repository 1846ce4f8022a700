-- The stress of a strip of a section, from what the crate of strips answers. Assumes nothing.
use Prim.Native.Nat.{ℕ}
use mathlib.Core.Path.{◌≡◌, refl, ap, ◌∙◌}
use lib.Dec.{leb}
use Rattle.section.specs.declared.Section.{Section}
use Rattle.section.specs.Accepted.{Accepted}
use Rattle.law.specs.declared.Law.{Law}
use Rattle.law.specs.Law.{law_of}
use Rattle.law.specs.Stress.{signed, rounded}
use Rattle.law.specs.Sizes.{small}
use Rattle.law.proofs.Sizes.{small_law}
use Rattle.strips.specs.declared.Axis.{Axis}
use Rattle.strips.specs.Strips.{strip, scale_of, strip_size}
use Rattle.strips.proofs.Runs.{strip_rounded}
use Rattle.forces.specs.Forces.{strain_scale, strip_stress}

pub strip_is : (s : Section) (l : Law) (a : Axis) → Accepted s → l ≡ law_of s → scale_of a ≡ strain_scale (law_of s) a.x
    → (i : ℕ) → signed (leb a.x i) (strip_size l (leb a.x i) a i) ≡ rounded (strip_stress (law_of s) s a.x i)
strip_is s l a ok law scale i =
    strip_rounded l a i (leb a.x i) (ap small law ∙ small_law ok) refl
    ∙ (λ j. rounded (strip (law j) (scale j) a.x i))
