-- The figures, computed from the definitions; the roots are held to what they satisfy. Assumes nothing.
use Prim.Native.Nat.{◌*◌}
use mathlib.Core.Path.{◌≡◌, refl}
use mathlib.Core.Bool.{true}
use native.Mathlib.Omega.{arith}
use Rattle.law.specs.Edition.{edition}
use Rattle.law.specs.Law.{flexural, modulus, s1_of, e1_of, law_by}
use Rattle.law.specs.Stress.{compressed, stretched}
use Rattle.roots.proofs.Theorems.{root_is}
use Rattle.shear.specs.Shear.{c_of}
use Rattle.shear.proofs.Roots.{k_is}
use Rattle.class.specs.Class.{ladder, largest_step, step_of, class_refusal, class_of}
use Rattle.panel.specs.Face.{class_answer}
use Rattle.demands.specs.Figures.{Figures}

c_figure : c_of (400 * 540) 3216 30 ≡ 3548
unfolding c_of
c_figure = root_is true (400 * 540) (100000000000 * 3216 * 30) 3548 (omega arith) refl refl

pub figures : Figures
unfolding ladder largest_step step_of class_refusal class_of class_answer edition flexural modulus s1_of e1_of law_by compressed stretched
figures = (
  (refl, refl, refl),
  (refl, refl, refl),
  (refl, refl, refl),
  (refl, refl, refl),
  (refl, refl),
  (refl, refl),
  refl,
  refl,
  refl,
  refl,
  refl,
  refl,
  refl,
  k_is 540 608 (omega arith) refl refl,
  c_figure,
)
