-- What 17 decides. Assumes nothing.
use Prim.Native.Nat.{ℕ, ◌*◌}
use mathlib.Core.Path.{◌≡◌, refl}
use mathlib.Core.Bool.{Bool, true, false, not, cond, ◌&&◌}
use lib.Dec.{ltb}
use Rattle.arith.proofs.Tests.{Decides, is_not_less, is_both}
use Rattle.class.specs.Class.{step_of, class_refusal, ClassIn}

module _ (fr1 fr3 : ℕ) where
  -- its two tests are one
  pub class_line : class_refusal fr1 fr3 ≡ cond (not (ltb fr1 1000) && not (ltb (2 * fr3) (step_of fr1))) 0 17
  unfolding class_refusal
  class_line = together (ltb fr1 1000) (ltb (2 * fr3) (step_of fr1))
    where
      together : (a b : Bool) → ◌≡◌ {A = ℕ} (cond a 17 (cond b 17 0)) (cond (not a && not b) 0 17)
      together true b = refl
      together false true = refl
      together false false = refl

  pub class_in : Decides (not (ltb fr1 1000) && not (ltb (2 * fr3) (step_of fr1))) (ClassIn fr1 fr3)
  class_in = is_both (is_not_less fr1 1000) (is_not_less (2 * fr3) (step_of fr1))
