-- Products: of a difference, and of numbers that are bounded. Assumes nothing.
use Prim.Native.Nat.{ℕ, ◌-◌, ◌*◌, ◌<◌}
use mathlib.Core.Path.{◌≡◌, sym, ◌∙◌}
use native.Mathlib.Nat.{mul_comm, mul-sub, mul-le-mul}
use native.Mathlib.Omega.{arith}

pub sub_scale : (a b c : ℕ) → a * c - b * c ≡ (a - b) * c
sub_scale a b c = sym (mul_comm (a - b) c ∙ mul-sub c a b ∙ (λ i. mul_comm c a i - mul_comm c b i))

pub narrow_product : (a b : ℕ) → a < 65536 → b < 65536 → a * b < 4294967296
narrow_product a b h k = omega (arith, mul-le-mul {n₁ = a} {m₁ = b} {n₂ = 65535} {m₂ = 65535} (omega arith) (omega arith))
