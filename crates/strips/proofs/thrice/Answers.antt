-- `thrice`: n is at most 4 n³.
use Prim.Native.Nat.{ℕ, ◌*◌, ◌≤◌}
use native.Mathlib.Nat.{mul-le-mul}
use native.Mathlib.Omega.{arith}
use Rattle.strips.proofs.Closed.{thrice_some}
use Rattle.strips.proofs.thrice.Goals as goal

cube : {n : ℕ} → n ≤ 2000 → (n * n ≤ 4000000) × (n * n * n ≤ 8000000000)
cube h = (mul-le-mul {n₂ = 2000} {m₂ = 2000} h h, mul-le-mul {n₂ = 4000000} {m₂ = 2000} (mul-le-mul {n₂ = 2000} {m₂ = 2000} h h) h)

pub overflow_mul-result : goal.overflow_mul-result
overflow_mul-result c = record { fits = omega (arith, cube c.requires) }

pub overflow_mul-result-2 : goal.overflow_mul-result-2
overflow_mul-result-2 c = record { fits = omega (arith, cube c.requires) }

pub overflow_mul-result-3 : goal.overflow_mul-result-3
overflow_mul-result-3 c = record { fits = omega (arith, cube c.requires) }

pub overflow_sub-result : goal.overflow_sub-result
overflow_sub-result c = thrice_some c.args.n

pub returns : goal.returns
returns c = omega (arith, cube c.requires)
