-- The mean of values by their weights, rounded down: it lies where all lie that have a weight. Assumes nothing.
use Prim.Native.Nat.{ℕ, zero, suc, ◌*◌, ◌/◌, ◌≤◌, ◌<◌}
use mathlib.Core.Path.{◌≡◌, sym}
use native.Mathlib.Nat as NatL
use native.Mathlib.Omega.{arith}
use Rattle.arith.specs.Sums.{sum_n}
use Rattle.arith.proofs.Sums.{sum_under}

weigh : (w : ℕ) {a b : ℕ} → (0 < w → a ≤ b) → w * a ≤ w * b
weigh zero {a} {b} h = omega (arith, NatL.zero-mul a)
weigh (suc w) h = NatL.mul-le-mul_left (suc w) (h (omega arith))

weighed_alike : (n c : ℕ) (w : ℕ → ℕ) → sum_n n (λ i. w i * c) ≡ sum_n n w * c
unfolding sum_n
weighed_alike zero c w = sym (NatL.zero-mul c)
weighed_alike (suc n) c w = rw (weighed_alike n c w) (sym (NatL.add-mul (sum_n n w) (w n) c))

module _ (w v : ℕ → ℕ) (n : ℕ) where
  pub mean_least : (low : ℕ) → 0 < sum_n n w → ((i : ℕ) → i < n → 0 < w i → low ≤ v i) → low ≤ sum_n n (λ i. w i * v i) / sum_n n w
  mean_least low some h =
      let least = sum_under (λ i. w i * low) (λ i. w i * v i) n (λ i k. weigh (w i) (h i k)) in
      (NatL.le-div_iff_mul-le some).1 (omega (arith, least, weighed_alike n low w, NatL.mul_comm low (sum_n n w)))

  pub mean_most : (high : ℕ) → ((i : ℕ) → i < n → 0 < w i → v i ≤ high) → sum_n n (λ i. w i * v i) / sum_n n w ≤ high
  mean_most high h =
      let most = sum_under (λ i. w i * v i) (λ i. w i * high) n (λ i k. weigh (w i) (h i k)) in
      NatL.div-le_of_le-mul (sum_n n w) (omega (arith, most, weighed_alike n high w))
