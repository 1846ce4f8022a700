-- Whole numbers below zero, for the two ends of a ramp. Assumes nothing.
use Prim.Native.Nat.{ℕ, zero, suc, ◌+◌, ◌*◌, ◌-◌, ◌≤◌}
use mathlib.Core.Path.{◌≡◌, refl, sym, ap, ◌∙◌}
use native.Mathlib.Nat as NatL
use native.Mathlib.Omega.{arith}
use lib.IntN.{pos, neg_ℤ, ◌+ℤ◌, ◌-ℤ◌, ◌*ℤ◌, neg_ℤ-neg_ℤ, neg_ℤ-+ℤ, +ℤ_comm}
use borrow.Author.Tests.{le-ltb}

pub less : (a b : ℕ) → b ≤ a → pos a -ℤ pos b ≡ pos (a - b)
less a zero h = ap pos (omega arith)
less a (suc b) h = rw (le-ltb a (suc b) h)

pub between : (a b : ℕ) → a ≤ b → neg_ℤ (pos a) -ℤ neg_ℤ (pos b) ≡ pos (b - a)
between a b h = ap (λ z. neg_ℤ (pos a) +ℤ z) (neg_ℤ-neg_ℤ (pos b)) ∙ +ℤ_comm (neg_ℤ (pos a)) (pos b) ∙ less b a h

pub times : (s v : ℕ) → neg_ℤ (pos s) *ℤ pos v ≡ neg_ℤ (pos (s * v))
times zero v = rw (NatL.zero-mul v)
times (suc s) v = refl

pub plus : (a b : ℕ) → neg_ℤ (pos a) +ℤ neg_ℤ (pos b) ≡ neg_ℤ (pos (a + b))
plus a b = sym (neg_ℤ-+ℤ (pos a) (pos b))
