-- What a private function is handed and answers. No public contract cites it.
use Rattle.std.specs.Prelude.{ℕ, ◌+◌, ◌≤◌, ◌<◌, ◌≡◌, Bool, true, false}

-- of the numbers below `end`, what a test says
abbrev pub Tests : (says : ℕ → Bool → Type 0) (passes : ℕ → Bool) (end : ℕ) → Type 0
Tests says passes end = (n : ℕ) (b : Bool) → n < end → says n b → b ≡ passes n

-- n passes, and the number a run above it does not, or ends the numbers that are looked at
pub record Narrowed (p : ℕ → Bool) (end n run : ℕ) : Type 0 where
  pub fits : p n ≡ true
  pub within : n + run ≤ end
  pub next : n + run < end → p (n + run) ≡ false
