-- What every answer is: what is answered where nothing is refused, else what goes with the refusal's number.
use Rattle.std.specs.Prelude.{ℕ, cond, eqb, Result, Ok, Err}
use Rattle.refusal.specs.declared.Refusal.{Refusal}
use Rattle.refusal.specs.Refusal.{number}

abbrev pub unless_refused : {X : Type 0} → ℕ → X → (ℕ → X) → X
unless_refused refusal answered refused = cond (eqb refusal 0) answered (refused refusal)

-- a result as one value: what is made of its value, or what goes with its refusal's number
abbrev pub shape : {X Z : Type 0} → (X → Z) → (ℕ → Z) → Result X Refusal → Z
shape answered refused (Ok x) = answered x
shape answered refused (Err e) = refused (number e)
