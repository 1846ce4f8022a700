-- Lists one after another, and a list written over another's front.
use Rattle.std.specs.Prelude.{ℕ, zero, suc, List, [], ◌++◌, length, drop}

-- n of them, counted from 0
unfoldable pub joined : {X : Type 0} → (ℕ → List X) → ℕ → List X
joined f zero = []
joined f (suc n) = joined f n ++ f n

-- what is past it stays
abbrev pub over : {X : Type 0} → List X → List X → List X
over p l = p ++ drop (length p) l
