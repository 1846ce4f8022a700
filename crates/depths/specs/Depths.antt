-- Document 01, 'Strains, strips and balance': the depths that are listed, each with its kind and its moment.
use Rattle.std.specs.Prelude.{ℕ, zero, suc, ◌+◌, ◌*◌, ◌≤◌, ◌<◌, ◌≡◌, Bool, cond, ◌&&◌, ◌||◌, List, [], ◌∷◌, ◌++◌, ltb, eqb, ℤ, pos, nat_abs, length, get_or, drop}
use Rattle.std.specs.Int.Signed.{lt_z}
use Rattle.section.specs.declared.Section.{Section}
use Rattle.section.specs.Has.{last_depth}
use Rattle.law.specs.declared.Law.{Law}
use Rattle.depths.specs.declared.Kind.{Kind}
use Rattle.depths.specs.declared.Kind.TheVariants.{Zero, Pair}
use Rattle.forces.specs.Forces.{imbalance_under, moments, imbalance, moment}

-- strictly opposite signs
abbrev pub opposite : ℤ → ℤ → Bool
opposite a b = (lt_z a (pos 0) && lt_z (pos 0) b) || (lt_z (pos 0) a && lt_z b (pos 0))

-- the kinds, by their numbers
abbrev pub kind_number : Kind → ℕ
kind_number Zero = 1
kind_number Pair = 2

-- of any imbalances on a grid: kind 1 if the imbalance is zero, kind 2 if it has the opposite sign at the next depth of the grid, else none
abbrev pub kind_of : (ℕ → ℤ) → (last : ℕ) → ℕ → ℕ
kind_of imbalance last x =
    cond (eqb (nat_abs (imbalance x)) 0) 1
    (cond (ltb x last && opposite (imbalance x) (imbalance (x + 1))) 2
    0)

unfoldable pub kind_at : Section → ℕ → ℕ
kind_at s = kind_of (imbalance s) (last_depth s)

pub record Entry : Type 0 where
  pub depth : ℕ
  pub kind : ℕ
  pub moment : ℤ

-- an entry of a list, by its place
abbrev pub entry_of : List Entry → ℕ → Entry
entry_of es j = get_or es j (record { depth = 0; kind = 0; moment = pos 0 })

-- of any kinds and moments: the depths from 1 to n that have a kind, shallowest first
abbrev pub entry_at : (ℕ → ℕ) → (ℕ → ℤ) → ℕ → List Entry
entry_at kind moment x = cond (eqb (kind x) 0) [] (record { depth = x; kind = kind x; moment = moment x } ∷ [])

unfoldable pub list_to : (ℕ → ℕ) → (ℕ → ℤ) → ℕ → List Entry
list_to kind moment zero = []
list_to kind moment (suc n) = list_to kind moment n ++ entry_at kind moment (suc n)

abbrev pub listed : Section → List Entry
listed s = list_to (kind_at s) (moment s) (last_depth s)

-- and under any law
abbrev pub listed_under : Law → Section → List Entry
listed_under l s = list_to (kind_of (imbalance_under l s) (last_depth s)) (moments l s) (last_depth s)

-- the words of the row, three for each listed depth
unfoldable pub words : List Entry → List ℤ
words [] = []
words (e ∷ es) = pos e.depth ∷ pos e.kind ∷ e.moment ∷ words es

-- the row that a list is written into: the words after it stay
abbrev pub written : List Entry → List ℤ → List ℤ
written es row = words es ++ drop (3 * length es) row

-- ---- what is said of the list
-- an entry whose depth is on the grid and has that kind and that moment
pub record Balances (s : Section) (e : Entry) : Type 0 where
  pub from : 1 ≤ e.depth
  pub to : e.depth ≤ last_depth s
  pub kind : e.kind ≡ kind_at s e.depth
  pub some : 0 < e.kind
  pub moment : e.moment ≡ moment s e.depth

-- some depth balances, or none
abbrev pub SomeDepth : Section → Type 0
SomeDepth s = (e : Entry) × Balances s e

abbrev pub NoDepth : Section → Type 0
NoDepth s = (x : ℕ) → 1 ≤ x → x ≤ last_depth s → kind_at s x ≡ 0

-- strictly ascending from above `low` on, so each once
abbrev pub Rising : ℕ → List Entry → Type 0
Rising low [] = Unit
Rising low (e ∷ es) = (low < e.depth) × Rising e.depth es
