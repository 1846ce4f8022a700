-- What chains of iterators make of a list, and what the rules say of it place by place, is one. Assumes nothing.
use Prim.Native.Nat.{ℕ, zero, suc}
use mathlib.Core.Path.{◌≡◌, refl, sym, ap, ◌∙◌}
use mathlib.Core.Bool.{Bool, ◌&&◌, and-true, and_assoc}
use mathlib.Core.List.{List, ◌∷◌}
use lib.ListN.{length, get_or}
use Rattle.std.specs.List.{list_all, sum_by}
use Rattle.std.proofs.lemmas.List.Recursion.{same_from_clauses, is_sum_by}
use Rattle.arith.specs.Below.{all_below}
use Rattle.arith.specs.Sums.{sum_n, placed, sum_over}
use Rattle.arith.proofs.Sums.{sum_first}

-- the first test apart
below_first : (n : ℕ) (p : ℕ → Bool) → all_below (suc n) p ≡ (p 0 && all_below n (λ i. p (suc i)))
unfolding all_below
below_first zero p = sym (and-true (p 0))
below_first (suc n) p = ap (λ b. b && p (suc n)) (below_first n p) ∙ and_assoc (p 0) (all_below n (λ i. p (suc i))) (p (suc n))

pub all_by_place : (p : ℕ → Bool) (xs : List ℕ) → all_below (length xs) (λ i. p (get_or xs i 0)) ≡ list_all p xs
unfolding all_below
all_by_place p =
    same_from_clauses (λ xs. all_below (length xs) (λ i. p (get_or xs i 0))) (list_all p) (λ x b. p x && b) refl
    (λ x xs. below_first (length xs) (λ i. p (get_or (x ∷ xs) i 0))) (λ x xs. refl)

pub sum_by_place : (f : ℕ → ℕ) (xs : List ℕ) → sum_over f xs ≡ sum_by f xs
unfolding sum_n
sum_by_place f = is_sum_by (sum_over f) f refl (λ x xs. sum_first (length xs) (placed f (x ∷ xs)))
