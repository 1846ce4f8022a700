-- What does not hang on the order of a list's numbers: sums over them, their number, a test of each. Assumes nothing.
use Prim.Native.Nat.{ℕ, zero, suc, ◌+◌, ◌<◌}
use mathlib.Core.Path.{◌≡◌, refl, sym, ap, ◌∙◌}
use mathlib.Core.Bool.{Bool, true, false, cond, ◌&&◌}
use mathlib.Core.List.{List, [], ◌∷◌}
use native.Mathlib.Nat as NatL
use native.Mathlib.Omega.{arith}
use lib.Dec.{eqb}
use lib.ListN.{length, get_or}
use borrow.Author.Tests.{eqb-true, eq-eqb, ne_eqb}
use Rattle.arith.specs.Below.{all_below}
use Rattle.arith.specs.Sums.{sum_n, placed, sum_over}
use Rattle.arith.specs.Rearranged.{counts, times, Rearranged}
use Rattle.arith.proofs.Sums.{sum_first, sum_alike}

-- ---- the first number, and the rest
sum_cons : (f : ℕ → ℕ) (n : ℕ) (l : List ℕ) → sum_over f (n ∷ l) ≡ f n + sum_over f l
sum_cons f n l = sum_first (length l) (placed f (n ∷ l))

-- a list without the first v
without : ℕ → List ℕ → List ℕ
without v [] = []
without v (n ∷ l) = cond (eqb n v) l (n ∷ without v l)

-- which a sum over a list that has v counts apart
module _ (f : ℕ → ℕ) (v : ℕ) where
  abbrev Apart : List ℕ → List ℕ → Type 0
  Apart l rest = 0 < times v l → sum_over f l ≡ f v + sum_over f rest

  apart_by : (n : ℕ) (l rest : List ℕ) (t : Bool) → eqb n v ≡ t → Apart l rest → Apart (n ∷ l) (cond t l (n ∷ rest))
  apart_by n l rest true e inner some = rw (← eqb-true n v e) (sum_cons f n l)
  apart_by n l rest false e inner some =
      let there : 0 < times v l = omega (arith, sum_cons (counts v) n l, ap (λ t. cond {A = ℕ} t 1 0) e) in
      omega (arith, sum_cons f n l, sum_cons f n rest, inner there)

  apart : (l : List ℕ) → Apart l (without v l)
  unfolding sum_n without
  apart [] = λ some. absurd (omega arith)
  apart (n ∷ l) = apart_by n l (without v l) (eqb n v) refl (apart l)

-- ---- the same numbers, each as often
has_first : (n : ℕ) (l : List ℕ) → 0 < times n (n ∷ l)
has_first n l = omega (arith, sum_cons (counts n) n l, ap (λ t. cond {A = ℕ} t 1 0) (eq-eqb n n refl))

pub sum_rearranged : (f : ℕ → ℕ) (l k : List ℕ) → Rearranged l k → sum_over f l ≡ sum_over f k
unfolding sum_n
sum_rearranged f [] [] same = refl
sum_rearranged f [] (n ∷ k) same = absurd (omega (arith, same n, has_first n k))
sum_rearranged f (n ∷ l) k same =
    let there : 0 < times n k = omega (arith, same n, has_first n l) in
    let rest : Rearranged l (without n k) = λ v. omega (arith, same v, sum_cons (counts v) n l, apart (counts v) n k there) in
    omega (arith, sum_cons f n l, apart f n k there, sum_rearranged f l (without n k) rest)

pub length_rearranged : (l k : List ℕ) → Rearranged l k → length l ≡ length k
length_rearranged l k same = omega (arith, sum_rearranged (λ n. 1) l k same, sum_alike (length l) 1, sum_alike (length k) 1)

-- a test that each passes is one that none fails
one_more : (all t : Bool) (fails : ℕ) → all ≡ eqb fails 0 → all && t ≡ eqb (fails + cond t 0 1) 0
one_more true true fails e = rw (NatL.add-zero fails) e
one_more false true fails e = rw (NatL.add-zero fails) e
one_more true false fails e = sym (ne_eqb (fails + 1) 0 (λ z. omega arith))
one_more false false fails e = sym (ne_eqb (fails + 1) 0 (λ z. omega arith))

none_fails : (p : ℕ → Bool) (n : ℕ) → all_below n p ≡ eqb (sum_n n (λ i. cond (p i) 0 1)) 0
unfolding all_below sum_n
none_fails p zero = refl
none_fails p (suc n) = one_more (all_below n p) (p n) _ (none_fails p n)

pub test_rearranged :
    (p : ℕ → Bool) (l k : List ℕ) → Rearranged l k → all_below (length l) (λ i. p (get_or l i 0)) ≡ all_below (length k) (λ i. p (get_or k i 0))
test_rearranged p l k same =
    none_fails (λ i. p (get_or l i 0)) (length l) ∙ ap (λ n. eqb n 0) (sum_rearranged (λ n. cond (p n) 0 1) l k same)
    ∙ sym (none_fails (λ i. p (get_or k i 0)) (length k))
