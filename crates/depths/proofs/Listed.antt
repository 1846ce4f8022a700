-- The list of the depths that have a kind, of any kinds and moments: what is in it, its order, its length and its words. Assumes nothing.
use Prim.Native.Nat.{ℕ, zero, suc, ◌+◌, ◌*◌, ◌≤◌, ◌<◌}
use mathlib.Core.Path.{◌≡◌, refl, ap, ◌∙◌}
use mathlib.Core.Bool.{Bool, true, false, cond}
use mathlib.Core.Logic.{⊎_elim}
use mathlib.Core.List.Memᴰ
use mathlib.Core.List.{List, [], ◌∷◌, ◌++◌, append-nil, Memᴰ}
use native.Mathlib.Nat as NatL
use native.Mathlib.Numerals.{add-one}
use native.Mathlib.Omega.{arith}
use lib.Dec.{eqb}
use lib.IntN.{ℤ, pos}
use lib.ListN.{length, get_or, length-append}
use borrow.Author.Tests.{eqb-false, eq-eqb, ne_eqb}
use Rattle.arith.specs.Sums.{sum_n}
use Rattle.depths.specs.Depths.{Entry, entry_of, entry_at, list_to, words, Rising}

-- the one at a place is in it
pub at_place : (es : List Entry) (i : ℕ) → i < length es → Memᴰ (entry_of es i) es
at_place [] i h = absurd (omega arith)
at_place (e ∷ es) zero h = Memᴰ.head refl
at_place (e ∷ es) (suc i) h = Memᴰ.tail (at_place es i (omega arith))

-- one entry more, or none, behind all others and deeper than they
rising_next :
    (low : ℕ) (es : List Entry) (e : Entry) (t : Bool)
    → Rising low es → ((f : Entry) → Memᴰ f es → f.depth < e.depth) → low < e.depth → Rising low (es ++ cond t [] (e ∷ []))
rising_next low [] e true r b h = tt
rising_next low [] e false r b h = (h, tt)
rising_next low (f ∷ es) e t r b h = (r.0, rising_next f.depth es e t r.1 (λ g w. b g (Memᴰ.tail w)) (b f (Memᴰ.head refl)))

module _ (k : ℕ → ℕ) (m : ℕ → ℤ) where
  abbrev pub entry : ℕ → Entry
  entry x = record { depth = x; kind = k x; moment = m x }

  -- ---- what is in it: the depths from 1 to n that have a kind
  abbrev pub Among : ℕ → Entry → Type 0
  Among n e = (1 ≤ e.depth) × (e.depth ≤ n) × (0 < k e.depth) × (e ≡ entry e.depth)

  entry_only : (x : ℕ) (e : Entry) → 1 ≤ x → Memᴰ e (entry_at k m x) → Among x e
  entry_only x e h = pick (eqb (k x) 0) refl
    where
      pick : (t : Bool) → eqb (k x) 0 ≡ t → Memᴰ e (cond t [] (entry x ∷ [])) → Among x e
      pick true f w = absurd (Memᴰ.not-nil w)
      pick false f w = rw (Memᴰ.eq_of_singleton w) (h, omega arith, NatL.pos_of_ne-zero (eqb-false (k x) 0 f), refl)

  pub list_only : (n : ℕ) (e : Entry) → Memᴰ e (list_to k m n) → Among n e
  unfolding list_to
  list_only zero e w = absurd (Memᴰ.not-nil w)
  list_only (suc n) e w =
      ⊎_elim (λ v. let l = list_only n e v in (l.0, omega arith, l.2, l.3)) (entry_only (suc n) e (omega arith)) (Memᴰ.append_cases (list_to k m n) w)

  pub list_all : (n x : ℕ) → 1 ≤ x → x ≤ n → 0 < k x → Memᴰ (entry x) (list_to k m n)
  unfolding list_to
  list_all zero x from to some = absurd (omega arith)
  list_all (suc n) x from to some =
      ⊎_elim (λ e. rw e (Memᴰ.append_right (list_to k m n) (last (rw e at some))))
      (λ h. Memᴰ.append_left (entry_at k m (suc n)) (list_all n x from (omega arith) some))
      (NatL.eq-or-lt_of_le to)
    where
      last : 0 < k (suc n) → Memᴰ (entry (suc n)) (entry_at k m (suc n))
      last h = rw (ne_eqb (k (suc n)) 0 (λ z. omega arith)) (Memᴰ.head refl)

  pub list_rising : (n : ℕ) → Rising 0 (list_to k m n)
  unfolding list_to
  list_rising zero = tt
  list_rising (suc n) =
      rising_next 0 (list_to k m n) (entry (suc n)) (eqb (k (suc n)) 0) (list_rising n) (λ f w. omega (arith, (list_only n f w).1)) (omega arith)

  -- ---- where no depth has one
  pub list_empty : (n : ℕ) → list_to k m n ≡ [] → (x : ℕ) → 1 ≤ x → x ≤ n → k x ≡ 0
  list_empty n e x from to = ⊎_elim (λ z. z) (λ h. absurd (Memᴰ.not-nil (rw e at (list_all n x from to h)))) (NatL.eq-zero-or-pos (k x))

  pub empty_list : (n : ℕ) → ((x : ℕ) → 1 ≤ x → x ≤ n → k x ≡ 0) → list_to k m n ≡ []
  unfolding list_to
  empty_list zero h = refl
  empty_list (suc n) h = rw (empty_list n (λ x p q. h x p (omega arith)), eq-eqb (k (suc n)) 0 (h (suc n) (omega arith) (omega arith)))

  -- ---- where one is the first that has
  pub list_first :
      (n x : ℕ) → 1 ≤ x → x ≤ n → (k x ≡ 0 → ⊥) → ((y : ℕ) → 1 ≤ y → y < x → k y ≡ 0)
      → (rest : List Entry) × (list_to k m n ≡ entry x ∷ rest)
  unfolding list_to
  list_first zero x from to some none = absurd (omega arith)
  list_first (suc n) x from to some none =
      ⊎_elim (λ e. ([], rw (empty_list n (λ y low high. none y low (omega arith)), e, ne_eqb (k (suc n)) 0 (rw e at some))))
      (λ h. let r = list_first n x from (omega arith) some none in (r.0 ++ entry_at k m (suc n), ap (λ es. es ++ entry_at k m (suc n)) r.1))
      (NatL.eq-or-lt_of_le to)

  -- ---- one depth more
  module _ (x : ℕ) where
    list_next : list_to k m (x + 1) ≡ list_to k m x ++ entry_at k m (x + 1)
    unfolding list_to
    list_next = rw add-one

    pub list_skips : k (x + 1) ≡ 0 → list_to k m (x + 1) ≡ list_to k m x
    list_skips h = list_next ∙ rw (eq-eqb (k (x + 1)) 0 h) (append-nil (list_to k m x))

    pub list_more : (k (x + 1) ≡ 0 → ⊥) → list_to k m (x + 1) ≡ list_to k m x ++ entry (x + 1) ∷ []
    list_more h = list_next ∙ rw (ne_eqb (k (x + 1)) 0 h)

    pub count_more : (k (x + 1) ≡ 0 → ⊥) → length (list_to k m (x + 1)) ≡ length (list_to k m x) + 1
    count_more h = rw (list_more h) (length-append (list_to k m x) (entry (x + 1) ∷ []))

  pub count_grows : (x n : ℕ) → x ≤ n → length (list_to k m x) ≤ length (list_to k m n)
  unfolding list_to
  count_grows x zero h = let e : x ≡ 0 = omega arith in rw e (omega arith)
  count_grows x (suc n) h =
      ⊎_elim (λ e. rw e (omega arith)) (λ i. omega (arith, count_grows x n (omega arith), length-append (list_to k m n) (entry_at k m (suc n))))
      (NatL.eq-or-lt_of_le h)

  -- as long as there are depths that have a kind, and never longer than the grid
  entry_count : (x : ℕ) → (length (entry_at k m x) ≡ cond (eqb (k x) 0) 0 1) × (length (entry_at k m x) ≤ 1)
  entry_count x = pick (eqb (k x) 0)
    where
      pick : (t : Bool) → (length (cond t [] (entry x ∷ [])) ≡ cond t 0 1) × (length (cond t [] (entry x ∷ [])) ≤ 1)
      pick true = (refl, omega arith)
      pick false = (refl, omega arith)

  pub count_kinds : (n : ℕ) → length (list_to k m n) ≡ sum_n n (λ i. cond (eqb (k (i + 1)) 0) 0 1)
  unfolding list_to sum_n
  count_kinds zero = refl
  count_kinds (suc n) = length-append (list_to k m n) (entry_at k m (suc n)) ∙ rw (count_kinds n, add-one n, (entry_count (suc n)).0)

  pub count_most : (n : ℕ) → length (list_to k m n) ≤ n
  unfolding list_to
  count_most zero = omega arith
  count_most (suc n) = omega (arith, count_most n, (entry_count (suc n)).1, length-append (list_to k m n) (entry_at k m (suc n)))

-- ---- its words
words_append : (a b : List Entry) → words (a ++ b) ≡ words a ++ words b
unfolding words
words_append [] b = refl
words_append (e ∷ a) b = ap (λ w. pos e.depth ∷ pos e.kind ∷ e.moment ∷ w) (words_append a b)

pub words_length : (a : List Entry) → length (words a) ≡ 3 * length a
unfolding words
words_length [] = refl
words_length (e ∷ a) = omega (arith, words_length a)

pub words_more :
    (k : ℕ → ℕ) (m : ℕ → ℤ) (x : ℕ)
    → (k (x + 1) ≡ 0 → ⊥) → words (list_to k m (x + 1)) ≡ words (list_to k m x) ++ pos (x + 1) ∷ pos (k (x + 1)) ∷ m (x + 1) ∷ []
unfolding words
words_more k m x h = rw (list_more k m x h) (words_append (list_to k m x) (entry k m (x + 1) ∷ []))

-- read back from a row, whatever stands after them
abbrev pub words_of : Entry → List ℤ
words_of e = pos e.depth ∷ pos e.kind ∷ e.moment ∷ []

pub word_of :
    (es : List Entry) (rest : List ℤ) (j r : ℕ)
    → j < length es → r < 3 → get_or (words es ++ rest) (3 * j + r) (pos 0) ≡ get_or (words_of (entry_of es j)) r (pos 0)
unfolding words
word_of [] rest j r h l = absurd (omega arith)
word_of (e ∷ es) rest zero zero h l = refl
word_of (e ∷ es) rest zero (suc zero) h l = refl
word_of (e ∷ es) rest zero (suc (suc zero)) h l = refl
word_of (e ∷ es) rest zero (suc (suc (suc r))) h l = absurd (omega arith)
word_of (e ∷ es) rest (suc j) r h l =
    let i : 3 * suc j + r ≡ suc (suc (suc (3 * j + r))) = omega arith in
    rw i (word_of es rest j r (omega arith) l)
