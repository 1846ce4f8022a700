-- Lists one after another, and a list that is written from its front on. Assumes nothing.
use Prim.Native.Nat.{ℕ, zero, suc, ◌+◌, ◌*◌, ◌-◌, ◌≤◌, ◌<◌}
use mathlib.Core.Path.{◌≡◌, refl, sym, ap, ◌∙◌}
use mathlib.Core.List.{List, ◌++◌, append_assoc, append-nil}
use native.Mathlib.Nat.{add-zero, add-suc}
use native.Mathlib.Numerals.{add-one}
use native.Mathlib.Omega.{arith}
use lib.ListN.{length, get_or, take, drop, length-append, length-drop}
use lib.Seq.{take_at, take-append_seam, drop-append-add, drop-append_seam, drop-drop, get_or-take, get_or-drop}
use Rattle.arith.specs.Joined.{joined, over}
use Rattle.arith.specs.Sums.{after}

module _ {X : Type 0} where
  -- ---- written over
  pub over_length : (p l : List X) → length p ≤ length l → length (over p l) ≡ length l
  over_length p l h = simp (length-append, length-drop) (omega arith)

  -- and further on, from where it ends
  pub over_part : (p ws l : List X) (n : ℕ) → length p ≡ n → take n (over p l) ++ ws ++ drop (n + length ws) (over p l) ≡ over (p ++ ws) l
  over_part p ws l n e =
      rw (take_at p (drop (length p) l) n e, length-append p ws, ← e, drop-append-add p (drop (length p) l) (length ws), drop-drop (length ws) (length p) l)

  pub over_front : (p l : List X) → take (length p) (over p l) ≡ p
  over_front p l = take-append_seam p (drop (length p) l)

  -- ---- one after another
  pub joined_next : (f : ℕ → List X) (n : ℕ) → joined f (n + 1) ≡ joined f n ++ f n
  unfolding joined
  joined_next f n = rw add-one

  pub joined_alike : (f g : ℕ → List X) (n : ℕ) → ((i : ℕ) → i < n → f i ≡ g i) → joined f n ≡ joined g n
  unfolding joined
  joined_alike f g zero h = refl
  joined_alike f g (suc n) h = rw (joined_alike f g n (λ i l. h i (omega arith)), h n (omega arith))

  pub joined_length : (f : ℕ → List X) (c n : ℕ) → ((i : ℕ) → i < n → length (f i) ≡ c) → length (joined f n) ≡ c * n
  unfolding joined
  joined_length f c zero h = omega arith
  joined_length f c (suc n) h = rw (length-append (joined f n) (f n), joined_length f c n (λ i l. h i (omega arith)), h n (omega arith)) (omega arith)

  pub joined_split : (f : ℕ → List X) (a b : ℕ) → joined f (a + b) ≡ joined f a ++ joined (after a f) b
  unfolding joined
  joined_split f a zero = rw (add-zero, append-nil (joined f a))
  joined_split f a (suc b) = rw (add-suc, joined_split f a b) (append_assoc (joined f a) (joined (after a f) b) (f (a + b)))

  module _ (f : ℕ → List X) (n i : ℕ) (h : i < n) where
    -- those after the i-th
    abbrev rest : List X
    rest = joined (after (i + 1) f) (n - (i + 1))

    pub joined_at : joined f n ≡ joined f i ++ f i ++ rest
    joined_at =
        let e : n ≡ i + 1 + (n - (i + 1)) = omega arith in
        ap (joined f) e ∙ joined_split f (i + 1) (n - (i + 1)) ∙ ap (λ (l : List X). l ++ rest) (joined_next f i)

    pub joined_part : (t : List X) → take (length (f i)) (drop (length (joined f i)) (joined f n ++ t)) ≡ f i
    joined_part t = rw (joined_at, append_assoc (joined f i ++ f i) rest t, append_assoc (joined f i) (f i) (rest ++ t), drop-append_seam (joined f i) (f i ++ (rest ++ t))) (take-append_seam (f i) (rest ++ t))

    pub joined_get : (t : List X) (j : ℕ) (d : X) → j < length (f i) → get_or (joined f n ++ t) (length (joined f i) + j) d ≡ get_or (f i) j d
    joined_get t j d k =
        sym (get_or-drop (length (joined f i)) (joined f n ++ t) j d)
        ∙ sym (get_or-take (length (f i)) (drop (length (joined f i)) (joined f n ++ t)) j d k)
        ∙ ap (λ (l : List X). get_or l j d) (joined_part t)

    pub joined_ends : length (joined f i) + length (f i) ≤ length (joined f n)
    joined_ends = rw (joined_at, length-append (joined f i ++ f i) rest, length-append (joined f i) (f i)) (omega arith)
