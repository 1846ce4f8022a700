-- The three words of an entry, written over three words of a row. Assumes nothing.
use Prim.Native.Nat.{ℕ, ◌+◌, ◌*◌, ◌-◌}
use mathlib.Core.Path.{◌≡◌, refl, sym, ◌∙◌}
use mathlib.Core.List.{List, [], ◌∷◌, ◌++◌}
use native.Mathlib.Omega.{arith}
use borrow.Rule.Slice.PartMut.{put_mid}
use lib.IntN.{ℤ, pos}
use lib.ListN.{length, drop}
use lib.Seq.{take_at, drop-append-add, drop-drop}
use Rattle.std.proofs.lemmas.Slice.{put_mid-paste}
use Rattle.depths.specs.Depths.{list_to, words}
use Rattle.depths.proofs.Listed.{words_more, words_length}

-- the rest of a row, past the first words and three more
beyond : (p row : List ℤ) (n : ℕ) → length p ≡ n → drop (n + 3) (p ++ drop n row) ≡ drop (n + 3) row
beyond p row n e = rw (← e) (drop-append-add p (drop (length p) row) 3 ∙ drop-drop 3 (length p) row)

-- the entry of a depth that has a kind, after the list so far
pub entry_stored :
    (k : ℕ → ℕ) (m : ℕ → ℤ) (first row ys : List ℤ) (i n : ℕ)
    → (k (i + 1) ≡ 0 → ⊥) → n ≡ 3 * length (list_to k m i) → row ≡ words (list_to k m i) ++ drop n first
    → ys ≡ pos (i + 1) ∷ pos (k (i + 1)) ∷ m (i + 1) ∷ []
    → put_mid n (n + 3 - n) row ys ≡ words (list_to k m (i + 1)) ++ drop (n + 3) first
entry_stored k m first row ys i n some e r is =
    let long : length (words (list_to k m i)) ≡ n = words_length (list_to k m i) ∙ sym e in
    put_mid-paste n (n + 3 - n) row ys _ 3 is (omega arith) refl
    ∙ rw (r, words_more k m i some, take_at (words (list_to k m i)) (drop n first) n long, beyond (words (list_to k m i)) first n long)
