-- What the caller of `depths` reads in the row that comes back. Assumes nothing.
use Prim.Native.Nat.{ℕ, zero, suc, ◌+◌, ◌*◌, ◌-◌, ◌≤◌, ◌<◌}
use mathlib.Core.Path.{◌≡◌, refl, sym, ◌∙◌}
use mathlib.Core.Bool.{Bool, true, false, cond}
use mathlib.Core.Logic.Iff
use mathlib.Core.Logic.{⊎_elim, ◌↔◌}
use mathlib.Core.List.Memᴰ
use mathlib.Core.List.{List, [], ◌∷◌, ◌++◌, Memᴰ}
use native.Mathlib.Nat as NatL
use native.Mathlib.Omega.{arith}
use lib.Dec.{ltb, leb, eqb}
use lib.IntN.{ℤ}
use lib.Signed.{◌<ℤ◌}
use lib.ListN.{length, drop, length-append, length-drop}
use lib.Seq.{get_or-append-add, get_or-drop}
use borrow.Author.Tests.{leb-false, lt-ltb, le-leb, lt-leb, ne_eqb}
use Rattle.arith.specs.Lines.{line, first_of}
use Rattle.arith.proofs.Signed.{zarith}
use Rattle.section.specs.declared.Section.{Section}
use Rattle.section.specs.Refusal.{section_refusal}
use Rattle.forces.specs.Forces.{moment}
use Rattle.section.specs.Has.{last_depth}
use Rattle.depths.specs.Depths.{Entry, entry_of, kind_at, listed, words, written, Balances, NoDepth, Rising}
use Rattle.depths.specs.Row.{word_at, ReadAt, Shown, how_many}
use Rattle.depths.specs.Answers.{ListAnswer, depths_refusal, list_refusal, list_answer, row_after}
use Rattle.depths.proofs.Listed.{at_place, count_kinds, words_length, word_of}
use Rattle.depths.proofs.Answers.{list_number, list_count}
use Rattle.depths.proofs.Theorems.{listed_exactly, listed_rising, fourteen_exactly}

-- ---- of any list of entries: what is in it has a place, and where it rises the next is deeper
place_of : {e : Entry} {es : List Entry} → Memᴰ e es → (i : ℕ) × (i < length es) × (entry_of es i ≡ e)
place_of (Memᴰ.head e) = (0, omega arith, sym e)
place_of (Memᴰ.tail w) = let p = place_of w in (suc p.0, omega arith, p.2)

rising_at : (low : ℕ) (es : List Entry) → Rising low es → (i : ℕ) → i + 1 < length es → (entry_of es i).depth < (entry_of es (i + 1)).depth
rising_at low [] r i h = absurd (omega arith)
rising_at low (e ∷ []) r i h = absurd (omega arith)
rising_at low (e ∷ f ∷ es) r zero h = r.1.0
rising_at low (e ∷ f ∷ es) r (suc i) h = rw (NatL.suc-add i 1) (rising_at e.depth (f ∷ es) r.1 i (omega arith))

-- ---- of a row that begins with a list's words: the one entry that is read at a place is the list's
read_once : {row : List ℤ} {i : ℕ} {e f : Entry} → ReadAt row i e → ReadAt row i f → e ≡ f
read_once {e = e} {f = f} r q =
    let depth : e.depth ≡ f.depth = cc in
    let kind : e.kind ≡ f.kind = cc in
    let moment : e.moment ≡ f.moment = cc in
    λ j. record { depth = depth j; kind = kind j; moment = moment j }

module _ (es : List Entry) (rest : List ℤ) where
  pub read_at : (i : ℕ) → i < length es → ReadAt (words es ++ rest) i (entry_of es i)
  read_at i h =
      let word = word_of es rest i in
      record { depth = rw (NatL.add-zero (3 * i)) at (word 0 h (omega arith)); kind = word 1 h (omega arith); moment = word 2 h (omega arith) }

  in_words : (e : Entry) → Shown (words es ++ rest) (length es) e ↔ Memᴰ e es
  in_words e = (
    λ w. Memᴰ.cast (read_once w.2 (read_at w.0 w.1)) (at_place es w.0 w.1),
    λ w. let p = place_of w in (p.0, p.1, rw p.2 at (read_at p.0 p.1)),
  )

  rising_words : Rising 0 es → (i : ℕ) → i + 1 < length es → word_at (words es ++ rest) (3 * i) <ℤ word_at (words es ++ rest) (3 * (i + 1))
  rising_words r i h = rw ((read_at i (omega arith)).depth, (read_at (i + 1) h).depth) (omega (arith, zarith, rising_at 0 es r i h))

-- ---- of a row that a list's words are written into
past_words : (es : List Entry) (row : List ℤ) (j : ℕ) → 3 * length es ≤ j → word_at (written es row) j ≡ word_at row j
past_words es row j h =
    let here : length (words es) + (j - 3 * length es) ≡ j = omega (arith, words_length es) in
    rw (← here, get_or-append-add, get_or-drop, words_length es)

written_length : (es : List Entry) (row : List ℤ) → 3 * length es ≤ length row → length (written es row) ≡ length row
written_length es row h = omega (arith, length-append (words es) (drop (3 * length es) row), words_length es, length-drop (3 * length es) row)

-- an empty list is refused, and has no words
written_all : (es : List Entry) (row : List ℤ) → cond (eqb (first_of (line (ltb 0 (length es)) 14 0) 0) 0) (written es row) row ≡ written es row
unfolding words
written_all [] row = refl
written_all (e ∷ es) row = rw (lt-ltb 0 (length (e ∷ es)) (omega arith))

fails : (t : Bool) → line t 15 0 ≡ 15 → t ≡ false
fails true e = absurd (omega arith)
fails false e = refl

fifteen_where_short :
    (es : List Entry) (room : ℕ) → (first_of (line (ltb 0 (length es)) 14 0) (line (leb (3 * length es) room) 15 0) ≡ 15) ↔ (room < 3 * length es)
fifteen_where_short [] room = (λ e. absurd (omega arith), λ h. absurd (omega arith))
fifteen_where_short (e ∷ es) room =
    rw (lt-ltb 0 (length (e ∷ es)) (omega arith)) (λ f. leb-false _ room (fails _ f), λ h. rw (lt-leb (3 * length (e ∷ es)) room h))

-- ---- of the answer and of the row that `depths` leaves
module _ (s : Section) (row : List ℤ) {a : ListAnswer} {after : List ℤ} (is : a ≡ list_answer s (length row)) (left : after ≡ row_after s row) where
  -- on any refusal the row is as it was
  pub row_kept : (a.refusal ≡ 0 → ⊥) → after ≡ row
  unfolding row_after
  row_kept h = left ∙ rw (ne_eqb (list_refusal s (length row)) 0 (λ z. h (list_number s (length row) is ∙ z)))

  module _ (ok : section_refusal s ≡ 0) where
    count : a.count ≡ length (listed s)
    count = list_count s (length row) is ok

    -- the count is the number of depths that have a kind
    pub counted : a.count ≡ how_many s
    counted = count ∙ count_kinds (kind_at s) (moment s) (last_depth s)

    -- 14 exactly where there is none
    pub fourteen : (a.refusal ≡ 14) ↔ NoDepth s
    fourteen = rw (list_number s (length row) is) (fourteen_exactly s (length row) ok)

    -- 15 exactly where the row is too short
    pub fifteen : (a.refusal ≡ 15) ↔ (length row < 3 * a.count)
    unfolding list_refusal depths_refusal
    fifteen = rw (list_number s (length row) is, count, ok) (fifteen_where_short (listed s) (length row))

    has_room : 3 * a.count ≤ length row → after ≡ written (listed s) row
    unfolding row_after list_refusal depths_refusal
    has_room room = left ∙ rw (ok, le-leb (3 * length (listed s)) (length row) (rw count at room)) (written_all (listed s) row)

    -- with room or not
    either_way : (P : List ℤ → Type 0) → P row → (3 * a.count ≤ length row → P (written (listed s) row)) → P after
    either_way P kept new =
        ⊎_elim (λ z. let room : 3 * a.count ≤ length row = omega arith in rw (has_room room) (new room))
        (λ h. rw (row_kept (λ z. omega (arith, fifteen.1 (omega arith)))) kept)
        (NatL.eq-zero-or-pos (3 * a.count - length row))

    -- the words after the list stay, and so does the length
    pub words_stay : (j : ℕ) → 3 * a.count ≤ j → word_at after j ≡ word_at row j
    words_stay j h = either_way (λ l. word_at l j ≡ word_at row j) refl (λ room. past_words (listed s) row j (rw count at h))

    pub same_length : length after ≡ length row
    same_length = either_way (λ l. length l ≡ length row) refl (λ room. written_length (listed s) row (rw count at room))

    module _ (room : 3 * a.count ≤ length row) where
      -- exactly the depths that balance are shown
      pub shown_exactly : (e : Entry) → Shown after a.count e ↔ Balances s e
      shown_exactly e = rw (has_room room, count) (Iff.trans (in_words (listed s) _ e) (listed_exactly s e))

      -- shallowest first, each once
      pub shown_rising : (i : ℕ) → i + 1 < a.count → word_at after (3 * i) <ℤ word_at after (3 * (i + 1))
      shown_rising i h = rw (has_room room) (rising_words (listed s) _ (listed_rising s) i (rw count at h))
