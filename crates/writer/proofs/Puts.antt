-- Bytes put into a book, one part after another. Assumes nothing.
use Prim.Native.Nat.{ℕ, ◌+◌, ◌≤◌}
use mathlib.Core.Path.{◌≡◌, sym, ap, ◌∙◌}
use mathlib.Core.List.{List, [], ◌++◌, append_assoc, append-nil}
use native.Mathlib.Omega.{arith}
use lib.ListN.{length, take, drop, length-append, take-append-drop}
use lib.Seq.{take_at, length-take-le, drop-append-add, drop-drop}
use Rattle.arith.specs.Joined.{over}
use Rattle.arith.proofs.Joined.{over_length}
use Rattle.writer.specs.Code.{put_at}

pub put_length : (at : ℕ) (bytes book : List ℕ) → at + length bytes ≤ length book → length (put_at at bytes book) ≡ length book
put_length at bytes book h =
    over_length (take at book ++ bytes) book (rw (length-append (take at book) bytes, length-take-le at book (omega arith)) h)

-- no bytes
pub put_none : (at : ℕ) (book : List ℕ) → at ≤ length book → book ≡ put_at at [] book
put_none at book h = rw (append-nil (take at book), length-take-le at book h) (sym (take-append-drop at book))

-- what is put where what was put before ends
pub put_on : (p ws l : List ℕ) (k : ℕ) → length p ≡ k → put_at k ws (over p l) ≡ over (p ++ ws) l
put_on p ws l k e =
    rw (take_at p (drop (length p) l) k e, length-append p ws, drop-append-add p (drop (length p) l) (length ws), drop-drop (length ws) (length p) l)

pub put_put : (at : ℕ) (a b l : List ℕ) (k : ℕ) → at ≤ length l → k ≡ at + length a → put_at k b (put_at at a l) ≡ put_at at (a ++ b) l
put_put at a b l k h e =
    put_on (take at l ++ a) b l k (rw (length-append (take at l) a, length-take-le at l h) (sym e))
    ∙ ap (λ (p : List ℕ). over p l) (append_assoc (take at l) a b)
