-- The layers there are, as the code goes over them: the front of the array, in the library's words. Assumes nothing.
use Prim.Native.Nat.{ℕ, zero, suc, ◌+◌, ◌*◌, ◌-◌, ◌≤◌, ◌<◌}
use mathlib.Core.Path.{◌≡◌, refl, sym, ap, ◌∙◌}
use mathlib.Core.Bool.{Bool, true, false, cond, not, ◌||◌}
use mathlib.Core.List.{List, [], ◌∷◌, ◌++◌, append_assoc}
use mathlib.Core.Logic.{⊎_elim}
use native.Mathlib.Nat.{eq-zero-or-pos}
use native.Mathlib.Omega.{arith}
use lib.Dec.{ltb, leb, eqb}
use borrow.Author.Tests.{leb-true, lt-ltb, le-ltb, ne_eqb}
use lib.ListN.{length, take, drop, set}
use lib.Seq.{drop-cons, set_split, drop-append_seam}
use Rattle.std.proofs.lemmas.List.{length-take, length-append, take-take, take-append-le, get_or-take, drop-take}
use Rattle.std.proofs.lemmas.Option.{slice_get-get_or}
use denote.Ref.{Bor}
use Rattle.std.specs.Prelude.{Option, Some, None, unwrap_or, MatchOption}
use Rattle.std.specs.Option.{option_copied}
use Rattle.std.specs.List.{slice_get, list_any, position_or_len, copy_within}
use Rattle.arith.proofs.Tests.{both, less_or_not}
use Rattle.section.specs.declared.Layer.{Layer}
use Rattle.section.specs.declared.Section.{Section}
use Rattle.section.specs.Section.{no_layer, layer_at, layers_from, layers_of, rise, layers_right}
use Rattle.section.specs.Refusal.{mid_right}
use Rattle.section.specs.Added.{taken, inserted}

pub from_is : (ls : List Layer) (j n : ℕ) → j + n ≤ length ls → layers_from ls j n ≡ take n (drop j ls)
unfolding layers_from
from_is ls j zero h = refl
from_is ls j (suc n) h = rw (drop-cons ls j no_layer (omega arith)) (ap (λ ks. layer_at ls j ∷ ks) (from_is ls (suc j) n (omega arith)))

pub front : (s : Section) → s.count ≤ length s.layers → layers_of s ≡ take s.count s.layers
front s h = from_is s.layers 0 s.count (omega arith)

-- ---- what right layers are
pub few : (s : Section) → layers_right s ≡ true → s.count ≤ 8
unfolding layers_right
few s e = leb-true s.count 8 (both (leb s.count 8) (rise s.h 0 (layers_of s)) e).0

pub rising : (s : Section) → layers_right s ≡ true → rise s.h 0 (layers_of s) ≡ true
unfolding layers_right
rising s e = (both (leb s.count 8) (rise s.h 0 (layers_of s)) e).1

-- ---- an added layer
-- a depth is taken by some layer
pub taken_is : (depth : ℕ) (ks : List Layer) → taken depth ks ≡ list_any (λ k. eqb depth k.depth) ks
unfolding taken
taken_is depth [] = refl
taken_is depth (k ∷ ks) = ap (λ t. eqb depth k.depth || t) (taken_is depth ks)

-- a layer is put before the first that is deeper
pub inserted_is :
    (l : Layer) (ks : List Layer)
    → let at = position_or_len (λ k. ltb l.depth k.depth) ks in inserted l ks ≡ take at ks ++ (l ∷ drop at ks)
unfolding inserted
inserted_is l [] = refl
inserted_is l (k ∷ ks) = pick (ltb l.depth k.depth) (inserted_is l ks)
  where
    pick :
        (t : Bool)
        → let p = position_or_len (λ k. ltb l.depth k.depth) ks in inserted l ks ≡ take p ks ++ (l ∷ drop p ks)
        → let at = cond (not t) (1 + p) 0 in cond t (l ∷ k ∷ ks) (k ∷ inserted l ks) ≡ take at (k ∷ ks) ++ (l ∷ drop at (k ∷ ks))
    pick true e = refl
    pick false e =
        let next : 1 + position_or_len (λ k. ltb l.depth k.depth) ks ≡ suc (position_or_len (λ k. ltb l.depth k.depth) ks) = omega arith in
        rw (next, e)

pub first_or_end : (p n : ℕ) → p ≤ n → unwrap_or (cond (ltb p n) (Some p) None) n ≡ p
first_or_end p n h = ⊎_elim (λ k. rw (lt-ltb p n k)) (λ k. let e : p ≡ n = omega arith in rw (le-ltb p n k, e)) (less_or_not p n)

-- for which the code moves those from there on by one place
at_seam : (p q r : List Layer) (l : Layer) (at : ℕ) → length p ≡ suc at → set (p ++ q ++ r) at l ≡ take at p ++ (l ∷ q) ++ r
at_seam p q r l at e =
    let long : at < length (p ++ (q ++ r)) = omega (arith, length-append p (q ++ r)) in
    rw (append_assoc p q r, set_split (p ++ (q ++ r)) at l long, take-append-le at p (q ++ r) (omega arith), ← e, drop-append_seam p (q ++ r))
    (sym (append_assoc (take at p) (l ∷ q) r))

pub put_in :
    (ls : List Layer) (l : Layer) (at m : ℕ)
    → at ≤ m → m < length ls
    → set (copy_within ls at m (at + 1)) at l ≡ take at (take m ls) ++ (l ∷ drop at (take m ls)) ++ drop (m + 1) ls
put_in ls l at m h k =
    let past : at + 1 + (m - at) ≡ m + 1 = omega arith in
    let all : at + (m - at) ≡ m = omega arith in
    at_seam (take (at + 1) ls) (take (m - at) (drop at ls)) (drop (at + 1 + (m - at)) ls) l at (omega (arith, length-take (at + 1) ls))
    ∙ rw (take-take at (at + 1) ls (omega arith), past, take-take at m ls h, ← drop-take at (m - at) ls, all)

-- ---- the deepest layer is the last one
last_is :
    (s : Section)
    → s.count ≤ length s.layers → 0 < s.count
    → slice_get (take s.count s.layers) (length (take s.count s.layers) - 1) ≡ Some (layer_at s.layers (s.count - 1))
last_is s few some =
    let long : length (take s.count s.layers) ≡ s.count = omega (arith, length-take s.count s.layers) in
    rw (long, slice_get-get_or (take s.count s.layers) (s.count - 1) no_layer (omega arith), get_or-take s.count s.layers (s.count - 1) no_layer (omega arith))

none_one : {l : Layer} → Some l ≡ None → ⊥
none_one e = cc

pub mid_is :
    (s : Section) (o : Option (Bor Layer)) (r : Bool)
    → s.count ≤ length s.layers
    → option_copied o ≡ slice_get (take s.count s.layers) (length (take s.count s.layers) - 1)
    → MatchOption o (r ≡ true) (λ l. r ≡ ltb s.h (2 * l.now.depth))
    → r ≡ mid_right s
unfolding mid_right
mid_is s o r few is k = ⊎_elim (λ z. bare z o is k) (λ p. barred p o (is ∙ last_is s few p) k) (eq-zero-or-pos s.count)
  where
    bare :
        s.count ≡ 0
        → (o : Option (Bor Layer)) → option_copied o ≡ slice_get (take s.count s.layers) (length (take s.count s.layers) - 1)
        → MatchOption o (r ≡ true) (λ l. r ≡ ltb s.h (2 * l.now.depth)) → r ≡ mid_right s
    bare z None is k = rw z k
    bare z (Some l) is k = absurd (none_one (rw z at is))

    barred :
        0 < s.count
        → (o : Option (Bor Layer)) → option_copied o ≡ Some (layer_at s.layers (s.count - 1))
        → MatchOption o (r ≡ true) (λ l. r ≡ ltb s.h (2 * l.now.depth)) → r ≡ mid_right s
    barred p None is k = cc
    barred p (Some l) is k = let e : l.now ≡ layer_at s.layers (s.count - 1) = cc in rw (← e, ne_eqb s.count 0 (λ z. absurd (omega arith))) k
