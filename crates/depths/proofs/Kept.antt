-- The kinds that the code keeps, from one listed depth to the next. Assumes nothing.
use Prim.Native.Nat.{ℕ, zero, suc, ◌+◌, ◌*◌, ◌≤◌, ◌<◌}
use mathlib.Core.Path.{◌≡◌, refl, sym, ap, ◌∙◌}
use mathlib.Core.Bool.{cond}
use mathlib.Core.List.{List, [], ◌∷◌}
use mathlib.Core.Logic.{⊎_elim}
use native.Mathlib.Nat.{eq-or-lt_of_le}
use native.Mathlib.Omega.{arith}
use lib.ListN.{length, get_or, set, take, replicate, get_or-map}
use lib.Seq.{get_or-set_same, get_or-set_other}
use borrow.Author.Tests.{lt-ltb, le-ltb}
use Rattle.arith.proofs.Tests.{less_or_not}
use Rattle.section.specs.declared.Section.{Section}
use Rattle.depths.specs.Depths.{kind_number, kind_at, list_to, listed}
use Rattle.std.specs.Prelude.{map, Option, None, Some, is_some, count_by}
use Rattle.std.specs.declared.cmp.Ordering.{Ordering}
use Rattle.depths.specs.declared.Kind.{Kind}
use Rattle.depths.specs.declared.walk.Listed.{Listed}
use Rattle.depths.specs.declared.walk.Walk.{Walk}
use Rattle.depths.specs.Walk.{open_at}
use Rattle.section.specs.Has.{last_depth}
use Rattle.depths.proofs.Sided.{kind_some}
use Rattle.depths.proofs.Next.{open_most}
use Rattle.depths.proofs.Listed.{list_skips, count_more, count_grows}
use Rattle.std.proofs.lemmas.List.{get_or-take, length-map, map-set, take-map}
use Rattle.forces.specs.Forces.{moment}
use Rattle.std.proofs.lemmas.List.Sums.{count_by_more_no, count_by_more_yes, sum_by-cons}
use native.Mathlib.Numerals.{add-one}
use Rattle.depths.specs.declared.list.Mark.{Mark}
use Rattle.depths.specs.declared.list.Mark.TheVariants.{Unlisted}
use Rattle.depths.specs.Code.{open_from, NoneTo, Next, marked, kept_number, Kept}

module _ (s : Section) {depth : ℕ} (kept : List (Option Kind)) (k : Kept s depth kept) where
  pub kept_there : (i : ℕ) → i + 1 < depth → kept_number (get_or kept i None) ≡ kind_at s (i + 1)
  kept_there i h = k i ∙ rw (lt-ltb (i + 1) depth h)

  none_kept : (i : ℕ) → depth ≤ i + 1 → kept_number (get_or kept i None) ≡ 0
  none_kept i h = k i ∙ rw (le-ltb (i + 1) depth h)

  -- no depth as far as another is listed
  kept_on : (to : ℕ) → depth ≤ to → NoneTo s depth to → Kept s to kept
  kept_on to h none i =
      ⊎_elim (λ less. rw (lt-ltb (i + 1) to (omega arith)) (kept_there i less))
      (λ past.
      ⊎_elim (λ less. rw (lt-ltb (i + 1) to less) (none_kept i past ∙ sym (none (i + 1) past less))) (λ end. rw (le-ltb (i + 1) to end) (none_kept i past))
      (less_or_not (i + 1) to))
      (less_or_not (i + 1) depth)

  -- the depth itself has a kind
  kept_more : (at : ℕ) (z : Kind) → at + 1 ≡ depth → at < length kept → kind_number z ≡ kind_at s depth → Kept s (depth + 1) (set kept at (Some z))
  kept_more at z e room is i =
      ⊎_elim (λ less. rw (lt-ltb (i + 1) (depth + 1) (omega arith)) (other (λ w. omega arith) ∙ kept_there i less))
      (λ past.
      ⊎_elim (λ same. rw (lt-ltb (i + 1) (depth + 1) (omega arith), ← same, e) (ap kept_number (get_or-set_same kept at (Some z) None room) ∙ is))
      (λ beyond. rw (le-ltb (i + 1) (depth + 1) (omega arith)) (other (λ w. omega arith) ∙ none_kept i past))
      (eq-or-lt_of_le {n = at} {m = i} (omega arith)))
      (less_or_not (i + 1) depth)
    where
      other : (i ≡ at → ⊥) → kept_number (get_or (set kept at (Some z)) i None) ≡ kept_number (get_or kept i None)
      other h = ap kept_number (get_or-set_other kept at i (Some z) None h)

-- a depth with its kind, and none from the next one on as far as another
pub kept_next :
    (s : Section) {depth : ℕ} (kept : List (Option Kind)) → Kept s depth kept → (at : ℕ) (z : Kind) → at + 1 ≡ depth → at < length kept
    → kind_number z ≡ kind_at s depth → {from to : ℕ} → from ≡ depth + 1 → from ≤ to → NoneTo s from to → Kept s to (set kept at (Some z))
kept_next s kept k at z e room is next h none =
    kept_on s (set kept at (Some z)) (kept_more s kept k at z e room is) _ (omega arith) (rw next at none)

-- the walk's next depth, and none before it
pub walk_next :
    (s : Section) {from : ℕ} (kept : List (Option Kind)) → Kept s from kept
    → {l : Listed} {looked : ℕ} {sign : Option Ordering} → Next s from l looked sign
    → (at : ℕ) → at + 1 ≡ l.depth → at < length kept → Kept s (open_from looked sign) (set kept at (Some l.kind))
walk_next s kept k {l} next at e room =
    let before = kept_on s kept k l.depth next.on next.none in
    kept_next s kept before at l.kind e room next.kind next.on_from (omega arith) (λ x on past. absurd (omega arith))

-- the walk's end
pub kept_all :
    {s : Section} (w : Walk) → w.lawful.section ≡ s → (kept : List (Option Kind)) → Kept s (open_at w) kept
    → NoneTo w.lawful.section (open_at w) (last_depth w.lawful.section + 1) → Kept s (last_depth s + 1) kept
kept_all {s} w of kept k none = kept_on s kept k (last_depth s + 1) (omega (arith, open_most w.looked w.sign, w.inside, ap last_depth of)) (rw of at none)

places : (n i : ℕ) → kept_number (get_or (replicate n None) i None) ≡ 0
places zero i = refl
places (suc n) zero = refl
places (suc n) (suc i) = places n i

pub none_yet : (s : Section) (n : ℕ) → Kept s 1 (replicate n None)
none_yet s n i = places n i ∙ rw (le-ltb (i + 1) 1 (omega arith))

-- ---- what is kept, and the list
module _ (s : Section) (kept : List (Option Kind)) (k : Kept s (last_depth s + 1) kept) where
  module _ {n i : ℕ} (inside : n ≤ last_depth s) (less : i < n) where
    is_there : {z : Option Kind} → get_or (take n kept) i None ≡ z → kept_number z ≡ kind_at s (i + 1)
    is_there e = ap kept_number (sym e ∙ get_or-take n kept i None less) ∙ kept_there s kept k i (omega arith)

    pub has_none : get_or (take n kept) i None ≡ None → kind_at s (i + 1) ≡ 0
    has_none e = sym (is_there e)

    module _ {z : Kind} (e : get_or (take n kept) i None ≡ Some z) where
      pub has_kind : kind_number z ≡ kind_at s (i + 1)
      has_kind = is_there e

      pub has_some : kind_at s (i + 1) ≡ 0 → ⊥
      has_some h = kind_some z (has_kind ∙ h)

      -- the whole list has a place in a row, so this entry has
      pub has_room : {at room : ℕ} → at ≡ 3 * length (list_to (kind_at s) (moment s) i) → 3 * length (listed s) ≤ room → at + 3 ≤ room
      has_room so_far all =
          omega (arith, count_more (kind_at s) (moment s) i has_some, count_grows (kind_at s) (moment s) (i + 1) (last_depth s) (omega arith))

  counted_next :
      (n : ℕ) → n < last_depth s → n < length kept → count_by is_some (take n kept) ≡ length (list_to (kind_at s) (moment s) n)
      → count_by is_some (take (n + 1) kept) ≡ length (list_to (kind_at s) (moment s) (n + 1))
  counted_next n inside room so_far = pick (get_or kept n None) refl
    where
      there : kept_number (get_or kept n None) ≡ kind_at s (n + 1)
      there = kept_there s kept k n (omega arith)

      pick : (z : Option Kind) → get_or kept n None ≡ z → count_by is_some (take (n + 1) kept) ≡ length (list_to (kind_at s) (moment s) (n + 1))
      pick None e =
          let none : kind_at s (n + 1) ≡ 0 = sym there ∙ ap kept_number e in
          count_by_more_no is_some kept n None room (ap is_some e) ∙ so_far ∙ ap length (sym (list_skips (kind_at s) (moment s) n none))
      pick (Some z) e =
          let some : kind_at s (n + 1) ≡ 0 → ⊥ = λ w. kind_some z (sym (ap kept_number e) ∙ there ∙ w) in
          count_by_more_yes is_some kept n None room (ap is_some e) ∙ ap (λ m. m + 1) so_far ∙ sym (count_more (kind_at s) (moment s) n some)

  -- as many are kept as are listed
  pub counted : (n : ℕ) → n ≤ last_depth s → n ≤ length kept → count_by is_some (take n kept) ≡ length (list_to (kind_at s) (moment s) n)
  unfolding list_to
  counted zero inside room = refl
  counted (suc n) inside room = let next = counted_next n inside room (counted n (omega arith) (omega arith)) in rw add-one at next

-- ---- the marks that the kinds are kept as
none_marked : (n : ℕ) → map marked (replicate n Unlisted) ≡ replicate n None
none_marked zero = refl
none_marked (suc n) = ap (λ (l : List (Option Kind)). None ∷ l) (none_marked n)

pub no_mark_yet : (s : Section) (n : ℕ) → Kept s 1 (map marked (replicate n Unlisted))
no_mark_yet s n = rw (none_marked n) (none_yet s n)

-- as many are marked
pub marks_counted : (kept : List Mark) → count_by (λ m. is_some (marked m)) kept ≡ count_by is_some (map marked kept)
marks_counted [] = refl
marks_counted (m ∷ ms) =
    sum_by-cons (λ (n : Mark). cond (is_some (marked n)) 1 0) m ms ∙ ap (λ (n : ℕ). cond (is_some (marked m)) 1 0 + n) (marks_counted ms)
    ∙ sym (sum_by-cons (λ (z : Option Kind). cond (is_some z) 1 0) (marked m) (map marked ms))

module _ (kept : List Mark) where
  -- the walk's next depth
  pub mark_next :
      (s : Section) {from : ℕ} → Kept s from (map marked kept)
      → {l : Listed} {looked : ℕ} {sign : Option Ordering} → Next s from l looked sign
      → (at : ℕ) → at + 1 ≡ l.depth → at < length kept → (m : Mark) → marked m ≡ Some l.kind
      → Kept s (open_from looked sign) (map marked (set kept at m))
  mark_next s k next at e room m is =
      rw (map-set marked kept at m, is) (walk_next s (map marked kept) k next at e (omega (arith, length-map kept marked)))

  pub mark_at : (n i : ℕ) → get_or (take n (map marked kept)) i None ≡ marked (get_or (take n kept) i Unlisted)
  mark_at n i = ap (λ (l : List (Option Kind)). get_or l i None) (take-map marked n kept) ∙ get_or-map marked (take n kept) i Unlisted
