-- The records of a string, one after another: where they begin, how many they are, and the first that is refused. Assumes nothing.
use Prim.Native.Nat.{ℕ, zero, suc, ◌+◌, ◌*◌, ◌-◌, ◌≤◌, ◌<◌}
use mathlib.Core.Path.{◌≡◌, refl, sym, ap, ◌∙◌}
use mathlib.Core.List.{List, []}
use mathlib.Core.Logic.{⊎_elim}
use native.Mathlib.Nat.{add_assoc, add-zero, add-suc, eq-or-lt_of_le}
use native.Mathlib.Numerals.{add-one}
use native.Mathlib.Omega.{arith}
use lib.ListN.{length, get_or, drop, length-take, length-drop}
use lib.Seq.{get_or-take, get_or-drop, drop-drop}
use borrow.Author.Tests.{lt-ltb, le-ltb, ne_eqb}
use Rattle.arith.specs.Sums.{sum_n}
use Rattle.arith.proofs.Lines.{none_of}
use Rattle.refusal.specs.declared.Refusal.{Refusal}
use Rattle.refusal.specs.Refusal.{number}
use Rattle.refusal.proofs.Answers.{number_in}
use Rattle.record.specs.Record.{size_at, record_refusal}
use Rattle.record.proofs.Alone.{record_stands}
use Rattle.writer.specs.Records.{part_from, lone_refusal, place_at, refusal_at, begins, count_in, first_below, records_refusal}

-- ---- the record that begins at a place
module _ (r : List ℕ) (at : ℕ) where
  -- its layer count and its flange height, which lie in its head, are the string's there
  head_there : (j : ℕ) → j < 24 → get_or (part_from r at) j 0 ≡ get_or r (at + j) 0
  head_there j h = get_or-take (size_at r at) (drop at r) j 0 (omega arith) ∙ get_or-drop at r j 0

  pub part_size : size_at (part_from r at) 0 ≡ size_at r at
  part_size =
      rw (
        head_there 20 (omega arith),
        head_there 21 (omega arith),
        head_there 22 (omega arith),
        head_there 23 (omega arith),
        add_assoc at 20 1,
        add_assoc at 22 1,
      )

  -- where it is not refused, it ends in the string
  pub ends_inside : record_refusal (part_from r at) ≡ 0 → at ≤ length r → at + size_at r at ≤ length r
  ends_inside e h =
      let s = ((record_stands (part_from r at)).0 e).0 in
      let l = length-take (size_at r at) (drop at r) in
      let d = length-drop at r in
      omega (arith, part_size)

-- ---- where they begin
module _ (r : List ℕ) where
  pub place_first : place_at r 0 ≡ 0
  unfolding place_at
  place_first = refl

  pub place_next : (i : ℕ) → place_at r (i + 1) ≡ place_at r i + size_at r (place_at r i)
  unfolding place_at
  place_next i = rw (add-one i)

  pub steps : (i at size : ℕ) → at ≡ place_at r i → size ≡ size_at r at → at + size ≡ place_at r (i + 1)
  steps i at size e f = rw (f, e) (sym (place_next i))

  place_rises : (i d : ℕ) → place_at r i + 24 * d ≤ place_at r (i + d)
  unfolding place_at
  place_rises i zero = rw (add-zero i) (omega arith)
  place_rises i (suc d) = rw add-suc (omega (arith, place_rises i d))

  pub places_rise : (i j : ℕ) → i ≤ j → place_at r i + 24 * (j - i) ≤ place_at r j
  places_rise i j h =
      let e : i + (j - i) ≡ j = omega arith in
      rw e at (place_rises i (j - i))

  pub place_least : (i : ℕ) → 24 * i ≤ place_at r i
  unfolding place_at
  place_least i = omega (arith, places_rise 0 i (omega arith))

-- ---- how many
ones : (f : ℕ → ℕ) (n : ℕ) → ((i : ℕ) → i < n → f i ≡ 1) → sum_n n f ≡ n
unfolding sum_n
ones f zero h = refl
ones f (suc n) h = rw (ones f n (λ i l. h i (omega arith)), h n (omega arith)) (omega arith)

pub stops : (f : ℕ → ℕ) (n d : ℕ) → ((i : ℕ) → n ≤ i → f i ≡ 0) → sum_n (n + d) f ≡ sum_n n f
unfolding sum_n
stops f n zero h = rw add-zero
stops f n (suc d) h = rw (add-suc, stops f n d h, h (n + d) (omega arith)) (omega arith)

grows : (f : ℕ → ℕ) (n d : ℕ) → sum_n n f ≤ sum_n (n + d) f
unfolding sum_n
grows f n zero = rw add-zero (omega arith)
grows f n (suc d) = rw add-suc (omega (arith, grows f n d))

module _ (r : List ℕ) where
  begins_one : (i : ℕ) → place_at r i < length r → begins r i ≡ 1
  begins_one i h = rw (lt-ltb (place_at r i) (length r) h)

  pub begins_none : (i : ℕ) → length r ≤ place_at r i → begins r i ≡ 0
  begins_none i h = rw (le-ltb (place_at r i) (length r) h)

  -- one that begins inside is counted
  pub counted : (i : ℕ) → place_at r i < length r → i < count_in r
  unfolding count_in
  counted i h =
      let few : i + 1 ≤ length r = omega (arith, place_least r i) in
      let e : i + 1 + (length r - (i + 1)) ≡ length r = omega arith in
      let all = ones (begins r) (i + 1) (λ j l. begins_one j (omega (arith, places_rise r j i (omega arith)))) in
      let most = rw e at (grows (begins r) (i + 1) (length r - (i + 1))) in
      omega arith

  -- and no other
  pub count_is : (n : ℕ) → place_at r n ≡ length r → count_in r ≡ n
  unfolding count_in
  count_is n end =
      let few : n ≤ length r = omega (arith, place_least r n) in
      let e : n + (length r - n) ≡ length r = omega arith in
      let none = stops (begins r) n (length r - n) (λ i h. begins_none i (omega (arith, places_rise r n i h))) in
      let all = ones (begins r) n (λ i h. begins_one i (omega (arith, places_rise r i n (omega arith)))) in
      (rw e at none) ∙ all

-- ---- the first that is refused
pub first_next : (f : ℕ → ℕ) (n : ℕ) → first_below n f ≡ 0 → first_below (n + 1) f ≡ f n
unfolding first_below
first_next f n e = rw (add-one, e)

first_stays : (f : ℕ → ℕ) (n d : ℕ) → (first_below n f ≡ 0 → ⊥) → first_below (n + d) f ≡ first_below n f
unfolding first_below
first_stays f n zero h = rw add-zero
first_stays f n (suc d) h = rw (add-suc, first_stays f n d h, ne_eqb (first_below n f) 0 h)

pub none_below : (f : ℕ → ℕ) (n : ℕ) → first_below n f ≡ 0 → (i : ℕ) → i < n → f i ≡ 0
unfolding first_below
none_below f zero e i h = absurd (omega arith)
none_below f (suc n) e i h =
    let k = none_of (first_below n f) (f n) e in
    ⊎_elim (λ q. rw q k.1) (λ q. none_below f n k.0 i q) (eq-or-lt_of_le {n = i} {m = n} (omega arith))

pub all_below_is : (f : ℕ → ℕ) (n : ℕ) → ((i : ℕ) → i < n → f i ≡ 0) → first_below n f ≡ 0
unfolding first_below
all_below_is f zero h = refl
all_below_is f (suc n) h = rw (all_below_is f n (λ i l. h i (omega arith)), h n (omega arith))

module _ (r : List ℕ) (n : ℕ) (before : first_below n (refusal_at r) ≡ 0) where
  -- the record that begins where those before it passed gives its number
  pub refused_there : place_at r n < length r → (refusal_at r n ≡ 0 → ⊥) → records_refusal r ≡ refusal_at r n
  refused_there h some =
      let c = counted r n h in
      let e : n + 1 + (count_in r - (n + 1)) ≡ count_in r = omega arith in
      let is = first_next (refusal_at r) n before in
      ap (λ (m : ℕ). first_below m (refusal_at r)) (sym e) ∙ first_stays (refusal_at r) (n + 1) (count_in r - (n + 1)) (λ q. some (sym is ∙ q)) ∙ is

  -- and at the end there is none
  pub none_refused : place_at r n ≡ length r → records_refusal r ≡ 0
  none_refused e = rw (count_is r n e) before

-- ---- what is left after n records
module _ (r : List ℕ) (n : ℕ) {rest : List ℕ} (left : rest ≡ drop (place_at r n) r) where
  size_left : size_at rest 0 ≡ size_at r (place_at r n)
  size_left =
      let at = place_at r n in
      let read : (j : ℕ) → get_or rest j 0 ≡ get_or r (at + j) 0 = λ j. rw left (get_or-drop at r j 0) in
      rw (read 20, read 21, read 22, read 23, add_assoc at 20 1, add_assoc at 22 1)

  pub part_left : {part : List ℕ} → part ≡ part_from rest 0 → part ≡ part_from r (place_at r n)
  part_left is = is ∙ rw (size_left, left)

  pub rest_left : {next : List ℕ} → next ≡ drop (size_at rest 0) rest → next ≡ drop (place_at r (n + 1)) r
  rest_left is = rw (is, size_left, left, drop-drop (size_at r (place_at r n)) (place_at r n) r, place_next r n)

  pub some_left : 0 < length rest → place_at r n < length r
  some_left h = omega (arith, ap length left, length-drop (place_at r n) r)

  pub none_left : rest ≡ [] → length r ≤ place_at r n
  none_left e = omega (arith, ap length left, ap length e, length-drop (place_at r n) r)

-- and none of them is refused
pub record Passed (r : List ℕ) (n : ℕ) (rest : List ℕ) : Type 0 where
  pub inside : place_at r n ≤ length r
  pub left : rest ≡ drop (place_at r n) r
  pub none : first_below n (refusal_at r) ≡ 0

pub passed_first : {r rest : List ℕ} → rest ≡ r → Passed r 0 rest
unfolding first_below
passed_first {r} is = record { inside = rw (place_first r) (omega arith); left = rw (place_first r) is; none = refl }

module _ {r : List ℕ} {n : ℕ} {rest : List ℕ} (p : Passed r n rest) where
  pub passed_all : rest ≡ [] → (records_refusal r ≡ 0) × (n ≡ count_in r)
  passed_all e =
      let end : place_at r n ≡ length r = omega (arith, none_left r n p.left e, p.inside) in
      (none_refused r n p.none end, sym (count_is r n end))

  module _ {part : List ℕ} (some : 0 < length rest) (is : part ≡ part_from rest 0) where
    refusal_is : lone_refusal part ≡ refusal_at r n
    refusal_is = ap lone_refusal (part_left r n p.left is)

    pub counts : n < length r
    counts = omega (arith, some_left r n p.left some, place_least r n)

    pub refused_next : (e : Refusal) → number e ≡ lone_refusal part → records_refusal r ≡ number e
    refused_next e h =
        refused_there r n p.none (some_left r n p.left some) (λ z. omega (arith, (number_in e).0, h, refusal_is)) ∙ sym (h ∙ refusal_is)

    pub passed_next : {next : List ℕ} → lone_refusal part ≡ 0 → next ≡ drop (size_at rest 0) rest → Passed r (n + 1) next
    passed_next ok e =
        let none : refusal_at r n ≡ 0 = sym refusal_is ∙ ok in
        let one = (none_of (record_refusal (part_from r (place_at r n))) _ none).0 in
        record {
          inside = rw (place_next r n) (ends_inside r (place_at r n) one p.inside);
          left = rest_left r n p.left e;
          none = first_next (refusal_at r) n p.none ∙ none;
        }

pub ruleset passes = (passed_first, passed_all, counts, refused_next, passed_next)
