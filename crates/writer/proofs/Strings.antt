-- A string of records that all pass: each begins and ends inside it, and the last ends with it. What is written of them. Assumes nothing.
use Prim.Native.Nat.{ℕ, zero, suc, ◌+◌, ◌*◌, ◌-◌, ◌≤◌, ◌<◌}
use mathlib.Core.Path.{◌≡◌, refl, sym, ap, ◌∙◌}
use mathlib.Core.Bool.{Bool, true, false, cond}
use mathlib.Core.List.{List, [], ◌∷◌, ◌++◌}
use mathlib.Core.Logic.{⊎_elim}
use native.Mathlib.Numerals.{add-one}
use native.Mathlib.Omega.{arith}
use lib.Dec.{ltb}
use lib.ListN.{length, length-append}
use Rattle.arith.specs.Sums.{sum_n}
use Rattle.arith.specs.Joined.{joined, over}
use Rattle.arith.proofs.Sums.{sum_most}
use Rattle.arith.proofs.Tests.{less_or_not}
use Rattle.arith.proofs.Joined.{over_length, joined_next, joined_length}
use Rattle.arith.proofs.Lines.{none_of}
use Rattle.section.specs.Refusal.{section_refusal}
use Rattle.record.specs.Record.{size_at, record_refusal, section_in}
use Rattle.record.specs.Filed.{bytes32, as_written}
use Rattle.record.proofs.Alone.{record_stands}
use Rattle.record.proofs.Inverse.{filed_length}
use Rattle.writer.specs.declared.Sections.{Sections}
use Rattle.writer.specs.Records.{part_from, place_at, section_at, refusal_at, begins, lone_refusal, count_in, records_refusal}
use Rattle.writer.specs.Written.{written_record, records_of, place_of, last_bytes}
use Rattle.writer.specs.Code.{put_at}
use Rattle.writer.proofs.Walk.{part_size, ends_inside, place_first, place_next, place_least, places_rise, counted, stops, begins_none, none_below}
use Rattle.writer.proofs.Puts.{put_on, put_put}

-- ---- one that is counted begins inside
module _ (r : List ℕ) where
  at_most_one : (t : Bool) → cond t 1 0 ≤ 1
  at_most_one true = omega arith
  at_most_one false = omega arith

  most : (n : ℕ) → sum_n n (begins r) ≤ 1 * n
  most n = sum_most n 1 (begins r) (λ i h. at_most_one (ltb (place_at r i) (length r)))

  no_more : (i : ℕ) → length r ≤ place_at r i → count_in r ≤ i
  unfolding count_in
  no_more i h = ⊎_elim few many (less_or_not (length r) i)
    where
      few : length r < i → sum_n (length r) (begins r) ≤ i
      few q = omega (arith, most (length r))

      many : i ≤ length r → sum_n (length r) (begins r) ≤ i
      many q =
          let e : i + (length r - i) ≡ length r = omega arith in
          let s = rw e at (stops (begins r) i (length r - i) (λ j k. begins_none r j (omega (arith, places_rise r i j k)))) in
          omega (arith, most i)

  begins_inside : (i : ℕ) → i < count_in r → place_at r i < length r
  begins_inside i h = ⊎_elim (λ q. q) (λ q. absurd (omega (arith, no_more i q))) (less_or_not (place_at r i) (length r))

-- ---- as long as they say
module _ (r : List ℕ) where
  pub record_length : (i : ℕ) → length (written_record (section_at r) i) ≡ size_at r (place_at r i)
  unfolding as_written section_in
  record_length i = filed_length (as_written (section_at r i)) ∙ part_size r (place_at r i)

  pub records_length : (i : ℕ) → length (records_of (section_at r) i) ≡ place_at r i
  unfolding joined place_at
  records_length zero = refl
  records_length (suc i) = rw (length-append (records_of (section_at r) i) (written_record (section_at r) i), records_length i, record_length i)

-- ---- a record that passes
pub few_in : (part : List ℕ) → lone_refusal part ≡ 0 → (section_in part).count ≤ 8
unfolding section_in
few_in part e = ((record_stands part).0 (none_of (record_refusal part) _ e).0).1

-- ---- where all pass, counted
pub record Tallied (r : List ℕ) (n : ℕ) : Type 0 where
  pub none : records_refusal r ≡ 0
  pub count : n ≡ count_in r

pub tallied : (s : Sections) → Tallied s.records.now s.count
tallied s = record { none = s.none; count = s.counted }

module _ {r : List ℕ} {n : ℕ} (t : Tallied r n) where
  module _ (i : ℕ) (h : i < n) where
    pub begins_there : place_at r i < length r
    begins_there = begins_inside r i (omega (arith, t.count))

    pub passes_there : (record_refusal (part_from r (place_at r i)) ≡ 0) × (section_refusal (section_at r i) ≡ 0)
    passes_there = none_of _ (section_refusal (section_at r i)) (none_below (refusal_at r) (count_in r) t.none i (omega (arith, t.count)))

    pub ends_there : place_at r (i + 1) ≤ length r
    ends_there = rw (place_next r i) (ends_inside r (place_at r i) passes_there.0 (omega (arith, begins_there)))

    pub few_there : (as_written (section_at r i)).count ≤ 8
    unfolding as_written section_in
    few_there = ((record_stands _).0 passes_there.0).1

  pub ends_by : (i : ℕ) → i ≤ n → place_at r i ≤ length r
  ends_by zero h = omega (arith, place_first r)
  ends_by (suc i) h = rw (← (add-one i)) (ends_there i h)

  pub ends_with : place_at r n ≡ length r
  ends_with =
      let least = ⊎_elim {C = length r ≤ place_at r n} (λ q. absurd (omega (arith, counted r n q, t.count))) (λ q. q) (less_or_not (place_at r n) (length r)) in
      omega (arith, ends_by n (omega arith))

  pub records_kept : (b : List ℕ) (i : ℕ) → i ≤ n → length r ≤ length b → length (over (records_of (section_at r) i) b) ≡ length b
  records_kept b i h room = over_length (records_of (section_at r) i) b (omega (arith, records_length r i, ends_by i h))

-- each has 24 bytes at least
pub few_records : (s : Sections) → 24 * s.count ≤ length s.records.now
few_records s = omega (arith, place_least s.records.now s.count, ends_with (tallied s))

-- ---- what is put into a book, one record after another and one place after another
module _ (r b : List ℕ) (i at : ℕ) (e : at ≡ place_at r i) where
  pub record_on :
      (ws book : List ℕ) → ws ≡ written_record (section_at r) i → book ≡ over (records_of (section_at r) i) b
      → put_at at ws book ≡ over (records_of (section_at r) (i + 1)) b
  record_on ws book f g =
      let s = section_at r in
      rw (f, g, joined_next (written_record s) i) (put_on (records_of s i) (written_record s i) b at (records_length r i ∙ sym e))

  pub place_on :
      (book : List ℕ) → length r ≤ length b → book ≡ put_at (length r) (joined (place_of (section_at r)) i) b
      → put_at (length r + 4 * i) (bytes32 at) book ≡ put_at (length r) (joined (place_of (section_at r)) (i + 1)) b
  place_on book h g =
      let places = place_of (section_at r) in
      let is : bytes32 at ≡ places i = ap bytes32 (e ∙ sym (records_length r i)) in
      rw (g, is, joined_next places i)
      (put_put (length r) (joined places i) (places i) b (length r + 4 * i) h (ap (λ (k : ℕ). length r + k) (sym (joined_length places 4 i (λ j l. refl)))))

-- ---- the last 16 bytes
pub last_on :
    (index n k : ℕ) (b : List ℕ) {b1 b2 b3 b4 : List ℕ} → k ≤ length b
    → b1 ≡ put_at k (bytes32 index) b
    → b2 ≡ put_at (k + 4) (bytes32 n) b1
    → b3 ≡ put_at (k + 8) (bytes32 (index + 4 * n + 16)) b2
    → b4 ≡ put_at (k + 12) (66 ∷ 79 ∷ 79 ∷ 75 ∷ []) b3
    → b4 ≡ put_at k (last_bytes index n) b
last_on index n k b h p q s t =
    let two = q ∙ ap (put_at (k + 4) (bytes32 n)) p ∙ put_put k (bytes32 index) (bytes32 n) b (k + 4) h refl in
    let stated = bytes32 (index + 4 * n + 16) in
    let three = s ∙ ap (put_at (k + 8) stated) two ∙ put_put k (bytes32 index ++ bytes32 n) stated b (k + 8) h refl in
    t ∙ ap (put_at (k + 12) (66 ∷ 79 ∷ 79 ∷ 75 ∷ [])) three
    ∙ put_put k (bytes32 index ++ bytes32 n ++ stated) (66 ∷ 79 ∷ 79 ∷ 75 ∷ []) b (k + 12) h refl
