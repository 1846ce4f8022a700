-- A string of records that all pass, gone through record by record: what is left, and what is put into a book. Assumes nothing.
use Prim.Native.Nat.{ℕ, ◌+◌, ◌*◌, ◌≤◌, ◌<◌}
use mathlib.Core.Path.{◌≡◌, refl, sym, ap, ◌∙◌}
use mathlib.Core.List.{List, []}
use mathlib.Core.Logic.{⊎_elim}
use native.Mathlib.Omega.{arith}
use lib.ListN.{length, drop, length-take, length-drop}
use Rattle.arith.specs.Joined.{joined}
use Rattle.arith.proofs.Tests.{less_or_not}
use Rattle.arith.proofs.Joined.{joined_length}
use Rattle.record.specs.Record.{size_at, section_in}
use Rattle.record.specs.Filed.{bytes32, as_written, filed}
use Rattle.writer.specs.Records.{part_from, lone_refusal, place_at, section_at}
use Rattle.writer.specs.Written.{written_record, records_of, place_of}
use Rattle.writer.specs.Code.{put_at}
use Rattle.writer.proofs.Walk.{place_first, place_next, counted, part_left, rest_left, some_left, none_left}
use Rattle.writer.proofs.Puts.{put_length, put_none}
use Rattle.writer.proofs.Strings.{Tallied, begins_there, passes_there, ends_there, record_length, records_kept, record_on, place_on}

-- ---- after i of n
pub record After (r : List ℕ) (n : ℕ) (rest : List ℕ) (i : ℕ) : Type 0 where
  pub inside : i ≤ n
  pub left : rest ≡ drop (place_at r i) r

pub after_none : {r rest : List ℕ} {n : ℕ} → rest ≡ r → After r n rest 0
after_none {r} is = record { inside = omega arith; left = rw (place_first r) is }

module _ {r : List ℕ} {n : ℕ} (t : Tallied r n) {rest : List ℕ} {i : ℕ} (a : After r n rest i) where
  pub after_all : rest ≡ [] → i ≡ n
  after_all e =
      ⊎_elim (λ q. absurd (omega (arith, none_left r i a.left e, begins_there t i q))) (λ q. omega (arith, a.inside)) (less_or_not i n)

  -- the next one
  module _ {part : List ℕ} (some : 0 < length rest) (is : part ≡ part_from rest 0) where
    pub one_more : i < n
    one_more = omega (arith, counted r i (some_left r i a.left some), t.count)

    part_is : part ≡ part_from r (place_at r i)
    part_is = part_left r i a.left is

    pub passes_next : lone_refusal part ≡ 0
    passes_next = let k = passes_there t i one_more in rw (part_is, k.0) k.1

    -- its length, and how far it reaches
    pub next_long : place_at r i + length part ≡ place_at r (i + 1)
    next_long =
        let l = length-take (size_at r (place_at r i)) (drop (place_at r i) r) in
        let d = length-drop (place_at r i) r in
        omega (arith, ap length part_is, place_next r i, ends_there t i one_more)

    pub after_next : {next : List ℕ} → next ≡ drop (size_at rest 0) rest → After r n next (i + 1)
    after_next e = record { inside = omega (arith, one_more); left = rest_left r i a.left e }

-- ---- the records, put into a book that was b
pub record RecordsPut (r b : List ℕ) (n : ℕ) (rest : List ℕ) (at : ℕ) (book : List ℕ) : Type 0 where
  pub i : ℕ
  pub after : After r n rest i
  pub here : at ≡ place_at r i
  pub so_far : book ≡ put_at 0 (records_of (section_at r) i) b

module _ {r : List ℕ} {n : ℕ} (t : Tallied r n) {b : List ℕ} (room : length r ≤ length b) where
  pub records_none : {rest : List ℕ} → rest ≡ r → RecordsPut r b n rest 0 b
  unfolding joined
  records_none is = record { i = 0; after = after_none is; here = sym (place_first r); so_far = refl }

  module _ {rest : List ℕ} {at : ℕ} {book : List ℕ} (p : RecordsPut r b n rest at book) where
    records_long : length book ≡ length b
    records_long = rw p.so_far (records_kept t b p.i p.after.inside room)

    pub records_all : rest ≡ [] → book ≡ put_at 0 (records_of (section_at r) n) b
    records_all e =
        let all = after_all t p.after e in
        rw all at p.so_far

    module _ {part : List ℕ} (some : 0 < length rest) (is : part ≡ part_from rest 0) where
      module _ {ws : List ℕ} (filed_is : ws ≡ filed (as_written (section_in part))) where
        ws_is : ws ≡ written_record (section_at r) p.i
        ws_is = filed_is ∙ ap (λ (q : List ℕ). filed (as_written (section_in q))) (part_is t p.after some is)

        ws_long : at + length ws ≡ place_at r (p.i + 1)
        ws_long = omega (arith, ap length ws_is, record_length r p.i, p.here, place_next r p.i)

        pub record_fits : at + length ws ≤ length book
        record_fits = omega (arith, ws_long, records_long, room, ends_there t p.i (one_more t p.after some is))

        pub records_next :
            {next after : List ℕ} → after ≡ put_at at ws book → next ≡ drop (size_at rest 0) rest
            → RecordsPut r b n next (at + length part) after
        records_next e d = record {
          i = p.i + 1;
          after = after_next t p.after some is d;
          here = ap (λ (k : ℕ). k + length part) p.here ∙ next_long t p.after some is;
          so_far = e ∙ record_on r b p.i at p.here ws book ws_is p.so_far;
        }

-- ---- their places, put behind them
pub record PlacesPut (r b : List ℕ) (n : ℕ) (rest : List ℕ) (at place : ℕ) (book : List ℕ) : Type 0 where
  pub i : ℕ
  pub after : After r n rest i
  pub here : at ≡ length r + 4 * i
  pub next : place ≡ place_at r i
  pub so_far : book ≡ put_at (length r) (joined (place_of (section_at r)) i) b

module _ {r : List ℕ} {n : ℕ} (t : Tallied r n) {b : List ℕ} (room : length r + 4 * n ≤ length b) where
  pub places_none : {rest : List ℕ} {at : ℕ} → rest ≡ r → at ≡ length r → PlacesPut r b n rest at 0 b
  unfolding joined
  places_none is e = record {
    i = 0;
    after = after_none is;
    here = omega arith;
    next = sym (place_first r);
    so_far = put_none (length r) b (omega arith);
  }

  module _ {rest : List ℕ} {at place : ℕ} {book : List ℕ} (p : PlacesPut r b n rest at place book) where
    abbrev places : ℕ → List ℕ
    places = place_of (section_at r)

    places_long : length book ≡ length b
    places_long =
        let long = joined_length places 4 p.i (λ j h. refl) in
        rw p.so_far (put_length (length r) (joined places p.i) b (omega (arith, p.after.inside)))

    pub places_all : rest ≡ [] → book ≡ put_at (length r) (joined places n) b
    places_all e =
        let all = after_all t p.after e in
        rw all at p.so_far

    module _ {part : List ℕ} (some : 0 < length rest) (is : part ≡ part_from rest 0) where
      pub place_fits : at + 4 ≤ length book
      place_fits = omega (arith, p.here, places_long, one_more t p.after some is)

      pub places_next :
          {left after : List ℕ} → after ≡ put_at at (bytes32 place) book → left ≡ drop (size_at rest 0) rest
          → PlacesPut r b n left (at + 4) (place + length part) after
      places_next e d = record {
        i = p.i + 1;
        after = after_next t p.after some is d;
        here = omega (arith, p.here);
        next = ap (λ (k : ℕ). k + length part) p.next ∙ next_long t p.after some is;
        so_far = e ∙ ap (λ (k : ℕ). put_at k (bytes32 place) book) p.here ∙ place_on r b p.i place p.next book (omega arith) p.so_far;
      }
