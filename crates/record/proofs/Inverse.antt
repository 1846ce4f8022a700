-- What is filed of a section is read as that section, and what is read from a record is filed as that record. Assumes nothing.
use Prim.Native.Nat.{ℕ, suc, ◌+◌, ◌*◌, ◌-◌, ◌%◌, ◌/◌, ◌^◌, ◌≤◌, ◌<◌}
use mathlib.Core.Path.{◌≡◌, refl, sym, ap, ◌∙◌}
use mathlib.Core.Bool.{cond}
use mathlib.Core.List.{List, [], ◌∷◌, ◌++◌, append_assoc}
use mathlib.Core.Logic.{⊎_elim}
use native.Mathlib.Nat.{eq-zero-or-pos}
use native.Mathlib.Omega.{arith}
use lib.Dec.{eqb}
use lib.IntN.{ℤ, pos, negsuc, nat_abs}
use lib.ListN.{length, get_or, take, drop, drop_of_length-le, get_or-append}
use lib.Seq.{take_all, length-take-le, get_or_at, get_or-take, get_or-append-add, drop-cons}
use lib.Signed.{mag}
use borrow.Author.Tests.{lt-ltb, le-ltb, eq-eqb, ne_eqb}
use Rattle.arith.specs.Joined.{joined}
use Rattle.arith.proofs.Tests.{less_or_not}
use Rattle.arith.proofs.Joined.{joined_alike, joined_next, joined_length, joined_at}
use Rattle.section.specs.declared.Layer.{Layer}
use Rattle.section.specs.declared.Section.{Section}
use Rattle.section.specs.Section.{no_layer, layer_at}
use Rattle.section.specs.Added.{layer_refusal, with_layer}
use Rattle.section.proofs.Accepted.{takes}
use Rattle.section.proofs.Inserted.{added_places, added_past}
use Rattle.record.specs.Record.{Bytes, le16_at, le32_at, signed32, layers_end, record_size, layers_at, flange_at, size_at, record_refusal, number_in, layer_in, flange_width, section_in}
use Rattle.record.specs.Alone.{StandsAlone}
use Rattle.record.specs.Filed.{bytes16, unsigned32, places_of, numbers_of, number_bytes, filed, but, as_written, cleared_at, as_read}
use Rattle.record.proofs.Length.{no_flange, some_flange, halves}
use Rattle.record.proofs.Alone.{record_stands}
use Rattle.record.proofs.Places.{layer_there, layer_past, zero_past_count, width_none, width_filed}
use Rattle.record.proofs.Put.{numbers_length, head_put, layer_put}
use Rattle.record.proofs.Placed.{le16_number, taken}

-- ---- the load
pub load_small : (z : ℤ) → nat_abs z ≤ 10000000 → mag z < 2 ^ 31
load_small (pos n) h = omega arith
load_small (negsuc n) h = omega arith

pub signed_unsigned : (z : ℤ) → mag z < 2 ^ 31 → signed32 (unsigned32 z) ≡ z
unfolding signed32 unsigned32
signed_unsigned (pos n) h = rw (lt-ltb n 2147483648 h)
signed_unsigned (negsuc n) h =
    rw (le-ltb (4294967296 - suc n) 2147483648 (omega arith), lt-ltb (4294967296 - suc n) 4294967296 (omega arith)) (ap negsuc (omega arith))

pub signed_small : (n : ℕ) → n < 2 ^ 32 → mag (signed32 n) < 2 ^ 31
unfolding signed32
signed_small n h =
    ⊎_elim (λ q. rw (lt-ltb n 2147483648 q) (omega arith)) (λ q. rw (le-ltb n 2147483648 q, lt-ltb n 4294967296 h) (omega arith)) (less_or_not n 2147483648)

pub unsigned_signed : (n : ℕ) → n < 2 ^ 32 → unsigned32 (signed32 n) ≡ n
unfolding signed32 unsigned32
unsigned_signed n h =
    ⊎_elim (λ q. rw (lt-ltb n 2147483648 q)) (λ q. rw (le-ltb n 2147483648 q, lt-ltb n 4294967296 h) (omega arith)) (less_or_not n 2147483648)

-- two numbers behind others
module _ (p : List ℕ) (a b n : ℕ) (e : length p ≡ n) where
  behind : get_or (p ++ (a ∷ b ∷ [])) n 0 ≡ a
  behind = get_or_at p a (b ∷ []) 0 n e

  behind_next : get_or (p ++ (a ∷ b ∷ [])) (n + 1) 0 ≡ b
  behind_next = rw (← e) (get_or-append-add p (a ∷ b ∷ []) 1 0)

module _ (s : Section) where
  pub filed_length : length (filed s) ≡ record_size s.count s.hf
  unfolding filed
  filed_length = joined_length (number_bytes (numbers_of s)) 2 (record_size s.count s.hf / 2) (λ i l. refl) ∙ halves s.count s.hf

  number_there : (k : ℕ) → 2 * k < record_size s.count s.hf → le16_at (filed s) (2 * k) ≡ get_or (numbers_of s) k 0
  unfolding filed
  number_there k h = le16_number (numbers_of s) (record_size s.count s.hf / 2) k (omega (arith, halves s.count s.hf))

  places_length : length (places_of s) ≡ 28
  unfolding places_of
  places_length = refl

  module _ (few : s.count ≤ 8) where
    abbrev front : List ℕ
    front = take (layers_end s.count / 2) (places_of s)

    front_length : length front ≡ 12 + 2 * s.count
    front_length = length-take-le (layers_end s.count / 2) (places_of s) (omega (arith, places_length)) ∙ omega arith

    pub front_number : (k : ℕ) → k < 12 + 2 * s.count → get_or (numbers_of s) k 0 ≡ get_or (places_of s) k 0
    front_number k h = get_or-append front _ 0 k (omega (arith, front_length)) ∙ get_or-take (layers_end s.count / 2) (places_of s) k 0 (omega arith)

    -- in the order of the places, then the flange behind the layers
    fronts : joined (number_bytes (numbers_of s)) (12 + 2 * s.count) ≡ joined (number_bytes (places_of s)) (12 + 2 * s.count)
    fronts = joined_alike (number_bytes (numbers_of s)) (number_bytes (places_of s)) (12 + 2 * s.count) (λ k h. ap bytes16 (front_number k h))

    pub filed_flat : s.hf ≡ 0 → joined (number_bytes (places_of s)) (12 + 2 * s.count) ≡ filed s
    unfolding filed
    filed_flat none =
        let e : record_size s.count s.hf / 2 ≡ 12 + 2 * s.count = omega (arith, no_flange s.hf none) in
        rw (e, fronts)

    pub filed_rib : 0 < s.hf → joined (number_bytes (places_of s)) (12 + 2 * s.count) ++ bytes16 s.bf ++ bytes16 0 ≡ filed s
    unfolding filed
    filed_rib some =
        let n = 12 + 2 * s.count in
        let f = number_bytes (numbers_of s) in
        let e : record_size s.count s.hf / 2 ≡ n + 1 + 1 = omega (arith, some_flange s.hf some) in
        rw (e, joined_next f (n + 1), joined_next f n, fronts, behind front s.bf 0 n front_length, behind_next front s.bf 0 n front_length)

    place_there : (k : ℕ) → k < 12 + 2 * s.count → le16_at (filed s) (2 * k) ≡ get_or (places_of s) k 0
    place_there k h = number_there k (omega arith) ∙ front_number k h

    pub filed_layers : layers_at (filed s) 0 ≡ s.count
    unfolding places_of
    filed_layers = place_there 10 (omega arith)

    pub filed_flange : flange_at (filed s) 0 ≡ s.hf
    unfolding places_of
    filed_flange = place_there 11 (omega arith)

    -- behind the layers
    module _ (some : 0 < s.hf) where
      width_there : le16_at (filed s) (layers_end s.count) ≡ s.bf
      width_there =
          let e : layers_end s.count ≡ 2 * (12 + 2 * s.count) = omega arith in
          rw e (number_there (12 + 2 * s.count) (omega (arith, some_flange s.hf some)) ∙ behind front s.bf 0 (12 + 2 * s.count) front_length)

      zero_there : le16_at (filed s) (layers_end s.count + 2) ≡ 0
      zero_there =
          let e : layers_end s.count + 2 ≡ 2 * (12 + 2 * s.count + 1) = omega arith in
          rw e (number_there (12 + 2 * s.count + 1) (omega (arith, some_flange s.hf some)) ∙ behind_next front s.bf 0 (12 + 2 * s.count) front_length)

    pub filed_stands : StandsAlone (filed s)
    filed_stands = (
      filed_length ∙ sym (λ i. record_size (filed_layers i) (filed_flange i)),
      omega (arith, filed_layers),
      λ h. rw filed_layers (zero_there (omega (arith, filed_flange))),
    )

    flange_there : flange_width (filed s) ≡ cond (eqb s.hf 0) 0 s.bf
    flange_there = rw (filed_flange, filed_layers) (⊎_elim (λ e. rw (eq-eqb s.hf 0 e)) (λ n. ap (cond (eqb s.hf 0) 0) (width_there n)) (eq-zero-or-pos s.hf))

    -- past the layer count there is no layer
    layer_filed :
        (j : ℕ) → get_or (places_of s) (12 + 2 * j) 0 ≡ (layer_at s.layers j).depth → get_or (places_of s) (13 + 2 * j) 0 ≡ (layer_at s.layers j).area
        → layer_in (filed s) j ≡ cleared_at s j
    layer_filed j d a = ⊎_elim inside past (less_or_not j s.count)
      where
        inside : j < s.count → layer_in (filed s) j ≡ cleared_at s j
        inside h =
            let e : 24 + 4 * j ≡ 2 * (12 + 2 * j) = omega arith in
            let f : 26 + 4 * j ≡ 2 * (13 + 2 * j) = omega arith in
            layer_there (filed s) j (omega (arith, filed_layers))
            ∙ rw (e, f, place_there (12 + 2 * j) (omega arith), place_there (13 + 2 * j) (omega arith), d, a, lt-ltb j s.count h)

        past : s.count ≤ j → layer_in (filed s) j ≡ cleared_at s j
        past h = layer_past (filed s) j (omega (arith, filed_layers)) ∙ rw (le-ltb j s.count h)

    load_there : mag s.load < 2 ^ 31 → signed32 (le32_at (filed s) 12) ≡ s.load
    unfolding places_of
    load_there h =
        let e : unsigned32 s.load % 65536 + 65536 * (unsigned32 s.load / 65536) ≡ unsigned32 s.load = omega arith in
        rw (place_there 6 (omega arith), place_there 7 (omega arith), e) (signed_unsigned s.load h)

    pub section_filed : mag s.load < 2 ^ 31 → section_in (filed s) ≡ as_read s
    unfolding section_in as_read places_of
    section_filed h =
        rw (
          place_there 0 (omega arith),
          place_there 1 (omega arith),
          flange_there,
          filed_flange,
          place_there 2 (omega arith),
          place_there 3 (omega arith),
          place_there 4 (omega arith),
          place_there 5 (omega arith),
          load_there h,
          place_there 8 (omega arith),
          place_there 9 (omega arith),
          layer_filed 0 refl refl,
          layer_filed 1 refl refl,
          layer_filed 2 refl refl,
          layer_filed 3 refl refl,
          layer_filed 4 refl refl,
          layer_filed 5 refl refl,
          layer_filed 6 refl refl,
          layer_filed 7 refl refl,
          filed_layers,
        )

-- what `filed` goes by
pub ruleset filing = (numbers_length, head_put, layer_put, filed_flat, filed_rib)

-- without a flange no bf is filed
pub flat_filed : (s : Section) (bf : ℕ) → s.hf ≡ 0 → s.count ≤ 8 → filed (but s bf s.spacing s.layers) ≡ filed s
unfolding filed places_of
flat_filed s bf e few =
    let t = but s bf s.spacing s.layers in
    let short : (k : ℕ) → k < record_size s.count s.hf / 2 → k < 12 + 2 * s.count = λ k h. omega (arith, no_flange s.hf e) in
    joined_alike (number_bytes (numbers_of t)) (number_bytes (numbers_of s)) (record_size s.count s.hf / 2)
    (λ k h. ap bytes16 (front_number t few k (short k h) ∙ sym (front_number s few k (short k h))))

-- ---- the other way
singles : (g : ℕ → ℕ) (n k : ℕ) → k < n → get_or (joined (λ i. g i ∷ []) n) k 0 ≡ g k
singles g n k h =
    let f : ℕ → List ℕ = λ i. g i ∷ [] in
    rw (joined_at f n k h, append_assoc (joined f k) (f k) _) (get_or_at (joined f k) (g k) _ 0 k (joined_length f 1 k (λ i l. refl) ∙ omega arith))

module _ (r : List ℕ) (bytes : Bytes r) where
  small : (i : ℕ) → le16_at r i < 65536
  small i = omega (arith, bytes i, bytes (i + 1))

  pub load_held_is : mag (section_in r).load < 2 ^ 31
  unfolding section_in
  load_held_is = signed_small (le32_at r 12) (omega (arith, small 12, small 14))

  load_back : unsigned32 (signed32 (le32_at r 12)) ≡ le32_at r 12
  load_back = unsigned_signed (le32_at r 12) (omega (arith, small 12, small 14))

  low_back : le32_at r 12 % 65536 ≡ le16_at r 12
  low_back = omega (arith, small 12)

  high_back : le32_at r 12 / 65536 ≡ le16_at r 14
  high_back = omega (arith, small 12)

  -- a number of the head or of the layers there are
  in_layers : (i : ℕ) → i < layers_end (layers_at r 0) → number_in r i ≡ le16_at r i
  in_layers i h = rw (lt-ltb i (layers_end (layers_at r 0)) h)

  places_back : places_of (section_in r) ≡ joined (λ k. number_in r (2 * k) ∷ []) 28
  unfolding places_of section_in joined
  places_back =
      rw (
        load_back,
        low_back,
        high_back,
        in_layers 0 (omega arith),
        in_layers 2 (omega arith),
        in_layers 4 (omega arith),
        in_layers 6 (omega arith),
        in_layers 8 (omega arith),
        in_layers 10 (omega arith),
        in_layers 12 (omega arith),
        in_layers 14 (omega arith),
        in_layers 16 (omega arith),
        in_layers 18 (omega arith),
        in_layers 20 (omega arith),
        in_layers 22 (omega arith),
      )

  module _ (ok : record_refusal r ≡ 0) where
    stands : StandsAlone r
    stands = (record_stands r).0 ok

    abbrev own : Section
    own = section_in r

    few : own.count ≤ 8
    unfolding section_in
    few = stands.1

    front_back : (k : ℕ) → k < 12 + 2 * layers_at r 0 → get_or (numbers_of own) k 0 ≡ le16_at r (2 * k)
    unfolding section_in
    front_back k h =
        front_number own few k h ∙ ap (λ (l : List ℕ). get_or l k 0) places_back
        ∙ singles (λ k. number_in r (2 * k)) 28 k (omega (arith, stands.1)) ∙ in_layers (2 * k) (omega arith)

    -- behind the layers: the flange's width, and the zero
    module _ (some : 0 < flange_at r 0) where
      width_back : get_or (numbers_of own) (12 + 2 * layers_at r 0) 0 ≡ le16_at r (2 * (12 + 2 * layers_at r 0))
      unfolding section_in
      width_back =
          let e : 2 * (12 + 2 * layers_at r 0) ≡ layers_end (layers_at r 0) = omega arith in
          behind (front own few) (flange_width r) 0 (12 + 2 * layers_at r 0) (front_length own few) ∙ rw e (width_filed r some)

      zero_back : get_or (numbers_of own) (12 + 2 * layers_at r 0 + 1) 0 ≡ le16_at r (2 * (12 + 2 * layers_at r 0 + 1))
      unfolding section_in
      zero_back =
          let e : 2 * (12 + 2 * layers_at r 0 + 1) ≡ layers_end (layers_at r 0) + 2 = omega arith in
          behind_next (front own few) (flange_width r) 0 (12 + 2 * layers_at r 0) (front_length own few) ∙ rw (e, stands.2 some)

    flange_back : (k : ℕ) → 2 * k < size_at r 0 → 12 + 2 * layers_at r 0 ≤ k → get_or (numbers_of own) k 0 ≡ le16_at r (2 * k)
    flange_back k h l =
        ⊎_elim
        (λ none. absurd (omega (arith, no_flange (flange_at r 0) none)))
        (λ some.
        let four = some_flange (flange_at r 0) some in
        ⊎_elim
        (λ p. let e : k ≡ 12 + 2 * layers_at r 0 = omega arith in rw e (width_back some))
        (λ p. let e : k ≡ 12 + 2 * layers_at r 0 + 1 = omega arith in rw e (zero_back some))
        (less_or_not k (12 + 2 * layers_at r 0 + 1)))
        (eq-zero-or-pos (flange_at r 0))

    number_back : (k : ℕ) → 2 * k < size_at r 0 → get_or (numbers_of own) k 0 ≡ le16_at r (2 * k)
    number_back k h = ⊎_elim (front_back k) (flange_back k h) (less_or_not k (12 + 2 * layers_at r 0))

    pub filed_section : filed own ≡ r
    unfolding filed section_in
    filed_section =
        let n = size_at r 0 / 2 in
        joined_alike (number_bytes (numbers_of own)) (λ k. bytes16 (le16_at r (2 * k))) n (λ k h. ap bytes16 (number_back k (omega arith)))
        ∙ taken r n (omega (arith, stands.0)) bytes
        ∙ take_all (2 * n) r (omega (arith, halves (layers_at r 0) (flange_at r 0), stands.0))

-- ---- zeros past the layer count
eight :
    (l : List Layer) → length l ≡ 8
    → l ≡ layer_at l 0 ∷ layer_at l 1 ∷ layer_at l 2 ∷ layer_at l 3 ∷ layer_at l 4 ∷ layer_at l 5 ∷ layer_at l 6 ∷ layer_at l 7 ∷ []
eight l e =
    next 0 (omega arith)
    (next 1 (omega arith)
    (next 2 (omega arith)
    (next 3 (omega arith)
    (next 4 (omega arith)
    (next 5 (omega arith)
    (next 6 (omega arith)
    (next 7 (omega arith) (drop_of_length-le l {i = 8} (omega arith)))))))))
  where
    next : (j : ℕ) → j < 8 → {t : List Layer} → drop (suc j) l ≡ t → drop j l ≡ layer_at l j ∷ t
    next j h {t} q = drop-cons l j no_layer (omega arith) ∙ ap (λ (k : List Layer). layer_at l j ∷ k) q

pub cleared :
    (s : Section) → length s.layers ≡ 8 → ((j : ℕ) → s.count ≤ j → layer_at s.layers j ≡ no_layer) → (s.hf ≡ 0 → s.bf ≡ 0)
    → as_read s ≡ s
unfolding as_read
cleared s e past flat = rw (width, place 0, place 1, place 2, place 3, place 4, place 5, place 6, place 7, ← (eight s.layers e))
  where
    width : cond (eqb s.hf 0) 0 s.bf ≡ s.bf
    width = ⊎_elim (λ z. rw (flat z, eq-eqb s.hf 0 z)) (λ n. rw (ne_eqb s.hf 0 (λ e. omega arith))) (eq-zero-or-pos s.hf)

    place : (j : ℕ) → cleared_at s j ≡ layer_at s.layers j
    place j = ⊎_elim (λ h. rw (lt-ltb j s.count h)) (λ h. rw (le-ltb j s.count h) (sym (past j h))) (less_or_not j s.count)

pub written_cleared : (r : List ℕ) → as_read (as_written (section_in r)) ≡ as_written (section_in r)
unfolding section_in as_written
written_cleared r = cleared (as_written (section_in r)) refl (zero_past_count r) (width_none r)

pub added_cleared : (r : List ℕ) (l : Layer) → layer_refusal (section_in r) l ≡ 0 → as_read (with_layer (section_in r) l) ≡ with_layer (section_in r) l
unfolding section_in with_layer
added_cleared r l fits =
    let s = section_in r in
    cleared (with_layer s l) (added_places s l (takes s l fits).room) (λ j h. added_past s l j h ∙ zero_past_count r j (omega arith)) (width_none r)
