-- A record with a layer added: its number, and the lent bytes, refused or not. Assumes nothing.
use Prim.Native.Nat.{ℕ, zero, suc, ◌+◌, ◌≤◌, ◌<◌}
use mathlib.Core.Path.{◌≡◌, refl, ap, ◌∙◌}
use mathlib.Core.List.{List}
use native.Mathlib.Omega.{arith}
use lib.ListN.{length}
use borrow.Author.Tests.{ne_eqb, le-leb, lt-leb}
use lib.Dec.{eqb-suc-zero}
use Rattle.arith.specs.Lines.{first_of}
use Rattle.arith.proofs.Lines.{none_of}
use Rattle.arith.proofs.Answers.{refuses}
use Rattle.section.specs.declared.Layer.{Layer}
use Rattle.section.specs.declared.Section.{Section}
use Rattle.section.specs.Added.{layer_refusal, with_layer}
use Rattle.section.proofs.Accepted.{takes}
use Rattle.record.specs.Record.{Bytes, record_size, record_refusal, section_in}
use Rattle.record.proofs.Alone.{record_stands}
use Rattle.record.proofs.Inverse.{filed_length, filed_stands, section_filed, load_held_is, added_cleared}
use Rattle.writer.specs.Code.{layered_refusal, put_at}
use Rattle.writer.specs.Written.{layer_record, add_refusal, added_refusal, added_size, record_after}

-- ---- the record
pub few_layers : (s : Section) (l : Layer) → layer_refusal s l ≡ 0 → (with_layer s l).count ≤ 8
unfolding with_layer
few_layers s l e = omega (arith, (takes s l e).room)

-- ---- the number
-- a refusal, or the one after it, goes before a third
third : (a b c : ℕ) → (first_of a b ≡ 0 → ⊥) → first_of a (first_of b c) ≡ first_of a b
third zero b c some = rw (ne_eqb b 0 some)
third (suc a) b c some = rw eqb-suc-zero

pub layer_length : (s : Section) (l : Layer) → length (layer_record s l) ≡ record_size (s.count + 1) s.hf
unfolding with_layer
layer_length s l = filed_length (with_layer s l)

module _ (r : List ℕ) (l : Layer) where
  pub layer_refused : (room : ℕ) → (layered_refusal r l ≡ 0 → ⊥) → added_refusal r l room ≡ layered_refusal r l
  unfolding added_refusal add_refusal
  layer_refused room some = third (record_refusal r) (layer_refusal (section_in r) l) _ some

  pub layer_kept : (before : List ℕ) → (added_refusal r l (length before) ≡ 0 → ⊥) → before ≡ record_after r l before
  unfolding record_after
  layer_kept before some = refuses _ (λ number. before) refl some

  -- ---- where neither is refused
  module _ {bytes : List ℕ} (ok : layered_refusal r l ≡ 0) (is : bytes ≡ layer_record (section_in r) l) where
    pub layer_long : length bytes ≡ added_size r
    layer_long = ap length is ∙ layer_length (section_in r) l

    pub layer_homeless : (room : ℕ) → room < length bytes → added_refusal r l room ≡ 19
    unfolding added_refusal add_refusal
    layer_homeless room h =
        let k = none_of (record_refusal r) (layer_refusal (section_in r) l) ok in
        rw (k.0, k.1, lt-leb (added_size r) room (omega (arith, layer_long)))

    pub layer_granted : (room : ℕ) → length bytes ≤ room → added_refusal r l room ≡ 0
    unfolding added_refusal add_refusal
    layer_granted room h =
        let k = none_of (record_refusal r) (layer_refusal (section_in r) l) ok in
        rw (k.0, k.1, le-leb (added_size r) room (omega (arith, layer_long)))

    pub layer_put : (before : List ℕ) → length bytes ≤ length before → put_at 0 bytes before ≡ record_after r l before
    unfolding record_after
    layer_put before h = rw (layer_granted (length before) h, is)

-- ---- what is then read
pub layer_reads :
    (r : List ℕ) (l : Layer) → Bytes r → record_refusal r ≡ 0 → layer_refusal (section_in r) l ≡ 0
    → let s = section_in r in (record_refusal (layer_record s l) ≡ 0) × (section_in (layer_record s l) ≡ with_layer s l)
unfolding with_layer
layer_reads r l bytes ok fits =
    let s = section_in r in
    let few = few_layers s l fits in
    let read = section_filed (with_layer s l) few (load_held_is r bytes) ∙ added_cleared r l fits in
    ((record_stands (layer_record s l)).1 (filed_stands (with_layer s l) few), read)
