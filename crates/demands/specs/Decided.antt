-- Document 01, 'What the contracts must decide': that no second answer fits.
use Rattle.std.specs.Prelude.{ℕ, ◌≡◌}
use contract.Lifetimes.{Lfts}
use denote.Triple.Clauses.{AtExit}
use borrow.Fn.Kinds.{Dens, res_t, ended_of}
use Rattle.demands.specs.PublicContracts.{Contract}
use Rattle.demands.specs.PublicContracts as Contracts

-- two answers that a contract allows for the same arguments are one
abbrev pub One : {n : ℕ} → Contract n → Type 0
One {n} c =
    (κs : Lfts n) (a : Dens κs c.takes) (x y : (res_t c.gives κs).Denot) (e f : AtExit (ended_of n c.takes c.gives) κs)
    → c.told κs a x e → c.told κs a y f → x ≡ y

-- and so is what is read of the answers and of what was lent: the row that is left, the bytes of the part that is handed back
abbrev pub OneIn : {n : ℕ} {X : Type 0} (c : Contract n) → ((κs : Lfts n) → (res_t c.gives κs).Denot → AtExit (ended_of n c.takes c.gives) κs → X) → Type 0
OneIn {n} c read =
    (κs : Lfts n) (a : Dens κs c.takes) (x y : (res_t c.gives κs).Denot) (e f : AtExit (ended_of n c.takes c.gives) κs)
    → c.told κs a x e → c.told κs a y f → read κs x e ≡ read κs y f

-- of each public function
pub record Decided : Type 0 where
  pub number_from : One Contracts.number_from
  pub root : One Contracts.root
  pub check : One Contracts.check
  pub with_layer_call : One Contracts.with_layer_call
  pub not_added_from : One Contracts.not_added_from
  pub last_depth_call : One Contracts.last_depth_call
  pub steel : One Contracts.steel
  pub law_of_call : One Contracts.law_of_call
  pub lawful_of : One Contracts.lawful_of
  pub concrete_size : One Contracts.concrete_size
  pub bar_size : One Contracts.bar_size
  pub piece_at_call : One Contracts.piece_at_call
  pub draw : One Contracts.draw
  pub strip : One Contracts.strip
  pub bounds : One Contracts.bounds
  pub axis_at_call : One Contracts.axis_at_call
  pub bar : One Contracts.bar
  pub imbalance : One Contracts.imbalance
  pub moment : One Contracts.moment
  pub depths : One Contracts.depths
  pub depths_row : OneIn Contracts.depths (λ κs x e. e.1.0.now)
  pub first : One Contracts.first
  pub kind_from : One Contracts.kind_from
  pub unlisted_from : One Contracts.unlisted_from
  pub refusal_from : One Contracts.refusal_from
  pub shear : One Contracts.shear
  pub as_slice : OneIn Contracts.as_slice (λ κs x e. x.now)
  pub byte : One Contracts.byte
  pub le32 : One Contracts.le32
  pub layers_at_call : One Contracts.layers_at_call
  pub size_at_call : One Contracts.size_at_call
  pub section_of : One Contracts.section_of
  pub filed : One Contracts.filed
  pub record_of_call : One Contracts.record_of_call
  pub book : One Contracts.book
  pub record_place : One Contracts.record_place
  pub record_part : OneIn Contracts.record_part (λ κs x e. x.now)
  pub write_book : One Contracts.write_book
  pub write_book_bytes : OneIn Contracts.write_book (λ κs x e. e.1.0.now)
  pub add_layer : One Contracts.add_layer
  pub add_layer_bytes : OneIn Contracts.add_layer (λ κs x e. e.1.1.1.0.now)
  pub letter_from : One Contracts.letter_from
  pub class : One Contracts.class
  pub strength : One Contracts.strength
  pub book_from : One Contracts.book_from
  pub record_from : One Contracts.record_from
  pub written_from : One Contracts.written_from
  pub class_from : One Contracts.class_from
  pub strength_from : One Contracts.strength_from
  pub drawn_from : One Contracts.drawn_from
  pub amount_from : One Contracts.amount_from
  pub listing_from : One Contracts.listing_from
  pub first_from : One Contracts.first_from
  pub fw_book : One Contracts.fw_book
  pub fw_record : One Contracts.fw_record
  pub fw_write_book : One Contracts.fw_write_book
  pub fw_write_book_bytes : OneIn Contracts.fw_write_book (λ κs x e. e.1.0.now)
  pub fw_add_layer : One Contracts.fw_add_layer
  pub fw_add_layer_bytes : OneIn Contracts.fw_add_layer (λ κs x e. e.1.1.1.0.now)
  pub fw_class : One Contracts.fw_class
  pub fw_strength : One Contracts.fw_strength
  pub fw_draw : One Contracts.fw_draw
  pub fw_imbalance : One Contracts.fw_imbalance
  pub fw_moment : One Contracts.fw_moment
  pub fw_depths : One Contracts.fw_depths
  pub fw_depths_row : OneIn Contracts.fw_depths (λ κs x e. e.1.0.now)
  pub fw_first : One Contracts.fw_first
  pub fw_shear : One Contracts.fw_shear
