-- Demand 1, of what a call expects: nothing. A contract asks its caller for what its `requires` say, and each public function's asks for nothing.
use Rattle.std.specs.Prelude.{ℕ}
use contract.Lifetimes.{Lfts}
use borrow.Fn.Kinds.{Dens}
use Rattle.demands.specs.PublicContracts.{Contract}
use Rattle.demands.specs.PublicContracts as Contracts

-- whatever is handed over, what is asked of it holds
abbrev pub AsksNothing : {n : ℕ} → Contract n → Type 0
AsksNothing {n} c = (κs : Lfts n) (a : Dens κs c.takes) → c.asked κs a

-- of each public function
pub record Free : Type 0 where
  pub number_from : AsksNothing Contracts.number_from
  pub root : AsksNothing Contracts.root
  pub check : AsksNothing Contracts.check
  pub with_layer_call : AsksNothing Contracts.with_layer_call
  pub not_added_from : AsksNothing Contracts.not_added_from
  pub last_depth_call : AsksNothing Contracts.last_depth_call
  pub steel : AsksNothing Contracts.steel
  pub law_of_call : AsksNothing Contracts.law_of_call
  pub lawful_of : AsksNothing Contracts.lawful_of
  pub concrete_size : AsksNothing Contracts.concrete_size
  pub bar_size : AsksNothing Contracts.bar_size
  pub piece_at_call : AsksNothing Contracts.piece_at_call
  pub draw : AsksNothing Contracts.draw
  pub strip : AsksNothing Contracts.strip
  pub bounds : AsksNothing Contracts.bounds
  pub axis_at_call : AsksNothing Contracts.axis_at_call
  pub bar : AsksNothing Contracts.bar
  pub imbalance : AsksNothing Contracts.imbalance
  pub moment : AsksNothing Contracts.moment
  pub depths : AsksNothing Contracts.depths
  pub first : AsksNothing Contracts.first
  pub kind_from : AsksNothing Contracts.kind_from
  pub unlisted_from : AsksNothing Contracts.unlisted_from
  pub refusal_from : AsksNothing Contracts.refusal_from
  pub shear : AsksNothing Contracts.shear
  pub as_slice : AsksNothing Contracts.as_slice
  pub byte : AsksNothing Contracts.byte
  pub le32 : AsksNothing Contracts.le32
  pub layers_at_call : AsksNothing Contracts.layers_at_call
  pub size_at_call : AsksNothing Contracts.size_at_call
  pub section_of : AsksNothing Contracts.section_of
  pub filed : AsksNothing Contracts.filed
  pub record_of_call : AsksNothing Contracts.record_of_call
  pub book : AsksNothing Contracts.book
  pub record_place : AsksNothing Contracts.record_place
  pub record_part : AsksNothing Contracts.record_part
  pub write_book : AsksNothing Contracts.write_book
  pub add_layer : AsksNothing Contracts.add_layer
  pub letter_from : AsksNothing Contracts.letter_from
  pub class : AsksNothing Contracts.class
  pub strength : AsksNothing Contracts.strength
  pub book_from : AsksNothing Contracts.book_from
  pub record_from : AsksNothing Contracts.record_from
  pub written_from : AsksNothing Contracts.written_from
  pub class_from : AsksNothing Contracts.class_from
  pub strength_from : AsksNothing Contracts.strength_from
  pub drawn_from : AsksNothing Contracts.drawn_from
  pub amount_from : AsksNothing Contracts.amount_from
  pub listing_from : AsksNothing Contracts.listing_from
  pub first_from : AsksNothing Contracts.first_from
  pub fw_book : AsksNothing Contracts.fw_book
  pub fw_record : AsksNothing Contracts.fw_record
  pub fw_write_book : AsksNothing Contracts.fw_write_book
  pub fw_add_layer : AsksNothing Contracts.fw_add_layer
  pub fw_class : AsksNothing Contracts.fw_class
  pub fw_strength : AsksNothing Contracts.fw_strength
  pub fw_draw : AsksNothing Contracts.fw_draw
  pub fw_imbalance : AsksNothing Contracts.fw_imbalance
  pub fw_moment : AsksNothing Contracts.fw_moment
  pub fw_depths : AsksNothing Contracts.fw_depths
  pub fw_first : AsksNothing Contracts.fw_first
  pub fw_shear : AsksNothing Contracts.fw_shear
