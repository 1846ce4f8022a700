-- What each function of the C face takes and gives, kind by kind and width by width, in the order of include/fordwhistle.h: elsewhere a number has no width.
use Rattle.std.specs.Prelude.{ℕ, suc, ◌≡◌, List, [], ◌∷◌}
use Rattle.std.specs.Int.{w8, w16, w32, w64}
use contract.Lifetimes.{Lfts}
use denote.Signed.{SInt}
use denote.Struct.Declared.{Declared, row, field}
use denote.Struct.Field.{Field, u32-field, i64-field, f64-field}
use borrow.Table.Referent.{rt_f, f_int}
use borrow.Fn.Kinds.{ParamKind, p_num, p_s_num, res_t}
use borrow.Kind.ShrSlice.{p_shr_s}
use borrow.Kind.MutSlice.{p_mut_s}
use Rattle.panel.specs.contracts.answers.BookAnswer as BookAnswer
use Rattle.panel.specs.contracts.answers.RecordAnswer as RecordAnswer
use Rattle.panel.specs.contracts.answers.Written as Written
use Rattle.panel.specs.contracts.answers.ClassAnswer as ClassAnswer
use Rattle.panel.specs.contracts.answers.StrengthAnswer as StrengthAnswer
use Rattle.drawn.specs.contracts.Point as Point
use Rattle.panel.specs.contracts.answers.Drawn as Drawn
use Rattle.panel.specs.contracts.answers.Amount as Amount
use Rattle.panel.specs.contracts.answers.Listing as Listing
use Rattle.panel.specs.contracts.answers.FirstDepth as FirstDepth
use Rattle.demands.specs.PublicContracts.{Contract}
use Rattle.demands.specs.PublicContracts as Contracts

-- ---- what is taken
-- `const uint8_t *` and a `size_t`: bytes that are lent to be read
abbrev pub bytes : {n : ℕ} → ParamKind (suc n)
bytes = p_shr_s (rt_f (f_int w8)) 0 tt

-- `const uint32_t *` and a `size_t`: numbers of 32 bits that are lent to be read
abbrev pub results : {n : ℕ} → ParamKind (suc n)
results = p_shr_s (rt_f (f_int w32)) 0 tt

-- `int64_t *` and a `size_t`: a row of words that is lent to be written, beside the bytes
abbrev pub words : {n : ℕ} → ParamKind (suc (suc n))
words = p_mut_s (SInt w64) 1 tt

-- `uint8_t *` and a `size_t`: bytes that are lent to be written, beside those
abbrev pub lent : {n : ℕ} → ParamKind (suc (suc n))
lent = p_mut_s (rt_f (f_int w8)) 1 tt

abbrev pub Takes : {n : ℕ} → Contract n → List (ParamKind n) → Type 3
Takes c kinds = c.takes ≡ kinds

-- ---- what is given: a struct, by its fields in order
abbrev pub Gives : {n : ℕ} → Contract n → Declared → List Field → Type 2
Gives {n} c struct fields = ((κs : Lfts n) → res_t c.gives κs ≡ row struct) × (struct.parts ≡ fields)

pub record Widths : Type 3 where
  pub fw_book : Takes Contracts.fw_book (bytes ∷ [])
  pub book_answer_fields : Gives Contracts.fw_book BookAnswer.the_type (u32-field ∷ u32-field ∷ [])
  pub fw_record : Takes Contracts.fw_record (bytes ∷ p_num w32 ∷ [])
  pub record_answer_fields : Gives Contracts.fw_record RecordAnswer.the_type (u32-field ∷ u32-field ∷ u32-field ∷ [])
  pub fw_write_book : Takes Contracts.fw_write_book (bytes ∷ lent ∷ [])
  pub written_book : Gives Contracts.fw_write_book Written.the_type (u32-field ∷ u32-field ∷ [])
  pub fw_add_layer : Takes Contracts.fw_add_layer (bytes ∷ p_num w16 ∷ p_num w16 ∷ lent ∷ [])
  pub written_record_fields : Gives Contracts.fw_add_layer Written.the_type (u32-field ∷ u32-field ∷ [])
  pub fw_class : Takes Contracts.fw_class (p_num w16 ∷ p_num w16 ∷ [])
  pub class_answer_fields : Gives Contracts.fw_class ClassAnswer.the_type (u32-field ∷ u32-field ∷ u32-field ∷ [])
  pub fw_strength : Takes Contracts.fw_strength (results ∷ [])
  pub strength_answer_fields : Gives Contracts.fw_strength StrengthAnswer.the_type (u32-field ∷ u32-field ∷ u32-field ∷ u32-field ∷ [])
  pub fw_draw : Takes Contracts.fw_draw (bytes ∷ p_s_num w32 ∷ [])
  pub point : (Point.the_type).parts ≡ (f64-field ∷ f64-field ∷ [])
  pub drawn : Gives Contracts.fw_draw Drawn.the_type (u32-field ∷ field Point.the_type ∷ [])
  pub fw_imbalance : Takes Contracts.fw_imbalance (bytes ∷ p_num w32 ∷ [])
  pub imbalance : Gives Contracts.fw_imbalance Amount.the_type (u32-field ∷ i64-field ∷ [])
  pub fw_moment : Takes Contracts.fw_moment (bytes ∷ p_num w32 ∷ [])
  pub moment : Gives Contracts.fw_moment Amount.the_type (u32-field ∷ i64-field ∷ [])
  pub fw_depths : Takes Contracts.fw_depths (bytes ∷ words ∷ [])
  pub listed : Gives Contracts.fw_depths Listing.the_type (u32-field ∷ u32-field ∷ u32-field ∷ [])
  pub fw_first : Takes Contracts.fw_first (bytes ∷ [])
  pub first_depth : Gives Contracts.fw_first FirstDepth.the_type (u32-field ∷ u32-field ∷ u32-field ∷ u32-field ∷ i64-field ∷ [])
  pub fw_shear : Takes Contracts.fw_shear (bytes ∷ [])
  pub shear : Gives Contracts.fw_shear Amount.the_type (u32-field ∷ i64-field ∷ [])
