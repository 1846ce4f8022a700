-- What is said of every call of a public function: of what was handed over, of the answer and, where a row was lent, of the row before and after. It is
-- said of all that the contract allows, and so of what the function does.
use Rattle.std.specs.Prelude.{ℕ, Bool, List, ℤ, Float, Result}
use contract.Lifetimes.{Lfts}
use denote.Triple.Clauses.{AtExit}
use borrow.Fn.Kinds.{Dens, res_t, ended_of, Out}
use Rattle.refusal.specs.declared.Refusal.{Refusal}
use Rattle.section.specs.declared.NotAdded.{NotAdded}
use Rattle.section.specs.declared.Section.{Section}
use Rattle.section.specs.declared.Steel.{Steel}
use Rattle.law.specs.declared.Law.{Law}
use Rattle.law.specs.declared.Lawful.{Lawful}
use Rattle.drawn.specs.declared.Piece.{Piece}
use Rattle.drawn.specs.declared.Point.{Point}
use Rattle.strips.specs.declared.Axis.{Axis}
use Rattle.strips.specs.declared.Range.{Range}
use Rattle.depths.specs.declared.Kind.{Kind}
use Rattle.depths.specs.declared.Listing as Listed
use Rattle.depths.specs.declared.FirstDepth as Firsts
use Rattle.depths.specs.declared.Unlisted.{Unlisted}
use Rattle.depths.specs.Answers.{ListAnswer, told, FirstAnswer, told_first}
use Rattle.book.specs.declared.Place.{Place}
use Rattle.class.specs.declared.answer.Class.{Class}
use Rattle.class.specs.declared.answer.Letter.{Letter}
use Rattle.strength.specs.declared.answer.Strength.{Strength}
use Rattle.panel.specs.declared.answers.Amount.{Amount}
use Rattle.panel.specs.declared.answers.Drawn.{Drawn}
use Rattle.panel.specs.declared.answers.Listing.{Listing}
use Rattle.panel.specs.declared.answers.FirstDepth.{FirstDepth}
use Rattle.panel.specs.declared.answers.BookAnswer.{BookAnswer}
use Rattle.panel.specs.declared.answers.RecordAnswer.{RecordAnswer}
use Rattle.panel.specs.declared.answers.Written.{Written}
use Rattle.panel.specs.declared.answers.ClassAnswer.{ClassAnswer}
use Rattle.panel.specs.declared.answers.StrengthAnswer.{StrengthAnswer}
use Rattle.demands.specs.PublicContracts.{Contract}
use Rattle.demands.specs.PublicContracts as Contracts

-- a is what was handed over, x the answer, e what is left of what was lent
abbrev pub Tells : {n : ℕ} (c : Contract n) → Out n c.takes c.gives → Type 0
Tells {n} c says =
    (κs : Lfts n) (a : Dens κs c.takes) (x : (res_t c.gives κs).Denot) (e : AtExit (ended_of n c.takes c.gives) κs)
    → c.told κs a x e → says κs a x e

-- ---- the number of a refusal
abbrev pub number_from : (Refusal → ℕ → Type 0) → Type 0
number_from says = Tells Contracts.number_from (λ κs a x e. says a.0 x)

-- ---- roots
abbrev pub root : (Bool → ℕ → ℕ → ℕ → ℕ → Type 0) → Type 0
root says = Tells Contracts.root (λ κs a x e. says a.0 a.1.0 a.1.1.0 a.1.1.1.0 x)

-- ---- section
abbrev pub check : (Section → Result Unit Refusal → Type 0) → Type 0
check says = Tells Contracts.check (λ κs a x e. says a.0 x)

abbrev pub with_layer_call : (Section → ℕ → ℕ → Result Section NotAdded → Type 0) → Type 0
with_layer_call says = Tells Contracts.with_layer_call (λ κs a x e. says a.0 a.1.0 a.1.1.0 x)

abbrev pub not_added_from : (NotAdded → Refusal → Type 0) → Type 0
not_added_from says = Tells Contracts.not_added_from (λ κs a x e. says a.0 x)

abbrev pub last_depth_call : (Section → ℕ → Type 0) → Type 0
last_depth_call says = Tells Contracts.last_depth_call (λ κs a x e. says a.0 x)

abbrev pub steel : (Section → Steel → Type 0) → Type 0
steel says = Tells Contracts.steel (λ κs a x e. says a.0 x)

-- ---- law
abbrev pub law_of_call : (Section → Result Law Refusal → Type 0) → Type 0
law_of_call says = Tells Contracts.law_of_call (λ κs a x e. says a.0 x)

abbrev pub lawful_of : (Section → Result Lawful Refusal → Type 0) → Type 0
lawful_of says = Tells Contracts.lawful_of (λ κs a x e. says a.0 x)

abbrev pub concrete_size : (Law → Bool → ℕ → ℕ → ℕ → Type 0) → Type 0
concrete_size says = Tells Contracts.concrete_size (λ κs a x e. says a.0 a.1.0 a.1.1.0 a.1.1.1.0 x)

abbrev pub bar_size : (Law → ℕ → ℕ → ℕ → Type 0) → Type 0
bar_size says = Tells Contracts.bar_size (λ κs a x e. says a.0 a.1.0 a.1.1.0 x)

-- ---- drawn
abbrev pub piece_at_call : (Piece → Float → Float → Type 0) → Type 0
piece_at_call says = Tells Contracts.piece_at_call (λ κs a x e. says a.0 a.1.0 x)

abbrev pub draw : (Section → ℤ → Result Point Refusal → Type 0) → Type 0
draw says = Tells Contracts.draw (λ κs a x e. says a.0 a.1.0 x)

-- ---- strips
abbrev pub strip : (Law → Axis → ℕ → ℤ → Type 0) → Type 0
strip says = Tells Contracts.strip (λ κs a x e. says a.0 a.1.0 a.1.1.0 x)

abbrev pub bounds : (Law → Axis → ℕ → ℕ → Range → Type 0) → Type 0
bounds says = Tells Contracts.bounds (λ κs a x e. says a.0 a.1.0 a.1.1.0 a.1.1.1.0 x)

-- ---- forces
abbrev pub axis_at_call : (Law → ℕ → Axis → Type 0) → Type 0
axis_at_call says = Tells Contracts.axis_at_call (λ κs a x e. says a.0 a.1.0 x)

abbrev pub bar : (Law → Axis → ℕ → ℤ → Type 0) → Type 0
bar says = Tells Contracts.bar (λ κs a x e. says a.0 a.1.0 a.1.1.0 x)

abbrev pub imbalance : (Section → ℕ → Result ℤ Refusal → Type 0) → Type 0
imbalance says = Tells Contracts.imbalance (λ κs a x e. says a.0 a.1.0 x)

abbrev pub moment : (Section → ℕ → Result ℤ Refusal → Type 0) → Type 0
moment says = Tells Contracts.moment (λ κs a x e. says a.0 a.1.0 x)

-- ---- depths: a list of words is a row, the one before the answer as it was lent, the one after it as it is left. The answer is read as what it tells
abbrev pub depths : (Section → List ℤ → ListAnswer → List ℤ → Type 0) → Type 0
depths says = Tells Contracts.depths (λ κs a x e. says a.0 a.1.0.now (told x) e.1.0.now)

abbrev pub first : (Section → FirstAnswer → Type 0) → Type 0
first says = Tells Contracts.first (λ κs a x e. says a.0 (told_first x))

abbrev pub kind_from : (Kind → ℕ → Type 0) → Type 0
kind_from says = Tells Contracts.kind_from (λ κs a x e. says a.0 x)

abbrev pub unlisted_from : (Refusal → Unlisted → Type 0) → Type 0
unlisted_from says = Tells Contracts.unlisted_from (λ κs a x e. says a.0 x)

abbrev pub refusal_from : (Unlisted → Refusal → Type 0) → Type 0
refusal_from says = Tells Contracts.refusal_from (λ κs a x e. says a.0 x)

-- ---- shear
abbrev pub shear : (Section → Result ℤ Refusal → Type 0) → Type 0
shear says = Tells Contracts.shear (λ κs a x e. says a.0 x)

-- ---- record: a list of numbers below 256 is what was lent, the bytes of a record, and of `as_slice` what is handed back
abbrev pub as_slice : (List ℕ → List ℕ → Type 0) → Type 0
as_slice says = Tells Contracts.as_slice (λ κs a x e. says a.0.now x.now)

abbrev pub byte : (List ℕ → ℕ → ℕ → Type 0) → Type 0
byte says = Tells Contracts.byte (λ κs a x e. says a.0.now a.1.0 x)

abbrev pub le32 : (List ℕ → ℕ → ℕ → Type 0) → Type 0
le32 says = Tells Contracts.le32 (λ κs a x e. says a.0.now a.1.0 x)

abbrev pub layers_at_call : (List ℕ → ℕ → ℕ → Type 0) → Type 0
layers_at_call says = Tells Contracts.layers_at_call (λ κs a x e. says a.0.now a.1.0 x)

abbrev pub size_at_call : (List ℕ → ℕ → ℕ → Type 0) → Type 0
size_at_call says = Tells Contracts.size_at_call (λ κs a x e. says a.0.now a.1.0 x)

abbrev pub section_of : (List ℕ → Result Section Refusal → Type 0) → Type 0
section_of says = Tells Contracts.section_of (λ κs a x e. says a.0.now x)

abbrev pub filed : (Section → Result (List ℕ) Refusal → Type 0) → Type 0
filed says = Tells Contracts.filed (λ κs a x e. says a.0 x)

abbrev pub record_of_call : (Section → Result (List ℕ) Refusal → Type 0) → Type 0
record_of_call says = Tells Contracts.record_of_call (λ κs a x e. says a.0 x)

-- ---- book: of `record` a list is also what is handed back
abbrev pub book : (List ℕ → Result ℕ Refusal → Type 0) → Type 0
book says = Tells Contracts.book (λ κs a x e. says a.0.now x)

abbrev pub record_place : (List ℕ → ℕ → Result Place Refusal → Type 0) → Type 0
record_place says = Tells Contracts.record_place (λ κs a x e. says a.0.now a.1.0 x)

abbrev pub record_part : (List ℕ → ℕ → List ℕ → Type 0) → Type 0
record_part says = Tells Contracts.record_part (λ κs a x e. says a.0.now a.1.0 x.now)

-- ---- writer: the list before the answer is what was lent to be written as it was, the one after it as it is left
abbrev pub write_book : (List ℕ → List ℕ → Result ℕ Refusal → List ℕ → Type 0) → Type 0
write_book says = Tells Contracts.write_book (λ κs a x e. says a.0.now a.1.0.now x e.1.0.now)

abbrev pub add_layer : (List ℕ → ℕ → ℕ → List ℕ → Result ℕ Refusal → List ℕ → Type 0) → Type 0
add_layer says = Tells Contracts.add_layer (λ κs a x e. says a.0.now a.1.0 a.1.1.0 a.1.1.1.0.now x e.1.1.1.0.now)

-- ---- class
abbrev pub letter_from : (Letter → ℕ → Type 0) → Type 0
letter_from says = Tells Contracts.letter_from (λ κs a x e. says a.0 x)

abbrev pub class : (ℕ → ℕ → Result Class Refusal → Type 0) → Type 0
class says = Tells Contracts.class (λ κs a x e. says a.0 a.1.0 x)

-- ---- strength: a list of numbers below 2 ^ 32 is the results that were lent
abbrev pub strength : (List ℕ → Result Strength Refusal → Type 0) → Type 0
strength says = Tells Contracts.strength (λ κs a x e. says a.0.now x)

-- ---- the C face: what C gets of an answer
abbrev pub book_from : (Result ℕ Refusal → BookAnswer → Type 0) → Type 0
book_from says = Tells Contracts.book_from (λ κs a x e. says a.0 x)

abbrev pub record_from : (Result Place Refusal → RecordAnswer → Type 0) → Type 0
record_from says = Tells Contracts.record_from (λ κs a x e. says a.0 x)

abbrev pub written_from : (Result ℕ Refusal → Written → Type 0) → Type 0
written_from says = Tells Contracts.written_from (λ κs a x e. says a.0 x)

abbrev pub class_from : (Result Class Refusal → ClassAnswer → Type 0) → Type 0
class_from says = Tells Contracts.class_from (λ κs a x e. says a.0 x)

abbrev pub strength_from : (Result Strength Refusal → StrengthAnswer → Type 0) → Type 0
strength_from says = Tells Contracts.strength_from (λ κs a x e. says a.0 x)

abbrev pub drawn_from : (Result Point Refusal → Drawn → Type 0) → Type 0
drawn_from says = Tells Contracts.drawn_from (λ κs a x e. says a.0 x)

abbrev pub amount_from : (Result ℤ Refusal → Amount → Type 0) → Type 0
amount_from says = Tells Contracts.amount_from (λ κs a x e. says a.0 x)

-- that of a list and of a first depth is read by its fields, as `depths` tells of its own
abbrev pub as_list : Listing → ListAnswer
as_list x = record { refusal = x.refusal; count = x.count; work = x.work }

abbrev pub as_first : FirstDepth → FirstAnswer
as_first x = record { refusal = x.refusal; depth = x.depth; kind = x.kind; work = x.work; moment = x.moment }

abbrev pub listing_from : (Result Listed.Listing Unlisted → ListAnswer → Type 0) → Type 0
listing_from says = Tells Contracts.listing_from (λ κs a x e. says a.0 (as_list x))

abbrev pub first_from : (Result Firsts.FirstDepth Unlisted → FirstAnswer → Type 0) → Type 0
first_from says = Tells Contracts.first_from (λ κs a x e. says a.0 (as_first x))

-- and its functions
abbrev pub fw_book : (List ℕ → BookAnswer → Type 0) → Type 0
fw_book says = Tells Contracts.fw_book (λ κs a x e. says a.0.now x)

abbrev pub fw_record : (List ℕ → ℕ → RecordAnswer → Type 0) → Type 0
fw_record says = Tells Contracts.fw_record (λ κs a x e. says a.0.now a.1.0 x)

abbrev pub fw_write_book : (List ℕ → List ℕ → Written → List ℕ → Type 0) → Type 0
fw_write_book says = Tells Contracts.fw_write_book (λ κs a x e. says a.0.now a.1.0.now x e.1.0.now)

abbrev pub fw_add_layer : (List ℕ → ℕ → ℕ → List ℕ → Written → List ℕ → Type 0) → Type 0
fw_add_layer says = Tells Contracts.fw_add_layer (λ κs a x e. says a.0.now a.1.0 a.1.1.0 a.1.1.1.0.now x e.1.1.1.0.now)

abbrev pub fw_class : (ℕ → ℕ → ClassAnswer → Type 0) → Type 0
fw_class says = Tells Contracts.fw_class (λ κs a x e. says a.0 a.1.0 x)

abbrev pub fw_strength : (List ℕ → StrengthAnswer → Type 0) → Type 0
fw_strength says = Tells Contracts.fw_strength (λ κs a x e. says a.0.now x)

abbrev pub fw_draw : (List ℕ → ℤ → Drawn → Type 0) → Type 0
fw_draw says = Tells Contracts.fw_draw (λ κs a x e. says a.0.now a.1.0 x)

abbrev pub fw_imbalance : (List ℕ → ℕ → Amount → Type 0) → Type 0
fw_imbalance says = Tells Contracts.fw_imbalance (λ κs a x e. says a.0.now a.1.0 x)

abbrev pub fw_moment : (List ℕ → ℕ → Amount → Type 0) → Type 0
fw_moment says = Tells Contracts.fw_moment (λ κs a x e. says a.0.now a.1.0 x)

abbrev pub fw_depths : (List ℕ → List ℤ → ListAnswer → List ℤ → Type 0) → Type 0
fw_depths says = Tells Contracts.fw_depths (λ κs a x e. says a.0.now a.1.0.now (as_list x) e.1.0.now)

abbrev pub fw_first : (List ℕ → FirstAnswer → Type 0) → Type 0
fw_first says = Tells Contracts.fw_first (λ κs a x e. says a.0.now (as_first x))

abbrev pub fw_shear : (List ℕ → Amount → Type 0) → Type 0
fw_shear says = Tells Contracts.fw_shear (λ κs a x e. says a.0.now x)
