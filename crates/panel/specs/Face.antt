-- What each function of the C face answers: of a record that is handed over as bytes 6 first, then what is answered of its section.
use Rattle.std.specs.Prelude.{ℕ, List, ℤ, pos, length}
use Rattle.arith.specs.Answers.{unless_refused}
use Rattle.section.specs.declared.Layer.{Layer}
use Rattle.section.specs.declared.Section.{Section}
use Rattle.law.specs.Law.{law_of}
use Rattle.drawn.specs.Drawn.{drawn_refusal, point_at}
use Rattle.forces.specs.Answers.{grid_refusal}
use Rattle.forces.specs.Forces.{imbalance, moment}
use Rattle.depths.specs.Answers.{unlisted, no_first, list_answer, row_after, first_answer}
use Rattle.shear.specs.Shear.{shear_refusal, resistance}
use Rattle.record.specs.Record.{of_record}
use Rattle.book.specs.Book.{book_refusal, count_of, asked_refusal, place_in}
use Rattle.writer.specs.Written.{book_in, write_refusal, added_refusal, added_size}
use Rattle.class.specs.Class.{class_refusal, class_of}
use Rattle.strength.specs.Strength.{strength_refusal, strength_of}
use Rattle.panel.specs.declared.answers.Amount.{Amount}
use Rattle.panel.specs.declared.answers.BookAnswer.{BookAnswer}
use Rattle.panel.specs.declared.answers.ClassAnswer.{ClassAnswer}
use Rattle.panel.specs.declared.answers.Drawn.{Drawn}
use Rattle.panel.specs.declared.answers.FirstDepth.{FirstDepth}
use Rattle.panel.specs.declared.answers.Listing.{Listing}
use Rattle.panel.specs.declared.answers.RecordAnswer.{RecordAnswer}
use Rattle.panel.specs.declared.answers.StrengthAnswer.{StrengthAnswer}
use Rattle.panel.specs.declared.answers.Written.{Written}
use Rattle.panel.specs.Answers.{counted, no_book, found, no_record, written, unwritten, classed, no_class, measured, no_strength, drawn, no_drawn, answered, no_amount, listing, first_depth}

-- ---- books and records of them
unfoldable pub book_answer : List ℕ → BookAnswer
book_answer s = unless_refused (book_refusal s) (counted (count_of s)) no_book

unfoldable pub record_answer : List ℕ → ℕ → RecordAnswer
record_answer s i = unless_refused (asked_refusal s i) (found (place_in s i)) no_record

-- out of a string of records, into so many lent bytes
unfoldable pub write_answer : List ℕ → ℕ → Written
write_answer r room = unless_refused (write_refusal r room) (written (length (book_in r))) unwritten

-- a record with a layer added, into so many
unfoldable pub add_answer : List ℕ → Layer → ℕ → Written
add_answer r l room = unless_refused (added_refusal r l room) (written (added_size r)) unwritten

-- ---- the lab's
unfoldable pub class_answer : ℕ → ℕ → ClassAnswer
class_answer fr1 fr3 = unless_refused (class_refusal fr1 fr3) (classed (class_of fr1 fr3)) no_class

unfoldable pub strength_answer : List ℕ → StrengthAnswer
strength_answer rs = unless_refused (strength_refusal rs) (measured (strength_of rs)) no_strength

-- ---- a record's section
abbrev pub drawn_answer : Section → ℤ → Drawn
drawn_answer s e = unless_refused (drawn_refusal s e) (drawn (point_at (law_of s) e)) no_drawn

unfoldable pub drawn_of : List ℕ → ℤ → Drawn
drawn_of r e = of_record r (λ s. drawn_answer s e) no_drawn

-- of an amount at a depth
abbrev pub amount_answer : Section → ℕ → ℤ → Amount
amount_answer s x amount = unless_refused (grid_refusal s x) (answered amount) no_amount

unfoldable pub imbalance_of : List ℕ → ℕ → Amount
imbalance_of r x = of_record r (λ s. amount_answer s x (imbalance s x)) no_amount

unfoldable pub moment_of : List ℕ → ℕ → Amount
moment_of r x = of_record r (λ s. amount_answer s x (moment s x)) no_amount

unfoldable pub list_of : List ℕ → ℕ → Listing
list_of r room = of_record r (λ s. listing (list_answer s room)) (λ number. listing (unlisted number))

-- the row afterwards
unfoldable pub row_of : List ℕ → List ℤ → List ℤ
row_of r row = of_record r (λ s. row_after s row) (λ number. row)

unfoldable pub first_depth_of : List ℕ → FirstDepth
first_depth_of r = of_record r (λ s. first_depth (first_answer s)) (λ number. first_depth (no_first number))

abbrev pub shear_answer : Section → Amount
shear_answer s = unless_refused (shear_refusal s) (answered (pos (resistance s))) no_amount

unfoldable pub shear_of : List ℕ → Amount
shear_of r = of_record r shear_answer no_amount
