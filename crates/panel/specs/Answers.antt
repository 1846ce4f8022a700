-- What C gets of each answer: its numbers beside 0, or the number of a refusal beside zeros.
use Rattle.std.specs.Prelude.{ℕ, ℤ, pos, Result}
use Rattle.arith.specs.Answers.{shape}
use Rattle.arith.specs.Floats.{whole}
use Rattle.refusal.specs.declared.Refusal.{Refusal}
use Rattle.drawn.specs.declared.Point.{Point}
use Rattle.depths.specs.declared.Listing as Depths
use Rattle.depths.specs.declared.FirstDepth as First
use Rattle.depths.specs.declared.Unlisted.{Unlisted}
use Rattle.depths.specs.Answers.{ListAnswer, FirstAnswer, told, told_first}
use Rattle.book.specs.declared.Place.{Place}
use Rattle.class.specs.declared.answer.Class.{Class}
use Rattle.class.specs.Class.{ascii}
use Rattle.strength.specs.declared.answer.Strength.{Strength}
use Rattle.panel.specs.declared.answers.Amount.{Amount}
use Rattle.panel.specs.declared.answers.BookAnswer.{BookAnswer}
use Rattle.panel.specs.declared.answers.ClassAnswer.{ClassAnswer}
use Rattle.panel.specs.declared.answers.Drawn.{Drawn}
use Rattle.panel.specs.declared.answers.FirstDepth.{FirstDepth}
use Rattle.panel.specs.declared.answers.Listing.{Listing}
use Rattle.panel.specs.declared.answers.RecordAnswer.{RecordAnswer}
use Rattle.panel.specs.declared.answers.StrengthAnswer.{StrengthAnswer}
use Rattle.panel.specs.declared.answers.Written.{Written}

-- ---- a book's number of records, and a record's place in it
abbrev pub counted : ℕ → BookAnswer
counted count = record { refusal = 0; count = count }

abbrev pub no_book : ℕ → BookAnswer
no_book number = record { refusal = number; count = 0 }

abbrev pub book_from : Result ℕ Refusal → BookAnswer
book_from = shape counted no_book

abbrev pub found : Place → RecordAnswer
found place = record { refusal = 0; at = place.at; len = place.len }

abbrev pub no_record : ℕ → RecordAnswer
no_record number = record { refusal = number; at = 0; len = 0 }

abbrev pub record_from : Result Place Refusal → RecordAnswer
record_from = shape found no_record

-- ---- the length of what was written
abbrev pub written : ℕ → Written
written len = record { refusal = 0; len = len }

abbrev pub unwritten : ℕ → Written
unwritten number = record { refusal = number; len = 0 }

abbrev pub written_from : Result ℕ Refusal → Written
written_from = shape written unwritten

-- ---- a class, its letter as its byte
abbrev pub classed : Class → ClassAnswer
classed class = record { refusal = 0; step = class.step; letter = ascii class.letter }

abbrev pub no_class : ℕ → ClassAnswer
no_class number = record { refusal = number; step = 0; letter = 0 }

abbrev pub class_from : Result Class Refusal → ClassAnswer
class_from = shape classed no_class

-- ---- a strength
abbrev pub measured : Strength → StrengthAnswer
measured s = record { refusal = 0; mean = s.mean; deviation = s.deviation; value = s.value }

abbrev pub no_strength : ℕ → StrengthAnswer
no_strength number = record { refusal = number; mean = 0; deviation = 0; value = 0 }

abbrev pub strength_from : Result Strength Refusal → StrengthAnswer
strength_from = shape measured no_strength

-- ---- a drawn point, and plus zeros
abbrev pub drawn : Point → Drawn
drawn point = record { refusal = 0; point = point }

abbrev pub no_point : Point
no_point = record { strain = whole (pos 0); stress = whole (pos 0) }

abbrev pub no_drawn : ℕ → Drawn
no_drawn number = record { refusal = number; point = no_point }

abbrev pub drawn_from : Result Point Refusal → Drawn
drawn_from = shape drawn no_drawn

-- ---- a force or a moment
abbrev pub answered : ℤ → Amount
answered amount = record { refusal = 0; amount = amount }

abbrev pub no_amount : ℕ → Amount
no_amount number = record { refusal = number; amount = pos 0 }

abbrev pub amount_from : Result ℤ Refusal → Amount
amount_from = shape answered no_amount

-- ---- a list of depths and a first depth, with what stands beside 14 and 15
abbrev pub listing : ListAnswer → Listing
listing a = record { refusal = a.refusal; count = a.count; work = a.work }

abbrev pub listing_from : Result Depths.Listing Unlisted → Listing
listing_from r = listing (told r)

abbrev pub first_depth : FirstAnswer → FirstDepth
first_depth a = record { refusal = a.refusal; depth = a.depth; kind = a.kind; work = a.work; moment = a.moment }

abbrev pub first_from : Result First.FirstDepth Unlisted → FirstDepth
first_from r = first_depth (told_first r)
