-- Document 01, 'What is refused, tested in this order': the number of each line, where 19 to 23 are of document 02.
-- And an answer that may be refused.
use Rattle.std.specs.Prelude.{ℕ, ◌≡◌, Result, Ok, Err, IfOk}
use Rattle.refusal.specs.declared.Refusal.{Refusal}
use Rattle.refusal.specs.declared.Refusal.TheVariants.{
  BookLength,
  BookLetters,
  BookIndex,
  BookRecords,
  RecordNumber,
  LoneRecord,
  Concrete,
  Sizes,
  BarStrength,
  Fibres,
  Load,
  Bars,
  Stirrups,
  NoDepth,
  RowLength,
  NoBars,
  Class,
  OffRange,
  Room,
  Flange,
  ResultCount,
  ResultRange,
  BelowZero,
}

abbrev pub number : Refusal → ℕ
number BookLength = 1
number BookLetters = 2
number BookIndex = 3
number BookRecords = 4
number RecordNumber = 5
number LoneRecord = 6
number Concrete = 7
number Sizes = 8
number BarStrength = 9
number Fibres = 10
number Load = 11
number Bars = 12
number Stirrups = 13
number NoDepth = 14
number RowLength = 15
number NoBars = 16
number Class = 17
number OffRange = 18
number Room = 19
number Flange = 20
number ResultCount = 21
number ResultRange = 22
number BelowZero = 23

-- the number that is refused by, or 0
abbrev pub number_of : {X : Type 0} → Result X Refusal → ℕ
number_of (Ok x) = 0
number_of (Err e) = number e

-- r answers x where n is 0; else it refuses, by the number n
pub record Answers {X : Type 0} (n : ℕ) (x : X) (r : Result X Refusal) : Type 0 where
  pub number : number_of r ≡ n
  pub value : IfOk r (λ y. y ≡ x)
