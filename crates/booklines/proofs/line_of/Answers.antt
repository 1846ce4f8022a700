-- `line_of`: the record's refusal as both, or what is answered of its section.
use Prim.Native.Nat.{ℕ}
use mathlib.Core.Path.{◌≡◌}
use borrow.Author.Rules.{rules}
use lib.IntN.{pos}
use Rattle.std.specs.Prelude.{Result, Ok, Err, MatchResult}
use Rattle.refusal.specs.declared.Refusal.{Refusal}
use Rattle.refusal.specs.Refusal.{Answers}
use Rattle.arith.specs.Lines.{first_of}
use Rattle.arith.proofs.Answers.{handed_on}
use Rattle.section.specs.declared.Section.{Section}
use Rattle.depths.specs.Depths.{listed}
use Rattle.depths.specs.Answers.{depths_refusal}
use Rattle.shear.specs.Shear.{shear_refusal, resistance}
use Rattle.booklines.specs.Line.{bending_in}
use Rattle.booklines.proofs.line_of.Goals as goal

-- the refusal of the section, or else what is answered of it
then :
    {X : Type 0} (m : Section → ℕ) (y : Section → X) {n : ℕ} {x : Section} {s : Result Section Refusal} (r : Result X Refusal)
    → Answers n x s → MatchResult s (λ v. Answers (m v) (y v) r) (λ e. r ≡ Err e) → Answers (first_of n (m x)) (y x) r
then m y {n} {x} {s = Ok v} r a h = rw (← a.number, ← a.value) h
then m y {n} {x} {s = Err e} r a h = rw h (handed_on n (m x) (y x) a.number)

pub returns : goal.returns
returns c = record {
  bending = then depths_refusal (λ s. bending_in (listed s)) _ c.section_of-section.ensures (search rules);
  shear = then shear_refusal (λ s. pos (resistance s)) _ c.section_of-section.ensures (search rules);
}
