-- Document 01, 'Figures to meet': the numbers that the book program prints of a record, zeros where refused.
use Rattle.std.specs.Prelude.{ℕ, zero, suc, ◌-◌, cond, List, [], ◌∷◌, ℤ, pos, map, length}
use Rattle.std.specs.Int.Signed.{lt_z}
use Rattle.std.specs.Fmt.{signed_decimal}
use Rattle.std.specs.List.{join_with_byte}
use Rattle.std.specs.Result.{result_unwrap_or}
use Rattle.refusal.specs.Refusal.{number_of, Answers}
use Rattle.arith.specs.Lines.{first_of}
use Rattle.depths.specs.Depths.{Entry, entry_of, listed}
use Rattle.depths.specs.Answers.{depths_refusal}
use Rattle.shear.specs.Shear.{shear_refusal, resistance}
use Rattle.record.specs.Record.{record_refusal, section_in}
use Rattle.booklines.specs.declared.Bending.{Bending}
use Rattle.booklines.specs.declared.Line.{Line}

-- the least of f 0 .. f n
abbrev pub lesser : ℤ → ℤ → ℤ
lesser a b = cond (lt_z b a) b a

unfoldable pub least_to : (ℕ → ℤ) → ℕ → ℤ
least_to f zero = f 0
least_to f (suc n) = lesser (least_to f n) (f (suc n))

-- ---- the list of a record's section: its count, its first depth with its kind, the least moment listed
abbrev pub least_moment : List Entry → ℤ
least_moment es = least_to (λ j. (entry_of es j).moment) (length es - 1)

abbrev pub bending_in : List Entry → Bending
bending_in es = record {
  count = length es;
  depth = pos (entry_of es 0).depth;
  kind = pos (entry_of es 0).kind;
  moment = least_moment es;
}

-- ---- a record's line, without its number: 6 as both refusals; then 7 to 13 with 20, and 14 of the bending, 16 of the shear. The program's
-- row holds every list, so there is no 15
abbrev pub bending_refusal : List ℕ → ℕ
bending_refusal r = first_of (record_refusal r) (depths_refusal (section_in r))

abbrev pub sheared_refusal : List ℕ → ℕ
sheared_refusal r = first_of (record_refusal r) (shear_refusal (section_in r))

pub record LineOf (r : List ℕ) (l : Line) : Type 0 where
  pub bending : Answers (bending_refusal r) (bending_in (listed (section_in r))) l.bending
  pub shear : Answers (sheared_refusal r) (pos (resistance (section_in r))) l.shear

-- ---- as it is printed: each number in decimals, zeros where refused, a space between
abbrev pub no_bending : Bending
no_bending = record { count = 0; depth = pos 0; kind = pos 0; moment = pos 0 }

abbrev pub line_numbers : Line → List ℤ
line_numbers l =
    let b = result_unwrap_or l.bending no_bending in
    pos (number_of l.bending) ∷ pos b.count ∷ b.depth ∷ b.kind ∷ b.moment ∷ pos (number_of l.shear) ∷ result_unwrap_or l.shear (pos 0) ∷ []

abbrev pub line_text : Line → List ℕ
line_text l = join_with_byte 32 (map signed_decimal (line_numbers l))
