-- The text of a line: that of its numbers, as the machine holds them.
use Rattle.std.proofs.Common.{◌≡◌, pos, rules}
use Rattle.std.proofs.Output.{has_written_of_eq}
use mathlib.Core.List.{append_assoc}
use mir.Syntax.{w64}
use mir.Val.{SFits}
use mir.Facts.{to_z-of_z}
use Rattle.std.specs.Result.{result_unwrap_or}
use Rattle.booklines.specs.Line.{no_bending}
use Rattle.booklines.proofs.LineDisplay.fmt.Goals as goal

pub returns-clause-writes : goal.returns-clause-writes
returns-clause-writes g c plain ok =
    let l = c.args.self.now in
    let b = c.unwrap_or_default-count.result in
    let a = c.unwrap_or_default-amount.result in
    let bent : b ≡ result_unwrap_or l.bending no_bending = search rules in
    let amount : a ≡ result_unwrap_or l.shear (pos 0) = search rules in
    let depth : SFits w64 b.depth = search rules in
    let kind : SFits w64 b.kind = search rules in
    let moment : SFits w64 b.moment = search rules in
    let fits : SFits w64 a = search rules in
    has_written_of_eq _ _ _ _ _
    (simp (append_assoc, c.number_of.ensures, c.number_of-2.ensures, ← bent, ← amount, to_z-of_z))
    (c.write.ensures.writes plain ok)
