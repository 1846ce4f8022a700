-- `record`: the empty part where it is refused.
use Rattle.std.proofs.Common.{sym}
use Rattle.book.proofs.Parts.{none_found}
use Rattle.book.proofs.record.Goals as goal

pub returns-in_default : goal.returns-in_default
returns-in_default c = sym (none_found _ _ c.in_default.ensures)
