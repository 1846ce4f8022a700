-- `Lawful::of`: a section that passes is accepted.
use mathlib.Core.Path.{sym}
use Rattle.section.proofs.Accepted.{accepted}
use Rattle.law.proofs.Lawful.of.Goals as goal

pub invariant_of-law : goal.invariant_of-law
invariant_of-law c = record { accepted = accepted _ (sym c.in_ok-check.ensures) }
