-- `moment_at`: of an accepted section, at a depth on the grid, nothing is refused.
use mathlib.Core.Path.{◌≡◌, refl, ◌∙◌}
use Rattle.arith.proofs.Machine.{read}
use Rattle.refusal.proofs.Answers.{answered}
use Rattle.forces.specs.Forces.{moment}
use Rattle.forces.proofs.Answers.{none_refused}
use Rattle.depths.proofs.list.moment_at.Goals as goal

pub unwrap-requires : goal.unwrap-requires
unwrap-requires c = rw (answered c.moment.ensures (none_refused c.args.lawful.now.accepted c.requires.0 c.requires.1)) refl

pub returns : goal.returns
returns c =
    let there = answered c.moment.ensures (none_refused c.args.lawful.now.accepted c.requires.0 c.requires.1) in
    let is : c.unwrap.result ≡ moment c.args.lawful.now.section c.args.x = cc (there, c.unwrap.ensures) in
    read (record { sfits = c.unwrap.type_inv }) ∙ is
