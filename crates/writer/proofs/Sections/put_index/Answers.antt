-- `put_index`: one place more in each turn.
use Rattle.std.proofs.Common.{rules, refl}
use Rattle.writer.proofs.Strings.{tallied}
use Rattle.writer.proofs.Turns.{places_none, places_all, place_fits, places_next}
use Rattle.writer.proofs.Sections.put_index.Goals as goal

pub loop-part-init : goal.loop-part-init
loop-part-init c = places_none (tallied c.args.self) c.requires.room (search rules) refl

pub put_number-requires : goal.put_number-requires
put_number-requires c =
    let some = c.in-Some.ensures.steps in
    place_fits (tallied c.args.self) c.requires.room c.loop-part.invariant some.0 some.1

pub loop-part-preserved : goal.loop-part-preserved
loop-part-preserved c =
    let some = c.in-Some.ensures.steps in
    places_next (tallied c.args.self) c.requires.room c.loop-part.invariant some.0 some.1 c.put_number.ensures some.2

pub returns : goal.returns
returns c = places_all (tallied c.args.self) c.requires.room c.loop-part.invariant c.in-None.ensures.steps
