-- `put_records`: one record more in each turn, where it stands in the string.
use Rattle.std.proofs.Common.{◌∙◌, rules}
use Rattle.writer.proofs.Strings.{tallied}
use Rattle.writer.proofs.Turns.{passes_next, records_none, records_all, record_fits, records_next}
use Rattle.writer.proofs.Sections.put_records.Goals as goal

pub loop-part-init : goal.loop-part-init
loop-part-init c = records_none (tallied c.args.self) c.requires (search rules)

pub rewritten-requires : goal.rewritten-requires
rewritten-requires c =
    let some = c.in-Some.ensures.steps in
    passes_next (tallied c.args.self) c.loop-part.invariant.after some.0 some.1

pub put-requires : goal.put-requires
put-requires c =
    let some = c.in-Some.ensures.steps in
    record_fits (tallied c.args.self) c.requires c.loop-part.invariant some.0 some.1 (c.as_slice.ensures ∙ c.rewritten.ensures)

pub loop-part-preserved : goal.loop-part-preserved
loop-part-preserved c =
    let some = c.in-Some.ensures.steps in
    let filed_is = c.as_slice.ensures ∙ c.rewritten.ensures in
    records_next (tallied c.args.self) c.requires c.loop-part.invariant some.0 some.1 filed_is c.put.ensures some.2

pub returns : goal.returns
returns c = records_all (tallied c.args.self) c.requires c.loop-part.invariant c.in-None.ensures.steps
