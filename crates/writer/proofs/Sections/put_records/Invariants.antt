-- `put_records`: one record more in each turn.
use Rattle.writer.proofs.Turns.{RecordsPut}
use Rattle.writer.proofs.Sections.put_records.Given as goal

abbrev pub invariant-loop-part : goal.invariant-loop-part
invariant-loop-part l = RecordsPut l.fn.self.records.now l.initial.book l.fn.self.count l.part-iterator.rest.now l.at l.book
