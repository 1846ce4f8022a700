-- `put_index`: one place more in each turn.
use Rattle.writer.proofs.Turns.{PlacesPut}
use Rattle.writer.proofs.Sections.put_index.Given as goal

abbrev pub invariant-loop-part : goal.invariant-loop-part
invariant-loop-part l =
    PlacesPut l.fn.self.records.now l.initial.book l.fn.self.count l.part-iterator.rest.now l.at l.place l.book
