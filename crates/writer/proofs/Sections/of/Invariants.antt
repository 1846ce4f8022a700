-- `of`: one record more in each turn, none of them refused.
use Rattle.writer.proofs.Walk.{Passed}
use Rattle.writer.proofs.Sections.of.Given as goal

abbrev pub invariant-loop-part : goal.invariant-loop-part
invariant-loop-part l = Passed l.records l.count l.part-iterator.rest.now
