-- `of`: one record more in each turn, or the first that is refused.
use Rattle.std.proofs.Common.{◌≡◌, ◌∙◌, arith, rules, sym}
use Rattle.refusal.specs.Refusal.{number, number_of}
use Rattle.writer.proofs.Walk.{passed_first, counts, refused_next, passed_next}
use Rattle.writer.proofs.Sections.of.Goals as goal

pub loop-part-init : goal.loop-part-init
loop-part-init c = passed_first (search rules)

pub returns-in_err-check-clause-number : goal.returns-in_err-check-clause-number
returns-in_err-check-clause-number c =
    let some = c.in-Some.ensures.steps in
    let e = c.in_err-check.field-0.0 in
    let handed : number_of c.from_residual.result ≡ number e = search rules in
    handed ∙ sym (refused_next c.loop-part.invariant some.0 some.1 e c.in_err-check.ensures)

pub overflow_add-count : goal.overflow_add-count
overflow_add-count c =
    let some = c.in-Some.ensures.steps in
    record { fits = omega (arith, counts c.loop-part.invariant some.0 some.1) }

pub loop-part-preserved : goal.loop-part-preserved
loop-part-preserved c =
    let some = c.in-Some.ensures.steps in
    passed_next c.loop-part.invariant some.0 some.1 (sym c.in_ok-check.ensures) some.2
