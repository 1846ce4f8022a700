-- `depths`: the four ways that the list is answered.
use mathlib.Core.Path.{sym, ◌∙◌}
use Rattle.std.proofs.lemmas.Result.{err_from_is_err_and}
use Rattle.depths.proofs.Answers.{refuses_list, lists_none, lists_short, lists}
use Rattle.depths.proofs.depths.Goals as goal

-- a refused section is answered by its number alone,
-- and the row stays as it was
pub returns-in_err-lawful : goal.returns-in_err-lawful
returns-in_err-lawful c =
    let e = err_from_is_err_and c.from_residual.result c.from_residual.ensures.1 in
    rw (e.1, e.2) (refuses_list c.args.section c.args.row.now _ c.in_err-lawful.ensures.refusal)

pub returns-then-count-eq0 : goal.returns-then-count-eq0
returns-then-count-eq0 c =
    let l = c.in_ok-lawful.ensures in
    let count = rw l.same at c.count-count.ensures.0 in
    let took = rw (l.same, c.last_depth.ensures) at c.work_to-work.ensures in
    lists_none c.args.section c.args.row.now (sym l.refusal) count took c.if-count-eq0.true

pub returns-then-row-count : goal.returns-then-row-count
returns-then-row-count c =
    let l = c.in_ok-lawful.ensures in
    let count = rw l.same at c.count-count.ensures.0 in
    let took = rw (l.same, c.last_depth.ensures) at c.work_to-work.ensures in
    lists_short c.args.section c.args.row.now (sym l.refusal) count took c.if-count-eq0.false c.if-row-count.true

pub returns : goal.returns
returns c =
    let l = c.in_ok-lawful.ensures in
    let count = rw l.same at c.count-count.ensures.0 in
    let took = rw (l.same, c.last_depth.ensures) at c.work_to-work.ensures in
    let w = lists c.args.section c.args.row.now (sym l.refusal) count took c.if-count-eq0.false c.if-row-count.false in
    (w.0, rw l.same at c.write.ensures ∙ w.1)
