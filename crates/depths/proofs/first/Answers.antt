-- `first`: the three ways that the first depth is answered.
use mathlib.Core.Path.{◌≡◌, sym, ap, ◌∙◌}
use Rattle.std.proofs.lemmas.Result.{err_from_is_err_and}
use Rattle.arith.proofs.Machine.{read}
use Rattle.depths.specs.declared.Unlisted.TheVariants.{NoDepth}
use Rattle.depths.proofs.Answers.{refuses_first, first_none, first_at}
use Rattle.depths.proofs.first.Goals as goal

pub returns-in_err-of : goal.returns-in_err-of
returns-in_err-of c =
    let e = err_from_is_err_and c.from_residual.result c.from_residual.ensures.1 in
    rw (e.1, e.2) (refuses_first c.args.section _ c.in_err-of.ensures.refusal)

-- where no depth is listed, the walk looked at the whole grid,
-- and the work is the grid's
pub returns-in_err-listed : goal.returns-in_err-listed
returns-in_err-listed c =
    let l = c.in_ok-of.ensures in
    let w = c.over-walk.ensures in
    let none = c.in_err-listed.ensures.ok_part in
    let e = err_from_is_err_and c.from_residual-in_err-listed.result c.from_residual-in_err-listed.ensures.1 in
    let value = rw none at c.in_err-listed.ensures.value in
    let is : c.in_err-listed.field-0.0 ≡ NoDepth c.work_to-work.result = cc in
    let step = c.next-found.ensures.steps in
    let same = ap (λ l. l.section) w.0 ∙ l.same in
    rw (e.1, e.2, is) (first_none c.args.section (sym l.refusal) c.over-walk.result c.next-found.new.self same w.1 step c.work_to-work.ensures none)

pub returns : goal.returns
returns c =
    let l = c.in_ok-of.ensures in
    let w = c.over-walk.ensures in
    let turn = read (record { sfits = c.moment_at.type_inv }) ∙ c.moment_at.ensures in
    let next = c.next-found.ensures.steps in
    let same = ap (λ l. l.section) w.0 ∙ l.same in
    first_at c.args.section (sym l.refusal) c.over-walk.result c.next-found.new.self same w.1 next c.work_to-work.ensures
    c.in_ok-listed.ensures.ok_part turn
