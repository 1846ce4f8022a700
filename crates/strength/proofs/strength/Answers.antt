-- `strength`: 23, or the numbers, found one by the other.
use Rattle.std.proofs.Common.{rules, ◌≡◌, ◌+◌, ◌<◌, sym}
use Rattle.refusal.proofs.Answers.{answers, refuses}
use Rattle.strength.proofs.Answers.{Found, refused_late, answered_by}
use Rattle.strength.proofs.strength.Goals as goal
use Rattle.strength.proofs.strength.Goals.{After-g_of}

found : (c : After-g_of) → Found c.args.results.now c.mean-mean.result c.deviation-deviation.result c.a-a.result c.g_of.result
found c =
    rw (← c.in_ok-series.ensures.same) (record {
      mean = c.mean-mean.ensures.0;
      deviation = c.deviation-deviation.ensures.0;
      first = c.a-a.ensures.0;
      second = c.g_of.ensures.0;
    })

pub returns-in_err-value : goal.returns-in_err-value
returns-in_err-value c =
    let below : c.mean-mean.result < c.a-a.result + c.g_of.result = search rules in
    let is = refused_late _ (sym c.in_ok-series.ensures.refusal) (found (goal.at.returns-in_err-value c).After-g_of) below in
    search (rules, refuses)

pub returns : goal.returns
returns c =
    let whole : c.in_ok-value.value + (c.a-a.result + c.g_of.result) ≡ c.mean-mean.result = search rules in
    let is = answered_by _ (sym c.in_ok-series.ensures.refusal) (found (goal.at.returns c).After-g_of) c.in_ok-value.value whole in
    answers is.0 is.1
