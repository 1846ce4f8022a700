-- `a`: one past the largest, where something is to be reached.
use Rattle.std.proofs.Common.{arith, length}
use native.Mathlib.Nat.{pos_of_ne-zero}
use Rattle.strength.proofs.Formula.{a_past, reach_most}
use Rattle.strength.proofs.Refused.{t10_most}
use Rattle.strength.proofs.series.Series.a.Goals as goal

pub returns : goal.returns
returns c =
    let series = c.args.self.now in
    let n = length series.results.now in
    let few = reach_most c.args.s series.t10 c.requires (omega (arith, series.table, t10_most n)) in
    let root = rw c.count.ensures at c.root.ensures in
    let past = a_past n c.args.s series.t10 series.right.some series.table c.root.result (pos_of_ne-zero c.if-reach-eq0.false) few.1 root in
    (past.0, omega (arith, past.1))
