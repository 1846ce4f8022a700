-- `bent`: the products, by the largest that their factors can be.
use Prim.Native.Nat.{ℕ, ◌*◌, ◌-◌, ◌≤◌}
use native.Mathlib.Nat.{div-le_self}
use native.Mathlib.Omega.{arith}
use Rattle.strips.proofs.Quotients.{within}
use Rattle.strips.proofs.Closed.{bends}
use Rattle.strips.proofs.Run.bent.Goals as goal
use Rattle.strips.proofs.Run.bent.Goals.{After-odds, After-squares}

lift : {fcd unit : ℕ} → fcd ≤ 28333 → unit ≤ 50 → fcd * unit ≤ 28333 * 50
lift weak few = within 28333 50 weak few

line : (c : After-odds) → let a = c.args.self in a.law.fcd * a.axis.unit * (24 * a.axis.over) * c.odds.result ≤ 28333 * 50 * 528000 * 4000000
line c =
    let f = c.args.self.fits in
    within (28333 * 50 * 528000) 4000000 (within (28333 * 50) 528000 (lift f.fcd f.axis.unit.1) (omega (arith, f.axis.over.1))) c.odds.ensures.1

bend : (c : After-squares) → let a = c.args.self in a.law.fcd * a.axis.unit * a.axis.unit * c.squares.result ≤ 28333 * 50 * 50 * 32000000000
bend c =
    let f = c.args.self.fits in
    within (28333 * 50 * 50) 32000000000 (within (28333 * 50) 50 (lift f.fcd f.axis.unit.1) f.axis.unit.1) c.squares.ensures.1

pub overflow_mul-line-4 : goal.overflow_mul-line-4
overflow_mul-line-4 c = record { fits = omega (arith, line c) }

pub overflow_mul-bend-3 : goal.overflow_mul-bend-3
overflow_mul-bend-3 c = record { fits = omega (arith, bend c) }

pub overflow_sub-result : goal.overflow_sub-result
overflow_sub-result c = rw (c.odds.ensures.0, c.squares.ensures.0) (omega (arith, bends c.args.self.law.fcd c.args.places.in_order c.requires))

pub returns : goal.returns
returns c =
    let a = c.args.self in
    let num = a.law.fcd * a.axis.unit * (24 * a.axis.over) * c.odds.result - a.law.fcd * a.axis.unit * a.axis.unit * c.squares.result in
    (rw (c.odds.ensures.0, c.squares.ensures.0), omega (arith, line (goal.at.returns c).After-odds, div-le_self num (48 * a.axis.over * a.axis.over)))
