-- `slanted`: the products, by the largest that their factors can be.
use Prim.Native.Nat.{ℕ, ◌+◌, ◌*◌, ◌-◌, ◌≤◌}
use native.Mathlib.Nat.{div-le_self}
use native.Mathlib.Omega.{arith}
use Rattle.strips.proofs.Quotients.{within}
use Rattle.strips.proofs.Closed.{slopes}
use Rattle.strips.proofs.Run.slanted.Goals as goal
use Rattle.strips.proofs.Run.slanted.Goals.{After-count}

record Sizes (ea sa eb sb strain length : ℕ) : Type 0 where
  sa-far : sa * (eb * length) ≤ 10000 * (25000 * 44000000)
  sb-near : sb * (ea * length) ≤ 10000 * (25000 * 44000000)
  sa-strain : sa * strain ≤ 10000 * 100000000000
  sb-strain : sb * strain ≤ 10000 * 100000000000

at : (c : After-count)
    → let a = c.args.self.axis in
    let r = c.args.ramp in
    Sizes r.ea r.sa r.eb r.sb (500 * a.unit * c.odds.result) (a.over * c.count.result)
at c =
    let f = c.args.self.fits.axis in
    let r = c.args.ramp in
    let strain : 500 * c.args.self.axis.unit * c.odds.result ≤ 25000 * 4000000 = within 25000 4000000 (omega (arith, f.unit.1)) c.odds.ensures.1 in
    let length : c.args.self.axis.over * c.count.result ≤ 22000 * 2000 = within 22000 2000 f.over.1 (omega (arith, c.count.ensures, c.args.places.few)) in
    record {
      sa-far = within 10000 _ r.stresses.0 (within 25000 _ r.ends.1 length);
      sb-near = within 10000 _ r.stresses.1 (within 25000 _ (omega (arith, r.ends)) length);
      sa-strain = within 10000 _ r.stresses.0 strain;
      sb-strain = within 10000 _ r.stresses.1 strain;
    }

pub overflow_mul-result-2 : goal.overflow_mul-result-2
overflow_mul-result-2 c = record { fits = omega (arith, at c) }

pub overflow_add-result : goal.overflow_add-result
overflow_add-result c = record { fits = omega (arith, at c) }

pub overflow_mul-result-6 : goal.overflow_mul-result-6
overflow_mul-result-6 c = record { fits = omega (arith, at c) }

pub overflow_add-result-2 : goal.overflow_add-result-2
overflow_add-result-2 c = record { fits = omega (arith, at c) }

pub overflow_sub-result : goal.overflow_sub-result
overflow_sub-result c = let r = c.args.ramp in rw (c.odds.ensures.0, c.count.ensures) (omega (arith, slopes r.sa r.sb c.args.places.in_order c.requires))

pub returns : goal.returns
returns c =
    let a = c.args.self.axis in
    let r = c.args.ramp in
    let length = a.over * c.count.result in
    let strain = 500 * a.unit * c.odds.result in
    let num = r.sa * (r.eb * length) + r.sb * strain - (r.sa * strain + r.sb * (r.ea * length)) in
    (rw (c.odds.ensures.0, c.count.ensures), omega (arith, at c, div-le_self num ((r.eb - r.ea) * a.over)))
