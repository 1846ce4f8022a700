-- `work_to`: at most 1,000 depths of at most 1,000 strips and 8 layers.
use Prim.Native.Nat.{◌+◌, ◌≤◌}
use mathlib.Core.Path.{refl}
use native.Mathlib.Nat.{mul-le-mul}
use native.Mathlib.Omega.{arith}
use Rattle.depths.proofs.work_to.Goals as goal

pub overflow_mul-result : goal.overflow_mul-result
overflow_mul-result c =
    let s = c.args.lawful.now.section in
    let depths : c.args.last ≤ 1000 = omega (arith, c.requires, c.args.lawful.now.accepted.sizes.1.1) in
    let each : s.h + s.count ≤ 1008 = omega (arith, c.args.lawful.now.accepted.sizes.1.1, c.args.lawful.now.accepted.bars.0.few) in
    record { fits = omega (arith, mul-le-mul depths each) }

pub returns : goal.returns
returns c = refl
