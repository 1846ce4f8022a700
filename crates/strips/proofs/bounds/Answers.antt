-- `bounds`: two closed sums, apart, and what rounding can have taken (Within).
use mathlib.Core.Path.{◌∙◌}
use native.Mathlib.Omega.{arith}
use Rattle.arith.proofs.Machine.{stored}
use Rattle.strips.specs.Bounds.{sides, closed_bounds}
use Rattle.strips.proofs.Within.{steps, is_unknown, is_closed}
use Rattle.strips.proofs.bounds.Goals as goal

pub returns-in_default : goal.returns-in_default
returns-in_default c = is_unknown _ _ _ _ c.in_default.ensures

pub returns : goal.returns
returns c =
    let p = c.pressed-push.ensures in
    let q = c.pulled-pull.ensures in
    let k = c.in-Some.ensures in
    let s = steps _ _ (p.1, p.2) (q.1, q.2) in
    (λ j. record { low = (stored s.low (omega arith)).is j; high = (stored s.high (omega arith)).is j })
    ∙ (λ j. sides (p.0 j) (q.0 j))
    ∙ (λ j. closed_bounds (k.1 j) (k.2 j) (k.3 j) (k.4 j))
    ∙ is_closed _ _ _ _ k.0
