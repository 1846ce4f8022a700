-- `Walk::next`: one depth more is looked at in each turn (Next).
use mathlib.Core.Path.{refl, sym, ◌∙◌}
use native.Mathlib.Omega.{arith}
use Rattle.depths.proofs.Next.{walked_next, finds_one, finds_two, finds_none}
use Rattle.depths.proofs.walk.WalkIterator.next.Goals as goal

pub overflow_cast-x : goal.overflow_cast-x
overflow_cast-x c = record { fits = omega (arith, c.last_depth-looked-end.ensures, c.args.self.now.lawful.accepted.sizes.1.1) }

pub sign_at-here-requires : goal.sign_at-here-requires
sign_at-here-requires c = (omega arith, omega (arith, c.last_depth-looked-end.ensures))

pub returns-then-is_eq-clause-steps : goal.returns-then-is_eq-clause-steps
returns-then-is_eq-clause-steps c =
    let i = c.loop-looked.invariant in
    let zero = sym c.is_eq.ensures ∙ c.if-is_eq.true in
    (i.0, finds_one c.loop-looked.self i.0 i.1 i.2 c.last_depth-looked-end.ensures c.loop-looked-test.true c.sign_at-here.ensures zero)

pub returns-then-opposite-clause-steps : goal.returns-then-opposite-clause-steps
returns-then-opposite-clause-steps c =
    let i = c.loop-looked.invariant in
    let pair = sym c.opposite.ensures ∙ c.if-opposite.true in
    (i.0, finds_two c.loop-looked.self i.0 i.1 i.2 c.last_depth-looked-end.ensures c.loop-looked-test.true c.sign_at-here.ensures pair)

pub loop-looked-preserved : goal.loop-looked-preserved
loop-looked-preserved c =
    let i = c.loop-looked.invariant in
    let side = sym c.is_eq.ensures ∙ c.if-is_eq.false in
    let apart = sym c.opposite.ensures ∙ c.if-opposite.false in
    (i.0, refl, walked_next c.loop-looked.self i.0 i.1 i.2 c.last_depth-looked-end.ensures c.loop-looked-test.true c.sign_at-here.ensures side apart)

pub returns-clause-steps : goal.returns-clause-steps
returns-clause-steps c =
    let i = c.loop-looked.invariant in
    (i.0, finds_none c.loop-looked.self i.0 i.1 i.2 c.last_depth-looked-end.ensures c.loop-looked-test.false)
