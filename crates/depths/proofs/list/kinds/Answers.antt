-- `kinds`: from one listed depth to the next (Kept).
use mathlib.Core.Path.{◌∙◌, ap, subst}
use native.Mathlib.Omega.{arith}
use lib.ListN.{length-set, length-replicate}
use Rattle.std.specs.Prelude.{map}
use Rattle.depths.specs.declared.list.Mark.{Mark}
use Rattle.depths.specs.declared.list.Mark.TheVariants.{Unlisted}
use Rattle.depths.specs.Code.{Next, marked}
use Rattle.depths.specs.Walk.{open_at}
use Rattle.depths.proofs.Kept.{no_mark_yet, mark_next, kept_all}
use Rattle.depths.proofs.list.kinds.Goals as goal

pub loop-listed-init : goal.loop-listed-init
loop-listed-init c =
    let walk = c.over-listed-items.ensures in
    rw (c.into_iter-listed-iterator.ensures.into_iter_gives, c.no_kinds-kinds.ensures, walk.1)
    (tt, tt, length-replicate {A = Mark} 1000 Unlisted, ap (λ l. l.section) walk.0, omega arith, no_mark_yet _ 1000)

pub bounds-kinds-listed : goal.bounds-kinds-listed
bounds-kinds-listed c =
    let w = c.loop-listed.listed-iterator in
    omega (arith, c.in-Some.ensures.steps.1.inside, w.lawful.accepted.sizes.1.1)

pub loop-listed-preserved : goal.loop-listed-preserved
loop-listed-preserved c =
    let i = c.loop-listed.invariant in
    let step = c.in-Some.ensures.steps in
    let next = subst (λ s. Next s (open_at c.loop-listed.listed-iterator) c.in-Some.listed c.next.new.self.looked c.next.new.self.sign) i.3 step.1 in (
      tt,
      tt,
      length-set c.loop-listed.kinds _ _ ∙ i.2,
      step.0 ∙ i.3,
      omega (arith, next.on_from),
      mark_next c.loop-listed.kinds _ i.5 next _ (omega (arith, i.4, next.on))
          (omega (arith, i.2, next.inside, c.args.lawful.now.accepted.sizes.1.1)) _ c.of.ensures,
    )

pub returns : goal.returns
returns c =
    let i = c.loop-listed.invariant in
    kept_all c.loop-listed.listed-iterator i.3 (map marked c.loop-listed.kinds) i.5 c.in-None.ensures.steps.1.1
