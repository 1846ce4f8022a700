-- `draw`: the piece at the strain.
use mathlib.Core.Path.{sym, ap, ◌∙◌, subst}
use Rattle.arith.specs.Floats.{whole}
use Rattle.arith.proofs.Machine.{read32}
use Rattle.refusal.proofs.Answers.{answers}
use Rattle.section.specs.Accepted.{Accepted}
use Rattle.law.specs.Law.{law_of}
use Rattle.law.proofs.Ranges.{law_in}
use Rattle.law.proofs.Sizes.{law_small}
use Rattle.drawn.specs.Drawn.{in_drawn_range, drawn_refusal}
use Rattle.drawn.proofs.Exact.{drawn_exactly}
use Rattle.drawn.proofs.draw.Goals as goal

pub returns : goal.returns
unfolding drawn_refusal
returns c =
    let of = c.in_ok-of.of in
    let s = c.args.section in
    let e = read32 c.ranges.strain in
    let law = of.is ∙ ap law_of c.in_ok-of.ensures.same in
    let accepted = subst Accepted c.in_ok-of.ensures.same of.accepted in
    let drawn = sym (ap in_drawn_range e) ∙ sym c.drawable.ensures ∙ c.if-not-drawable.false in
    let stress = c.at.ensures ∙ rw (c.piece_at.ensures, law, e) (drawn_exactly (law_of s) (law_in accepted).lines (law_small accepted) c.args.strain) in
    answers (rw (sym c.in_ok-of.ensures.refusal, drawn)) (λ i. record { strain = whole (e i); stress = stress i })
