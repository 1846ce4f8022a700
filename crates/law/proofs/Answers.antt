-- What `Lawful::of` answers is one value: a section with its law is told by the section. Assumes nothing.
use mathlib.Core.Path.{◌≡◌, refl, sym, ap, ◌∙◌}
use mathlib.Core.HLevel.{is_prop→PathP}
use Rattle.std.proofs.Props.{props}
use Rattle.std.specs.Prelude.{Result, Ok, Err, IfOk}
use Rattle.refusal.specs.declared.Refusal.{Refusal}
use Rattle.refusal.specs.Refusal.{number_of}
use Rattle.refusal.proofs.Answers.{number_own, one_answer}
use Rattle.section.specs.declared.Section.{Section}
use Rattle.section.specs.Accepted.{Accepted}
use Rattle.section.specs.Refusal.{section_refusal}
use Rattle.law.specs.declared.Lawful.{Lawful}
use Rattle.law.specs.Law.{law_of}

one_lawful : (x y : Lawful) → x.section ≡ y.section → x ≡ y
one_lawful x y e =
    let l : x.law ≡ y.law = x.is ∙ ap law_of e ∙ sym y.is in
    λ i. record {
      section = e i;
      law = l i;
      accepted = is_prop→PathP (λ j. Accepted (e j)) (λ j. hlevel props) x.accepted y.accepted i;
      is = is_prop→PathP (λ j. l j ≡ law_of (e j)) (λ j. hlevel props) x.is y.is i;
    }

-- so what it answers is `Answers` of one value, and there is one answer
pub one_lawful_answer :
    (s : Section) {r q : Result Lawful Refusal}
    → (number_of r ≡ section_refusal s) → IfOk r (λ x. x.section ≡ s)
    → (number_of q ≡ section_refusal s) → IfOk q (λ x. x.section ≡ s)
    → r ≡ q
one_lawful_answer s {r = Ok x} {q} h is k same = one_answer (record { number = h; value = refl }) (record { number = k; value = weaker q same })
  where
    weaker : (q : Result Lawful Refusal) → IfOk q (λ y. y.section ≡ s) → IfOk q (λ y. y ≡ x)
    weaker (Ok y) e = one_lawful y x (e ∙ sym is)
    weaker (Err e) u = tt
one_lawful_answer s {r = Err e} {q = Ok y} h is k same = sym (one_answer (record { number = k; value = refl }) (record { number = h; value = tt }))
one_lawful_answer s {r = Err e} {q = Err f} h is k same = ap (λ v. Err v) (number_own e f (h ∙ sym k))
