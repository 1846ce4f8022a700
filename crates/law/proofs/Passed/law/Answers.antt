-- `Passed::law`: each number by its rule.
use borrow.Author.Rules.{rules}
use Rattle.law.specs.Edition.{edition}
use Rattle.law.specs.Law.{flexural, modulus, s1_of, e1_of, law_by}
use Rattle.law.proofs.Passed.law.Goals as goal

pub returns : goal.returns
unfolding flexural modulus s1_of e1_of law_by edition
returns c = search rules
