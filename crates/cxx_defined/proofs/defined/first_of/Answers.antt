use Rattle.std.proofs.Common.{ap, sym, subst, ◌∙◌}
use Rattle.cxx_model.specs.Facts.Entities.{of_fact}
use Rattle.cxx_defined.specs.Defined.{IsOwn}
use Rattle.cxx_defined.proofs.Owning.{first_entity}
use Rattle.cxx_defined.proofs.defined.first_of.Goals as goal

pub returns-in-Some : goal.returns-in-Some
returns-in-Some c = λ types. first_entity types c.args.graph.now.facts c.args.number c.in-Some.fact.now (sym c.in-Some.ensures) (subst IsOwn (sym c.in-Some.ensures) c.requires.own) c.requires.other ∙ ap (λ f. of_fact f.0) (sym c.first_or.ensures)

pub returns-in-None : goal.returns-in-None
returns-in-None c = λ types. absurd (subst IsOwn (sym c.in-None.ensures) c.requires.own)
