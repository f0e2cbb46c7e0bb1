use Rattle.std.proofs.Common.{ap, sym, ◌∙◌}
use Rattle.std.specs.Option.{option_copied}
use Rattle.cxx_model.specs.Facts.Declarations.{declares_at, facts_at}
use Rattle.cxx_model.specs.Facts.Entities.{meant_by}
use Rattle.cxx_names.proofs.Meanings.{meant_nowhere, meant_there}
use Rattle.cxx_names.proofs.meant.meant.Goals as goal

pub returns-in-Some-clause-is : goal.returns-in-Some-clause-is
returns-in-Some-clause-is c = λ types.
    let facts = c.args.graph.now.facts in
    sym (ap (λ w. meant_by (facts_at types facts) c.args.number.0 (declares_at types w)) c.in-Using.is ∙ meant_there types facts c.args.number.0 c.in-Using.target c.in-Some.fact.now (sym c.fact_of.ensures ∙ ap option_copied c.in-Some.is))

pub returns-in-None-clause-is : goal.returns-in-None-clause-is
returns-in-None-clause-is c = λ types.
    let facts = c.args.graph.now.facts in
    sym (ap (λ w. meant_by (facts_at types facts) c.args.number.0 (declares_at types w)) c.in-Using.is ∙ meant_nowhere types facts c.args.number.0 c.in-Using.target (sym c.fact_of.ensures ∙ ap option_copied c.in-None.is))
