use Rattle.std.specs.Option.{option_copied}
use Rattle.std.proofs.Common.{ap, sym, ◌∙◌}
use Rattle.std.proofs.lemmas.Option.{slice_get_within}
use Rattle.cxx_declare.proofs.Befriending.{declared_none, declared_some}
use Rattle.cxx_declare.proofs.friends.is_there.Goals as goal

pub returns-in-Some-clause-is : goal.returns-in-Some-clause-is
returns-in-Some-clause-is c = λ types. declared_some types c.args.graph.now.facts c.args.number.0 _ (sym c.fact_of.ensures ∙ ap option_copied c.in-Some.is)

pub returns-in-Some-clause-there : goal.returns-in-Some-clause-there
returns-in-Some-clause-there c = λ e. slice_get_within c.args.graph.now.facts c.args.number.0 _ (sym c.fact_of.ensures ∙ ap option_copied c.in-Some.is)

pub returns-in-None-clause-is : goal.returns-in-None-clause-is
returns-in-None-clause-is c = λ types. declared_none types c.args.graph.now.facts c.args.number.0 (sym c.fact_of.ensures ∙ ap option_copied c.in-None.is)
