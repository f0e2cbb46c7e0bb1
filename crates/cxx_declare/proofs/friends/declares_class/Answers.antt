use Rattle.std.specs.Option.{option_copied}
use Rattle.std.proofs.Common.{ap, sym, ◌∙◌}
use Rattle.std.proofs.lemmas.Option.{slice_get_within}
use Rattle.cxx_declare.proofs.Befriending.{class_none, class_some}
use Rattle.cxx_declare.proofs.friends.declares_class.Goals as goal

pub returns-in-Some-clause-is : goal.returns-in-Some-clause-is
returns-in-Some-clause-is c = λ types. class_some types c.args.graph.now.facts c.args.number.0 c.in-Some.fact.now c.is_class.result (sym c.fact_of.ensures ∙ ap option_copied c.in-Some.is) (c.is_class.ensures types)

pub returns-in-Some-clause-there : goal.returns-in-Some-clause-there
returns-in-Some-clause-there c = λ e. slice_get_within c.args.graph.now.facts c.args.number.0 c.in-Some.fact.now (sym c.fact_of.ensures ∙ ap option_copied c.in-Some.is)

pub returns-in-None-clause-is : goal.returns-in-None-clause-is
returns-in-None-clause-is c = λ types. class_none types c.args.graph.now.facts c.args.number.0 (sym c.fact_of.ensures ∙ ap option_copied c.in-None.is)
