use Rattle.std.specs.Option.{option_copied}
use Rattle.std.proofs.Common.{ap, sym, ◌∙◌}
use Rattle.cxx_declare.proofs.Befriending.{brought_none, brought_some}
use Rattle.cxx_declare.proofs.friends.is_brought.Goals as goal

pub returns-in-Some : goal.returns-in-Some
returns-in-Some c = λ types. brought_some types c.args.graph.now.facts c.args.number.0 c.args.by.0 c.in-Some.fact.now c.brings.result (sym c.fact_of.ensures ∙ ap option_copied c.in-Some.is) (c.brings.ensures types)

pub returns-in-None : goal.returns-in-None
returns-in-None c = λ types. brought_none types c.args.graph.now.facts c.args.number.0 c.args.by.0 (sym c.fact_of.ensures ∙ ap option_copied c.in-None.is)
