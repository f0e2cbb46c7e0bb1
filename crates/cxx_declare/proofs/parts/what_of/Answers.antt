use Rattle.std.specs.Option.{option_copied}
use Rattle.std.proofs.Common.{ap, sym, ◌∙◌}
use Rattle.cxx_declare.proofs.Defining.{what_is}
use Rattle.cxx_declare.proofs.parts.what_of.Goals as goal

pub returns-in-Some-clause-at : goal.returns-in-Some-clause-at
returns-in-Some-clause-at c = λ types. what_is types c.args.graph.now c.args.number.0 c.in-Some.fact.now (sym c.fact_of.ensures ∙ ap option_copied c.in-Some.is)
