use Rattle.std.proofs.Common.{ap, sym, ◌∙◌, option_map}
use Rattle.cxx_model.specs.Facts.Declarations.{fact_at}
use Rattle.cxx_reading.specs.Givers.{scope_in}
use Rattle.cxx_tree.proofs.Giving.{stored}
use Rattle.cxx_tree.proofs.given.scope_of.Goals as goal

pub returns-in-Some : goal.returns-in-Some
returns-in-Some c = λ types. ap (λ fact. scope_in (option_map (fact_at types) fact)) c.in-Some.ensures ∙ ap scope_in (sym (stored types c.args.graph.now.facts c.args.declaration.0))

pub returns-in-None : goal.returns-in-None
returns-in-None c = λ types. ap (λ fact. scope_in (option_map (fact_at types) fact)) c.in-None.ensures ∙ ap scope_in (sym (stored types c.args.graph.now.facts c.args.declaration.0))
