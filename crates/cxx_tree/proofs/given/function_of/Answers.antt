use Rattle.std.proofs.Common.{ap, sym, ◌∙◌, option_map}
use Rattle.cxx_model.specs.Facts.Declarations.{fact_at}
use Rattle.cxx_reading.specs.Declaring.{declares_by}
use Rattle.cxx_tree.specs.Defaults.{first_declared}
use Rattle.cxx_tree.proofs.Giving.{stored}
use Rattle.cxx_tree.proofs.given.function_of.Goals as goal

pub returns : goal.returns
returns c = λ types. c.first_or.ensures types ∙ ap (λ fact. first_declared c.args.declaration.0 (declares_by fact)) (ap (option_map (fact_at types)) c.fact_of.ensures ∙ sym (stored types c.args.graph.now.facts c.args.declaration.0))
