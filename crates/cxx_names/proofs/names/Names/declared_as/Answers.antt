use Rattle.std.proofs.Common.{◌∙◌}
use Rattle.cxx_model.specs.Facts.Declarations.{spelled}
use Rattle.cxx_names.proofs.Looking.{declared_looked, declared_numbers, numbered_is}
use Rattle.cxx_names.proofs.names.Names.declared_as.Goals as goal

pub returns-clause-numbers : goal.returns-clause-numbers
returns-clause-numbers c = λ types. declared_numbers types c.args.graph.now c.args.scope.0 (spelled c.args.word.now) c.row_of.result.now (c.row_of.ensures ∙ c.requires.noted.words c.args.scope c.args.word.now types)

pub returns-clause-facts : goal.returns-clause-facts
returns-clause-facts c = λ types. declared_looked types c.args.graph.now c.args.scope.0 (spelled c.args.word.now) c.row_of.result.now (c.row_of.ensures ∙ c.requires.noted.words c.args.scope c.args.word.now types)

pub returns-clause-numbered : goal.returns-clause-numbered
returns-clause-numbered c = λ types. numbered_is types c.args.graph.now c.row_of.result.now ∙ declared_looked types c.args.graph.now c.args.scope.0 (spelled c.args.word.now) c.row_of.result.now (c.row_of.ensures ∙ c.requires.noted.words c.args.scope c.args.word.now types)
