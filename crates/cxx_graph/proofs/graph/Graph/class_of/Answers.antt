use Rattle.std.proofs.Common.{◌∙◌}
use Rattle.cxx_graph.proofs.Classes.{answer-found, answer-missing, answer-only}
use Rattle.cxx_graph.proofs.graph.Graph.class_of.Goals as goal

pub returns-clause-found : goal.returns-clause-found
returns-clause-found c = answer-found _ _ _ _ _ c.self.invariant.stored c.args.self.now c.self.view_is c.args.of.now c.copied.result (c.copied.ensures ∙ c.get.ensures.value)

pub returns-clause-only : goal.returns-clause-only
returns-clause-only c = answer-only _ _ _ _ _ c.self.invariant.stored c.args.self.now c.self.view_is c.args.of.now c.copied.result (c.copied.ensures ∙ c.get.ensures.value)

pub returns-clause-missing : goal.returns-clause-missing
returns-clause-missing c = answer-missing _ _ _ _ _ c.self.invariant.stored c.args.self.now c.self.view_is c.args.of.now c.copied.result (c.copied.ensures ∙ c.get.ensures.value)
