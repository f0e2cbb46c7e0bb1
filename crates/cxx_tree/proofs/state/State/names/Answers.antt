use Rattle.std.proofs.Common.{subst}
use Rattle.cxx_names.specs.Clashes.{NoTemplates}
use Rattle.cxx_tree.specs.Held.{Held}
use Rattle.cxx_tree.proofs.Wholes.{no_templates}
use Rattle.cxx_tree.proofs.state.State.names.Goals as goal

pub returns-clause-templates : goal.returns-clause-templates
returns-clause-templates c = subst (λ (h : Held). NoTemplates h.graph.facts) c.self.view_is (no_templates _ c.self.invariant.plain)
