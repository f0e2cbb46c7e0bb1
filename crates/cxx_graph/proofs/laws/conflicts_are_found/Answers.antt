use Rattle.cxx_graph.proofs.Conflicting.{conflict-is-first, no-conflict}
use Rattle.cxx_graph.proofs.laws.conflicts_are_found.Goals as goal

pub returns-clause-found : goal.returns-clause-found
returns-clause-found c = conflict-is-first

pub returns-clause-none : goal.returns-clause-none
returns-clause-none c = no-conflict
