use Rattle.cxx_graph.proofs.GraphRange.{appended-in-range, may-follow}
use Rattle.cxx_graph.proofs.laws.appending.Goals as goal

pub returns-clause-keeps : goal.returns-clause-keeps
returns-clause-keeps c = appended-in-range

pub returns-clause-only : goal.returns-clause-only
returns-clause-only c = may-follow
