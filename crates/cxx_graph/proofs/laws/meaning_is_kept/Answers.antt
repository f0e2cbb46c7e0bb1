use Rattle.cxx_graph.proofs.Fitting.{graph-kept}
use Rattle.cxx_graph.proofs.laws.meaning_is_kept.Goals as goal

pub returns : goal.returns
returns c = graph-kept
