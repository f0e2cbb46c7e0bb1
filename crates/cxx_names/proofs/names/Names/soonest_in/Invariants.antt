use Rattle.std.proofs.Common.{◌≡◌, drop, option_map}
use Rattle.cxx_model.specs.Facts.Declarations.{fact_at, graph_at, spelled}
use Rattle.cxx_names.specs.Clashes.{conflict_in_scopes, number_in}
use Rattle.cxx_names.proofs.names.Names.soonest_in.Given as goal

abbrev pub invariant-loop-scope : goal.invariant-loop-scope
invariant-loop-scope l = conflict_in_scopes (graph_at l.types l.graph) (fact_at l.types l.new) (spelled l.word) (drop l.scope-index l.scopes) (option_map number_in l.best) ≡ conflict_in_scopes (graph_at l.types l.graph) (fact_at l.types l.new) (spelled l.word) l.scopes (option_map number_in l.fn.best)
