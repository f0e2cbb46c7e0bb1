use Rattle.std.proofs.Common.{◌≡◌, [], drop}
use Rattle.cxx_inherited.specs.Rows.{rows_after}
use Rattle.cxx_inherited.specs.Views.{graph_of, name_of}
use Rattle.cxx_inherited.proofs.seeking.Seeking.rows.Given as goal

abbrev pub invariant-loop-scope : goal.invariant-loop-scope
invariant-loop-scope l = rows_after (graph_of l.self) (name_of l.self) l.numbers.items (drop l.scope-index l.scopes) ≡ rows_after (graph_of l.self) (name_of l.self) [] l.scopes
