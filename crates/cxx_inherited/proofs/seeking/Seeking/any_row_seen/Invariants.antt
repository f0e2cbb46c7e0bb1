use Rattle.std.proofs.Common.{◌≡◌, drop}
use Rattle.std.specs.List.{list_any}
use Rattle.cxx_inherited.specs.Rows.{is_sighted, row_of}
use Rattle.cxx_inherited.specs.Views.{graph_of, name_of, wanted_of}
use Rattle.cxx_inherited.proofs.seeking.Seeking.any_row_seen.Given as goal

abbrev pub invariant-loop-scope : goal.invariant-loop-scope
invariant-loop-scope l = list_any (λ scope. list_any (is_sighted (graph_of l.self) (wanted_of l.self)) (row_of (graph_of l.self) (name_of l.self) scope)) (drop l.scope-index l.scopes) ≡ list_any (λ scope. list_any (is_sighted (graph_of l.self) (wanted_of l.self)) (row_of (graph_of l.self) (name_of l.self) scope)) l.scopes
