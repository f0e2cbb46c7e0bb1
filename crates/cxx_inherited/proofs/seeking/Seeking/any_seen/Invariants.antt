use Rattle.std.proofs.Common.{◌≡◌, drop}
use Rattle.std.specs.List.{list_any}
use Rattle.cxx_inherited.specs.Rows.{is_sighted}
use Rattle.cxx_inherited.specs.Views.{graph_of, wanted_of}
use Rattle.cxx_inherited.proofs.seeking.Seeking.any_seen.Given as goal

abbrev pub invariant-loop-number : goal.invariant-loop-number
invariant-loop-number l = list_any (is_sighted (graph_of l.self) (wanted_of l.self)) (drop l.number-index l.numbers) ≡ list_any (is_sighted (graph_of l.self) (wanted_of l.self)) l.numbers
