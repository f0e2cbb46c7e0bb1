use Rattle.std.proofs.Common.{◌≡◌, drop}
use Rattle.cxx_found.specs.Rows.{has_one, sighted_in}
use Rattle.cxx_found.specs.Views.{graph_of, wanted_of}
use Rattle.cxx_found.proofs.seeking.Seeking.has_seen.Given as goal

abbrev pub invariant-loop-number : goal.invariant-loop-number
invariant-loop-number l = has_one (sighted_in (graph_of l.self) (wanted_of l.self) (drop l.number-index l.numbers)) ≡ has_one (sighted_in (graph_of l.self) (wanted_of l.self) l.numbers)
