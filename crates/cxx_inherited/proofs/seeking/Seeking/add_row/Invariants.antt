use Rattle.std.proofs.Common.{◌≡◌, ◌++◌, drop, length, map}
use Rattle.cxx_members.specs.Sighted.{AreBelow, sighting_at}
use Rattle.cxx_inherited.specs.Rows.{sighted_in}
use Rattle.cxx_inherited.specs.Views.{graph_of, types_of, wanted_of}
use Rattle.cxx_inherited.proofs.seeking.Seeking.add_row.Given as goal

abbrev pub invariant-loop-number : goal.invariant-loop-number
invariant-loop-number l = record {
  rest : map (sighting_at (types_of l.self)) l.found.items ++ sighted_in (graph_of l.self) (wanted_of l.self) (drop l.number-index l.numbers) ≡ map (sighting_at (types_of l.self)) l.fn.found.items ++ sighted_in (graph_of l.self) (wanted_of l.self) l.numbers;
  below : AreBelow (length (types_of l.self)) l.fn.found.items → AreBelow (length (types_of l.self)) l.found.items;
}
