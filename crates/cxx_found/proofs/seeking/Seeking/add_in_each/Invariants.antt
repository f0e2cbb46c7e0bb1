use Rattle.std.proofs.Common.{◌≡◌, ◌++◌, drop, length, map}
use Rattle.cxx_meaning.specs.Lookups.Associated.{standing_in_each}
use Rattle.cxx_members.specs.Sighted.{AreBelow, sighting_at}
use Rattle.cxx_found.specs.Views.{cut_of, graph_of, name_of, types_of}
use Rattle.cxx_found.proofs.seeking.Seeking.add_in_each.Given as goal

abbrev pub invariant-loop-space : goal.invariant-loop-space
invariant-loop-space l = record {
  rest : map (sighting_at (types_of l.self)) l.found.items ++ standing_in_each (graph_of l.self) (cut_of l.self) (name_of l.self) (drop l.space-index l.spaces) ≡ map (sighting_at (types_of l.self)) l.fn.found.items ++ standing_in_each (graph_of l.self) (cut_of l.self) (name_of l.self) l.spaces;
  below : AreBelow (length (types_of l.self)) l.fn.found.items → AreBelow (length (types_of l.self)) l.found.items;
}
