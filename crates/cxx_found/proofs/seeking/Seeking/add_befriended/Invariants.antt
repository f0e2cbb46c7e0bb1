use Rattle.std.proofs.Common.{◌≡◌, ◌++◌, drop, length, map}
use Rattle.cxx_members.specs.Sighted.{AreBelow, sighting_at}
use Rattle.cxx_found.specs.Associated.{befriended_in}
use Rattle.cxx_found.specs.Views.{graph_of, name_of, types_of}
use Rattle.cxx_found.proofs.seeking.Seeking.add_befriended.Given as goal

abbrev pub invariant-loop-target : goal.invariant-loop-target
invariant-loop-target l = record {
  rest : map (sighting_at (types_of l.self)) l.found.items ++ befriended_in (graph_of l.self) (name_of l.self) (drop l.target-index l.targets) ≡ map (sighting_at (types_of l.self)) l.fn.found.items ++ befriended_in (graph_of l.self) (name_of l.self) l.targets;
  below : AreBelow (length (types_of l.self)) l.fn.found.items → AreBelow (length (types_of l.self)) l.found.items;
}
