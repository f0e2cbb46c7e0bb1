use Rattle.std.proofs.Common.{◌≡◌, ◌++◌, drop, length, map}
use Rattle.cxx_members.specs.Sighted.{AreBelow, sighting_at}
use Rattle.cxx_found.specs.Associated.{friends_in}
use Rattle.cxx_found.specs.Views.{graph_of, name_of, types_of}
use Rattle.cxx_found.proofs.seeking.Seeking.add_friends.Given as goal

abbrev pub invariant-loop-class : goal.invariant-loop-class
invariant-loop-class l = record {
  rest : map (sighting_at (types_of l.self)) l.found.items ++ friends_in (graph_of l.self) (name_of l.self) l.self.looking.graph.now.facts (drop l.class-index l.classes) ≡ map (sighting_at (types_of l.self)) l.fn.found.items ++ friends_in (graph_of l.self) (name_of l.self) l.self.looking.graph.now.facts l.classes;
  below : AreBelow (length (types_of l.self)) l.fn.found.items → AreBelow (length (types_of l.self)) l.found.items;
}
