use Rattle.std.proofs.Common.{◌≡◌, ◌++◌, drop, length, map}
use Rattle.cxx_meaning.specs.Lookups.Ordinary.{standing_shown}
use Rattle.cxx_members.specs.Sighted.{AreBelow, sighting_at}
use Rattle.cxx_found.specs.Views.{cut_of, graph_of, name_of, shown_of, types_of, wanted_of}
use Rattle.cxx_found.proofs.seeking.Seeking.add_shown_standing.Given as goal

abbrev pub invariant-loop-one : goal.invariant-loop-one
invariant-loop-one l = record {
  rest : map (sighting_at (types_of l.self)) l.found.items ++ standing_shown (graph_of l.self) (cut_of l.self) (wanted_of l.self) (name_of l.self) l.scope (map shown_of (drop l.one-index l.shown)) ≡ map (sighting_at (types_of l.self)) l.fn.found.items ++ standing_shown (graph_of l.self) (cut_of l.self) (wanted_of l.self) (name_of l.self) l.scope (map shown_of l.shown);
  below : AreBelow (length (types_of l.self)) l.fn.found.items → AreBelow (length (types_of l.self)) l.found.items;
}
