use Rattle.std.proofs.Common.{◌≡◌, ◌++◌, drop, length, map}
use Rattle.cxx_model.specs.Facts.Declarations.{facts_at, name_at}
use Rattle.cxx_meaning.specs.Lookups.Gathered.{gathered}
use Rattle.cxx_meaning.specs.Lookups.Sightings.{sighting_in, standing}
use Rattle.cxx_members.specs.Views.{graph_of, wanted_at}
use Rattle.cxx_members.specs.Sighted.{AreBelow, sighting_at}
use Rattle.cxx_members.proofs.looking.Looking.add_standing.Given as goal

abbrev pub invariant-loop-number : goal.invariant-loop-number
invariant-loop-number g l = record {
  rest : map (sighting_at l.self.types.now) l.found.items ++ gathered (sighting_in (graph_of l.self) l.cut (wanted_at l.sought.wanted) (name_at l.self.types.now l.sought.name.now) l.fn.scope) l.number (facts_at l.self.types.now (drop l.number l.self.graph.now.facts)) ≡ map (sighting_at l.self.types.now) l.fn.found.items ++ standing (graph_of l.self) l.cut (wanted_at l.sought.wanted) (name_at l.self.types.now l.sought.name.now) l.fn.scope;
  below : AreBelow (length l.self.types.now) l.fn.found.items → AreBelow (length l.self.types.now) l.found.items;
}
