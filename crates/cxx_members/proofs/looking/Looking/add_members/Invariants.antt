use Rattle.std.proofs.Common.{◌≡◌, ◌++◌, drop, length, map}
use Rattle.cxx_model.specs.Facts.Declarations.{facts_at, name_at}
use Rattle.cxx_meaning.specs.Lookups.Gathered.{gathered}
use Rattle.cxx_meaning.specs.Lookups.Member.{member_in, members_in}
use Rattle.cxx_members.specs.Views.{graph_of, wanted_at}
use Rattle.cxx_members.specs.Sighted.{AreBelow, sighting_at}
use Rattle.cxx_members.proofs.looking.Looking.add_members.Given as goal

abbrev pub invariant-loop-number : goal.invariant-loop-number
invariant-loop-number g l = record {
  rest : map (sighting_at l.self.types.now) l.found.items ++ gathered (member_in (graph_of l.self) (wanted_at l.sought.wanted) (name_at l.self.types.now l.sought.name.now) l.fn.class) l.number (facts_at l.self.types.now (drop l.number l.self.graph.now.facts)) ≡ map (sighting_at l.self.types.now) l.fn.found.items ++ members_in (graph_of l.self) (wanted_at l.sought.wanted) (name_at l.self.types.now l.sought.name.now) l.fn.class;
  below : AreBelow (length l.self.types.now) l.fn.found.items → AreBelow (length l.self.types.now) l.found.items;
}
