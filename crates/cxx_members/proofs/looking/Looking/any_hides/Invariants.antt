use Rattle.std.proofs.Common.{◌≡◌, drop, map}
use Rattle.std.specs.List.{list_any}
use Rattle.cxx_meaning.specs.Lookups.Sightings.{is_hidden_by}
use Rattle.cxx_members.specs.Views.{graph_of}
use Rattle.cxx_members.specs.Sighted.{sighting_at}
use Rattle.cxx_members.proofs.looking.Looking.any_hides.Given as goal

abbrev pub invariant-loop-other : goal.invariant-loop-other
invariant-loop-other l = list_any (is_hidden_by (graph_of l.self) (sighting_at l.self.types.now l.one)) (map (sighting_at l.self.types.now) (drop l.other-index l.sightings)) ≡ list_any (is_hidden_by (graph_of l.self) (sighting_at l.self.types.now l.one)) (map (sighting_at l.self.types.now) l.sightings)
