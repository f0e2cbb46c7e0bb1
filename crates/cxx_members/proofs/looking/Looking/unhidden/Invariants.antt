use Rattle.std.proofs.Common.{◌≡◌, ◌++◌, drop, length, map, not}
use Rattle.std.specs.List.{filter}
use Rattle.cxx_meaning.specs.Lookups.Sightings.{is_hidden_among, unhidden}
use Rattle.cxx_members.specs.Views.{graph_of}
use Rattle.cxx_members.specs.Sighted.{AreBelow, sighting_at}
use Rattle.cxx_members.proofs.looking.Looking.unhidden.Given as goal

abbrev pub invariant-loop-one : goal.invariant-loop-one
invariant-loop-one l = record { rest : map (sighting_at l.self.types.now) l.kept.items ++ filter (λ one. not (is_hidden_among (graph_of l.self) (map (sighting_at l.self.types.now) l.sightings) one)) (map (sighting_at l.self.types.now) (drop l.one-index l.sightings)) ≡ unhidden (graph_of l.self) (map (sighting_at l.self.types.now) l.sightings); kept : AreBelow (length l.self.types.now) l.kept.items; left : AreBelow (length l.self.types.now) (drop l.one-index l.sightings) }
