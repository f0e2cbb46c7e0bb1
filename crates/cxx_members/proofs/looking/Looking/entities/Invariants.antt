use Rattle.std.proofs.Common.{◌≡◌, [], drop, length, map}
use Rattle.cxx_meaning.specs.Lookups.Gathered.{with_facts}
use Rattle.cxx_meaning.specs.Lookups.Sightings.{named_by}
use Rattle.cxx_members.specs.Sighted.{AreBelow, sighting_at}
use Rattle.cxx_members.proofs.looking.Looking.entities.Given as goal

abbrev pub invariant-loop-one : goal.invariant-loop-one
invariant-loop-one l = record { rest : with_facts l.facts.items (map (named_by (map (sighting_at l.self.types.now) l.sightings)) (map (sighting_at l.self.types.now) (drop l.one-index l.sightings))) ≡ with_facts [] (map (named_by (map (sighting_at l.self.types.now) l.sightings)) (map (sighting_at l.self.types.now) l.sightings)); left : AreBelow (length l.self.types.now) (drop l.one-index l.sightings) }
