use Rattle.std.proofs.Common.{◌≡◌, drop, length, map}
use Rattle.cxx_meaning.specs.Lookups.Sightings.{least_of}
use Rattle.cxx_members.specs.Sighted.{AreBelow, meaning_at, sighting_at}
use Rattle.cxx_members.proofs.looking.Looking.least_of.Given as goal

abbrev pub invariant-loop-one : goal.invariant-loop-one
invariant-loop-one l = record { rest : least_of (meaning_at l.self.types.now l.entity) l.least (map (sighting_at l.self.types.now) (drop l.one-index l.sightings)) ≡ least_of (meaning_at l.self.types.now l.entity) l.fn.least (map (sighting_at l.self.types.now) l.sightings); left : AreBelow (length l.self.types.now) (drop l.one-index l.sightings) }
