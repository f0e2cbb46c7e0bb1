use Rattle.std.proofs.Common.{◌≡◌, drop, map}
use Rattle.cxx_members.specs.Sighted.{sighting_at}
use Rattle.cxx_meaning.specs.Lookups.Member.{has_nonstatic}
use Rattle.cxx_inherited.proofs.seeking.Seeking.has_nonstatic.Given as goal

abbrev pub invariant-loop-one : goal.invariant-loop-one
invariant-loop-one l = has_nonstatic (map (sighting_at l.self.looking.types.now) (drop l.one-index l.sightings)) ≡ has_nonstatic (map (sighting_at l.self.looking.types.now) l.sightings)
