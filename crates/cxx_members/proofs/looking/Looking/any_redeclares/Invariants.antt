use Rattle.std.proofs.Common.{◌≡◌, drop, length, map}
use Rattle.std.specs.List.{list_any}
use Rattle.cxx_meaning.specs.Lookups.Member.{is_redeclared_by}
use Rattle.cxx_members.specs.Sighted.{AreBelow, sighting_at}
use Rattle.cxx_members.proofs.looking.Looking.any_redeclares.Given as goal

abbrev pub invariant-loop-two : goal.invariant-loop-two
invariant-loop-two l = record { rest : list_any (is_redeclared_by (sighting_at l.self.types.now l.one)) (map (sighting_at l.self.types.now) (drop l.two-index l.sightings)) ≡ list_any (is_redeclared_by (sighting_at l.self.types.now l.one)) (map (sighting_at l.self.types.now) l.sightings); left : AreBelow (length l.self.types.now) (drop l.two-index l.sightings) }
