use Rattle.std.proofs.Common.{◌≡◌, drop, length, map}
use Rattle.std.specs.List.{list_any}
use Rattle.cxx_meaning.specs.Lookups.Member.{is_redeclared_by}
use Rattle.cxx_members.specs.Sighted.{AreBelow, sighting_at}
use Rattle.cxx_inherited.proofs.declared.any_redeclares.Given as goal

abbrev pub invariant-loop-two : goal.invariant-loop-two
invariant-loop-two l = record { rest : list_any (is_redeclared_by (sighting_at l.types l.one)) (map (sighting_at l.types) (drop l.two-index l.sightings)) ≡ list_any (is_redeclared_by (sighting_at l.types l.one)) (map (sighting_at l.types) l.sightings); left : AreBelow (length l.types) (drop l.two-index l.sightings) }
