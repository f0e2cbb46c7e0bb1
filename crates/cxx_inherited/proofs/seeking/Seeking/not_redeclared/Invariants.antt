use Rattle.std.proofs.Common.{◌≡◌, ◌++◌, drop, length, map, not}
use Rattle.std.specs.List.{filter}
use Rattle.cxx_meaning.specs.Lookups.Member.{is_redeclared, not_redeclared}
use Rattle.cxx_members.specs.Sighted.{AreBelow, sighting_at}
use Rattle.cxx_inherited.proofs.seeking.Seeking.not_redeclared.Given as goal

abbrev pub invariant-loop-one : goal.invariant-loop-one
invariant-loop-one l = record { rest : map (sighting_at l.self.looking.types.now) l.kept.items ++ filter (λ one. not (is_redeclared (map (sighting_at l.self.looking.types.now) l.sightings) one)) (map (sighting_at l.self.looking.types.now) (drop l.one-index l.sightings)) ≡ not_redeclared (map (sighting_at l.self.looking.types.now) l.sightings); kept : AreBelow (length l.self.looking.types.now) l.kept.items; left : AreBelow (length l.self.looking.types.now) (drop l.one-index l.sightings) }
