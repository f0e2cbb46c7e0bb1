use Rattle.std.proofs.Common.{◌≡◌, ◌++◌, drop, length, map}
use Rattle.cxx_meaning.specs.Lookups.Associated.{functions_among}
use Rattle.cxx_members.specs.Sighted.{AreBelow, sighting_at}
use Rattle.cxx_found.specs.Views.{graph_of, types_of}
use Rattle.cxx_found.proofs.seeking.Seeking.functions.Given as goal

abbrev pub invariant-loop-one : goal.invariant-loop-one
invariant-loop-one l = record { rest : map (sighting_at (types_of l.self)) l.found.items ++ functions_among (graph_of l.self) (map (sighting_at (types_of l.self)) (drop l.one-index l.sightings)) ≡ functions_among (graph_of l.self) (map (sighting_at (types_of l.self)) l.sightings); kept : AreBelow (length (types_of l.self)) l.found.items; left : AreBelow (length (types_of l.self)) (drop l.one-index l.sightings) }
