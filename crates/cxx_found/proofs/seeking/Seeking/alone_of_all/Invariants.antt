use Rattle.std.proofs.Common.{◌≡◌, None, drop, length, map}
use Rattle.std.specs.Prelude.{option_map, IfSome}
use Rattle.cxx_model.specs.Facts.Fitted.{IsEntityBelow}
use Rattle.cxx_members.specs.Sighted.{AreBelow, sighting_at}
use Rattle.cxx_found.specs.Again.{alone_from}
use Rattle.cxx_found.specs.Views.{types_of}
use Rattle.cxx_found.proofs.seeking.Seeking.alone_of_all.Given as goal

abbrev pub invariant-loop-one : goal.invariant-loop-one
invariant-loop-one l = record {
  is : alone_from (option_map (sighting_at (types_of l.self)) l.only) (map (sighting_at (types_of l.self)) (drop l.one-index l.sightings)) ≡ alone_from None (map (sighting_at (types_of l.self)) l.sightings);
  below : IfSome l.only (λ one. IsEntityBelow (length (types_of l.self)) one.what);
  left : AreBelow (length (types_of l.self)) (drop l.one-index l.sightings);
}
