use Rattle.cxx_units.proofs.types.+is_unbounded.Given as goal

abbrev pub decreases-is_unbounded : goal.decreases-is_unbounded
decreases-is_unbounded l = l.number.0
