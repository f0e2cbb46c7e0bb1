use Rattle.cxx_units.proofs.types.+is_made_of_class.Given as goal

abbrev pub decreases-is_made_of_class : goal.decreases-is_made_of_class
decreases-is_made_of_class l = l.number.0
