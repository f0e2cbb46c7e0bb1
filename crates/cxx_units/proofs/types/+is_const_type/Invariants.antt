use Rattle.cxx_units.proofs.types.+is_const_type.Given as goal

abbrev pub decreases-is_const_type : goal.decreases-is_const_type
decreases-is_const_type l = l.number.0
