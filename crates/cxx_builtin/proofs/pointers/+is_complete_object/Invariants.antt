use Rattle.cxx_builtin.proofs.pointers.+is_complete_object.Given as goal

abbrev pub decreases-is_complete_object : goal.decreases-is_complete_object
decreases-is_complete_object l = l.number.0
