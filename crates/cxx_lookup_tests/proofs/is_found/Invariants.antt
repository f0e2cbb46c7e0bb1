use Rattle.cxx_lookup_tests.proofs.is_found.Given as goal

abbrev pub ghosts-check : goal.ghosts-check
ghosts-check a = record { name = a.blank.name; parts = a.blank.parts }
