use Rattle.cxx_library_tests.proofs.champion.counter.Given as goal

abbrev pub ghosts-counter_by : goal.ghosts-counter_by
ghosts-counter_by a = record { name = a.blank.name; parts = a.blank.parts }
