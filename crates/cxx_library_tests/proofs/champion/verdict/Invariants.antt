use Rattle.cxx_library_tests.proofs.champion.verdict.Given as goal

abbrev pub ghosts-verdict_by : goal.ghosts-verdict_by
ghosts-verdict_by a = record { name = a.blank.name; parts = a.blank.parts }
