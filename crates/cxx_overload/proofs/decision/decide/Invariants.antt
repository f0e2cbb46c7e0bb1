use Rattle.cxx_overload.proofs.decision.decide.Given as goal

abbrev pub ghosts-decide_by : goal.ghosts-decide_by
ghosts-decide_by a = record { name = a.blank.name; parts = a.blank.parts }
