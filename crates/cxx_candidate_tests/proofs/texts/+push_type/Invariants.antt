use Rattle.cxx_candidate_tests.proofs.texts.+push_type.Given as goal

abbrev pub decreases-push_type : goal.decreases-push_type
decreases-push_type l = l.of.0
