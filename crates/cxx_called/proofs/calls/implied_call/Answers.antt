use Rattle.cxx_called.proofs.calls.implied_call.Goals as goal

pub implied_question-requires-clause-of : goal.implied_question-requires-clause-of
implied_question-requires-clause-of g c = c.implied_type-of.ensures.below _ c.requires.class c.requires.object
