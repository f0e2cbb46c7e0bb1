use Rattle.cxx_called.proofs.facts.in_full.Goals as goal

pub returns-then-has_no_bound-clause-below : goal.returns-then-has_no_bound-clause-below
returns-then-has_no_bound-clause-below c = c.type_known.ensures.below _ c.requires.of c.known_in-known.ensures.below
