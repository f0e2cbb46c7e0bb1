use Rattle.cxx_called.proofs.bases.shared.Goals as goal

pub within-requires-2-clause-from : goal.within-requires-2-clause-from
within-requires-2-clause-from c = c.or_own.ensures.below _ c.requires.of c.requires.class
