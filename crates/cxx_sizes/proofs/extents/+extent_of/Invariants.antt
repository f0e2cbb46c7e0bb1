use Rattle.cxx_sizes.proofs.extents.+extent_of.Given as goal

abbrev pub decreases-extent_of : goal.decreases-extent_of
decreases-extent_of l = l.of.0
