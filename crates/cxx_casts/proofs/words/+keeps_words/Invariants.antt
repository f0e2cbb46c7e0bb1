use Rattle.cxx_casts.proofs.words.+keeps_words.Given as goal

abbrev pub decreases-keeps_words : goal.decreases-keeps_words
decreases-keeps_words l = l.one.0
