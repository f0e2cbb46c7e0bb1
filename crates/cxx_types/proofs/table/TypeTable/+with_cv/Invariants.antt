use Rattle.cxx_types.proofs.table.TypeTable.+with_cv.Given as goal

abbrev pub decreases-with_cv : goal.decreases-with_cv
decreases-with_cv l = l.number.0
