use Rattle.cxx_types.proofs.table.TypeTable.+strip_cv.Given as goal

abbrev pub decreases-strip_cv : goal.decreases-strip_cv
decreases-strip_cv l = l.number.0
