use Rattle.cxx_form.proofs.mark.+end_of.Given as goal

abbrev pub decreases-end_of : goal.decreases-end_of
decreases-end_of l = l.number.0
