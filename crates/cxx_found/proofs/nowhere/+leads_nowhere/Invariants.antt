use Rattle.cxx_found.proofs.nowhere.+leads_nowhere.Given as goal

abbrev pub decreases-leads_nowhere : goal.decreases-leads_nowhere
decreases-leads_nowhere l = l.of.0
