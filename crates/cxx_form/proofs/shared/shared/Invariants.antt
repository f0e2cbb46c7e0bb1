use Rattle.cxx_form.specs.Sharing.{AreMarked, AreSharedBefore}
use Rattle.cxx_form.specs.Views.{facts_in}
use Rattle.cxx_form.proofs.shared.shared.Given as goal

abbrev pub invariant-loop-number : goal.invariant-loop-number
invariant-loop-number l = AreSharedBefore (facts_in l.state) l.number l.firsts.items × AreMarked (facts_in l.state) l.number l.rows.rows.entries
