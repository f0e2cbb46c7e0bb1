use Rattle.cxx_overload.specs.Choosers.{told_by}
use Rattle.cxx_tree.proofs.Told.{told_added}
use Rattle.cxx_tree.proofs.asked.Calls.add.Goals as goal

pub invariant_of-self-2 : goal.invariant_of-self-2
invariant_of-self-2 c = told_added _ _ c.args.call (told_by c.args.chooser) c.push.new.self c.self.view_is c.requires c.in_ok-push.ensures.ok
