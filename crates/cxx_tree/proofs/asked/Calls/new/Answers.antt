use Rattle.cxx_overload.specs.Choosers.{told_by}
use Rattle.cxx_tree.proofs.Told.{told_new}
use Rattle.cxx_tree.proofs.asked.Calls.new.Goals as goal

pub invariant_of-result : goal.invariant_of-result
invariant_of-result c = told_new (told_by c.args.chooser) c.new.result c.tells-tells.result c.requires c.new.ensures c.tells-tells.ensures
