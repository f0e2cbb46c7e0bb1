use Rattle.cxx_tree.specs.Held.{trees}
use Rattle.cxx_form.proofs.InTrees.{one_added}
use Rattle.cxx_form.proofs.found.add.Goals as goal

pub returns : goal.returns
returns c = one_added (trees c.args.state.now) c.args.number c.args.found.now.items c.push.new.self.items c.in_ok-push.ensures.items c.requires
