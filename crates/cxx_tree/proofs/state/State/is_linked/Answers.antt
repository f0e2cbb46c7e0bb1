use Rattle.cxx_tree.proofs.Linking.{linked_is}
use Rattle.cxx_tree.proofs.state.State.is_linked.Goals as goal

pub returns : goal.returns
returns c = linked_is _ _ c.args.number _ c.self.view_is (c.has.ensures.linked _ _ c.self.invariant.links)
