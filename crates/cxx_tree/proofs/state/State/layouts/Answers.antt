use Rattle.cxx_tree.proofs.Wholes.{measured_here}
use Rattle.cxx_tree.proofs.state.State.layouts.Goals as goal

pub returns : goal.returns
returns c = measured_here _ _ _ c.as_ref.result c.self.view_is c.self.invariant.remembered c.as_ref.ensures.value
