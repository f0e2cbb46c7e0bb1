use Rattle.cxx_tree.proofs.Keeping.{fallbacks_below}
use Rattle.cxx_tree.proofs.state.State.fallbacks.Goals as goal

pub returns-clause-below : goal.returns-clause-below
returns-clause-below c = fallbacks_below _ _ c.as_slice.result.now c.self.view_is c.self.invariant.sound c.as_slice.ensures
