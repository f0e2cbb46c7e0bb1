use Rattle.cxx_tree.proofs.Keeping.{offers_below}
use Rattle.cxx_tree.proofs.state.State.offers.Goals as goal

pub returns-clause-below : goal.returns-clause-below
returns-clause-below c = offers_below _ _ c.as_slice.result.now c.self.view_is c.self.invariant.sound c.as_slice.ensures
