use Rattle.cxx_tree.proofs.Keeping.{pieces_below}
use Rattle.cxx_tree.proofs.state.State.pieces.Goals as goal

pub returns-clause-below : goal.returns-clause-below
returns-clause-below c = pieces_below _ _ c.as_slice.result.now c.self.view_is c.self.invariant.sound c.as_slice.ensures
