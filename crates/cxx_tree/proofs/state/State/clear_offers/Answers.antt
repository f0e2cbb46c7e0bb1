use Rattle.cxx_tree.proofs.Keeping.{offers_cleared}
use Rattle.cxx_tree.proofs.state.State.clear_offers.Goals as goal

pub returns-clause-is : goal.returns-clause-is
returns-clause-is c = offers_cleared _ _ _ c.self.view_is c.new.ensures
