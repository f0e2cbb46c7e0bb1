use Rattle.cxx_tree.proofs.Wholes.{enumeration_set}
use Rattle.cxx_tree.proofs.state.State.set_enumeration.Goals as goal

pub returns-clause-is : goal.returns-clause-is
returns-clause-is c = enumeration_set _ _ c.args.number c.self.view_is
