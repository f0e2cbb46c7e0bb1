use Rattle.std.specs.Option.{option_copied}
use Rattle.cxx_tree.proofs.Told.{told_here}
use Rattle.cxx_tree.proofs.state.State.asked.Goals as goal

pub returns : goal.returns
returns c = told_here _ _ (option_copied c.asked.result) c.self.view_is c.asked.ensures
