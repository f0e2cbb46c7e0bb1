use Rattle.cxx_inherited.proofs.Linking.{nowhere_first}
use Rattle.cxx_inherited.proofs.paths.Paths.first.Goals as goal

pub returns : goal.returns
returns c = nowhere_first c.self.inside.steps.items c.args.self.now c.self.view_is
