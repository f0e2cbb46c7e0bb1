use Rattle.cxx_tree.proofs.Wholes.{scope_answered}
use Rattle.cxx_tree.proofs.state.State.add_scope.Goals as goal

pub returns-clause-answered : goal.returns-clause-answered
returns-clause-answered c = scope_answered _ _ _ c.args.kind c.args.place c.add.result c.self.view_is c.add.ensures.answered
