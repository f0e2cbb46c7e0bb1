use Rattle.cxx_tree.proofs.Classes.{class_answered, whole_class}
use Rattle.cxx_tree.proofs.state.State.reserve_class.Goals as goal

pub invariant_of-self : goal.invariant_of-self
invariant_of-self c = whole_class _ _ _ _ _ _ _ c.one_class.result c.self.invariant c.one_class.ensures.grown c.one_class.ensures.unchanged

pub returns-clause-answered : goal.returns-clause-answered
returns-clause-answered c = class_answered _ _ _ c.one_class.result _ c.self.view_is c.stopped_class.ensures c.one_class.ensures.number c.one_class.ensures.grown c.one_class.ensures.unchanged c.one_class.ensures.limit
