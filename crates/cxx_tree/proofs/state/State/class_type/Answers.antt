use Rattle.cxx_model.specs.Types.Trees.{class_type}
use Rattle.cxx_tree.proofs.Classes.{class_there}
use Rattle.cxx_tree.proofs.Wholes.{type_made_by, whole_type}
use Rattle.cxx_tree.proofs.state.State.class_type.Goals as goal

pub invariant_of-self : goal.invariant_of-self
invariant_of-self c = whole_type _ _ _ _ _ _ _ c.class.result _ c.self.invariant c.class.ensures (class_there _ _ c.args.class c.self.view_is c.requires)

pub returns-clause-made : goal.returns-clause-made
returns-clause-made c = type_made_by _ _ _ c.class.result (λ held. class_type c.args.class.0) c.self.view_is c.self.invariant.sound c.class.ensures
