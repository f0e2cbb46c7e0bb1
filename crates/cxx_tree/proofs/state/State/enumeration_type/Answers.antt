use Rattle.cxx_model.specs.Types.Trees.{enumeration}
use Rattle.cxx_tree.proofs.Wholes.{enumeration_there, type_made_by, whole_type}
use Rattle.cxx_tree.proofs.state.State.enumeration_type.Goals as goal

pub invariant_of-self : goal.invariant_of-self
invariant_of-self c = whole_type _ _ _ _ _ _ _ c.enumeration.result _ c.self.invariant c.enumeration.ensures (enumeration_there _ _ c.args.number c.self.view_is c.requires)

pub returns : goal.returns
returns c = type_made_by _ _ _ c.enumeration.result (λ held. enumeration c.args.number.0) c.self.view_is c.self.invariant.sound c.enumeration.ensures
