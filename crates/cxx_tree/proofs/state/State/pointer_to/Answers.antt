use Rattle.cxx_tree.proofs.Wholes.{whole_type}
use Rattle.cxx_model.specs.Types.Trees.{pointer_to}
use Rattle.cxx_model.specs.Types.Numbers.{type_at}
use Rattle.cxx_tree.proofs.Steps.{type_made, type_range, within}
use Rattle.cxx_tree.proofs.state.State.pointer_to.Goals as goal

pub pointer_to-requires : goal.pointer_to-requires
pointer_to-requires c = within _ _ c.args.of.0 c.self.view_is c.requires

pub invariant_of-self : goal.invariant_of-self
invariant_of-self c = whole_type _ _ _ _ _ _ _ c.pointer_to.result _ c.self.invariant c.pointer_to.ensures (type_range _ c.args.of.0 c.self.invariant.sound (within _ _ c.args.of.0 c.self.view_is c.requires))

pub returns : goal.returns
returns c = type_made _ _ _ c.pointer_to.result (λ types. pointer_to (type_at types c.args.of.0)) c.self.view_is c.self.invariant.sound c.pointer_to.ensures
