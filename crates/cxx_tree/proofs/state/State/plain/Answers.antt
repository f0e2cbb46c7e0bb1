use Rattle.cxx_tree.proofs.Wholes.{whole_type}
use Rattle.cxx_model.specs.Types.Trees.{fundamental}
use Rattle.cxx_tree.proofs.Steps.{type_made}
use Rattle.cxx_tree.proofs.state.State.plain.Goals as goal

pub invariant_of-self : goal.invariant_of-self
invariant_of-self c = whole_type _ _ _ _ _ _ _ c.plain.result _ c.self.invariant c.plain.ensures (tt)

pub returns : goal.returns
returns c = type_made _ _ _ c.plain.result (λ types. fundamental c.args.base) c.self.view_is c.self.invariant.sound c.plain.ensures
