use Rattle.cxx_tree.proofs.Wholes.{whole_type}
use Rattle.cxx_model.specs.Types.Trees.{array_of}
use Rattle.cxx_model.specs.Types.Numbers.{type_at}
use Rattle.cxx_tree.specs.Arena.{bound_of}
use Rattle.cxx_tree.proofs.Steps.{array_makes, array_range, type_made, within}
use Rattle.cxx_tree.proofs.state.State.array_of.Goals as goal

pub array_of-requires-clause-known : goal.array_of-requires-clause-known
array_of-requires-clause-known c = within _ _ c.args.of.0 c.self.view_is c.requires

pub array_of-requires-clause-below : goal.array_of-requires-clause-below
array_of-requires-clause-below c = c.bound_with-bound.ensures.below _

pub invariant_of-self : goal.invariant_of-self
invariant_of-self c = whole_type _ _ _ _ _ _ _ c.array_of.result _ c.self.invariant (array_makes c.self.inside.types c.array_of.new.self c.array_of.result (type_at c.self.inside.types c.args.of.0) _ (bound_of c.args.bound) (c.bound_with-bound.ensures.at c.self.inside.types) c.array_of.ensures) (array_range _ c.args.of.0 c.args.bound c.self.invariant.sound (within _ _ c.args.of.0 c.self.view_is c.requires))

pub returns : goal.returns
returns c = type_made _ _ _ c.array_of.result (λ types. array_of (type_at types c.args.of.0) (bound_of c.args.bound)) c.self.view_is c.self.invariant.sound (array_makes c.self.inside.types c.array_of.new.self c.array_of.result (type_at c.self.inside.types c.args.of.0) _ (bound_of c.args.bound) (c.bound_with-bound.ensures.at c.self.inside.types) c.array_of.ensures)
