use Rattle.cxx_tree.proofs.Wholes.{whole_type}
use Rattle.cxx_model.specs.Types.Trees.{function_of}
use Rattle.cxx_model.specs.Types.Numbers.{type_at, types_at}
use Rattle.cxx_types.specs.Parameters.{adjusted_types}
use Rattle.cxx_tree.proofs.Steps.{all_within, function_range, type_made, within}
use Rattle.cxx_tree.proofs.state.State.function_to.Goals as goal

pub function_to-requires-clause-known : goal.function_to-requires-clause-known
function_to-requires-clause-known c = within _ _ c.args.returned.0 c.self.view_is c.requires.known

pub function_to-requires-clause-below : goal.function_to-requires-clause-below
function_to-requires-clause-below c = all_within _ _ c.args.parameters.now c.self.view_is c.requires.below

pub invariant_of-self : goal.invariant_of-self
invariant_of-self c = whole_type _ _ _ _ _ _ _ c.function_to.result _ c.self.invariant c.function_to.ensures (function_range _ c.args.returned.0 c.args.parameters.now c.self.invariant.sound (within _ _ c.args.returned.0 c.self.view_is c.requires.known) (all_within _ _ c.args.parameters.now c.self.view_is c.requires.below))

pub returns : goal.returns
returns c = type_made _ _ _ c.function_to.result (λ types. function_of (type_at types c.args.returned.0) (adjusted_types (types_at types c.args.parameters.now)) c.args.ellipsis c.args.cv) c.self.view_is c.self.invariant.sound c.function_to.ensures
