use Rattle.cxx_tree.proofs.Wholes.{whole_type}
use Rattle.cxx_model.specs.Types.Trees.{decayed}
use Rattle.cxx_model.specs.Types.Numbers.{type_at}
use Rattle.cxx_tree.proofs.Steps.{type_made, type_range, within, decayed_range}
use Rattle.cxx_tree.proofs.state.State.decay.Goals as goal

pub decay-requires : goal.decay-requires
decay-requires c = within _ _ c.args.of.0 c.self.view_is c.requires

pub invariant_of-self : goal.invariant_of-self
invariant_of-self c = whole_type _ _ _ _ _ _ _ c.decay.result _ c.self.invariant c.decay.ensures (decayed_range c.self.inside.graph (type_at c.self.inside.types c.args.of.0) (type_range _ c.args.of.0 c.self.invariant.sound (within _ _ c.args.of.0 c.self.view_is c.requires)))

pub returns : goal.returns
returns c = type_made _ _ _ c.decay.result (λ types. decayed (type_at types c.args.of.0)) c.self.view_is c.self.invariant.sound c.decay.ensures
