use Rattle.cxx_tree.proofs.Wholes.{whole_type}
use Rattle.cxx_model.specs.Types.Trees.{unqualified}
use Rattle.cxx_model.specs.Types.Numbers.{type_at}
use Rattle.cxx_tree.proofs.Steps.{type_made, type_range, within, unqualified_range}
use Rattle.cxx_tree.proofs.state.State.strip_cv.Goals as goal

pub strip_cv-requires : goal.strip_cv-requires
strip_cv-requires c = within _ _ c.args.of.0 c.self.view_is c.requires

pub invariant_of-self : goal.invariant_of-self
invariant_of-self c = whole_type _ _ _ _ _ _ _ c.strip_cv.result _ c.self.invariant c.strip_cv.ensures (unqualified_range c.self.inside.graph (type_at c.self.inside.types c.args.of.0) (type_range _ c.args.of.0 c.self.invariant.sound (within _ _ c.args.of.0 c.self.view_is c.requires)))

pub returns : goal.returns
returns c = type_made _ _ _ c.strip_cv.result (λ types. unqualified (type_at types c.args.of.0)) c.self.view_is c.self.invariant.sound c.strip_cv.ensures
