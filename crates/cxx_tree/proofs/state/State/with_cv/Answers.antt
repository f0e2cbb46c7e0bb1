use Rattle.cxx_tree.proofs.Wholes.{whole_type}
use Rattle.cxx_model.specs.Types.Trees.{with_cv}
use Rattle.cxx_model.specs.Types.Numbers.{type_at}
use Rattle.cxx_tree.proofs.Steps.{type_made, type_range, within, with_cv_range}
use Rattle.cxx_tree.proofs.state.State.with_cv.Goals as goal

pub with_cv-requires : goal.with_cv-requires
with_cv-requires c = within _ _ c.args.of.0 c.self.view_is c.requires

pub invariant_of-self : goal.invariant_of-self
invariant_of-self c = whole_type _ _ _ _ _ _ _ c.with_cv.result _ c.self.invariant c.with_cv.ensures (with_cv_range c.self.inside.graph c.args.cv (type_at c.self.inside.types c.args.of.0) (type_range _ c.args.of.0 c.self.invariant.sound (within _ _ c.args.of.0 c.self.view_is c.requires)))

pub returns : goal.returns
returns c = type_made _ _ _ c.with_cv.result (λ types. with_cv c.args.cv (type_at types c.args.of.0)) c.self.view_is c.self.invariant.sound c.with_cv.ensures
