use Rattle.std.specs.Prelude.{◌≡◌, IfOk}
use Rattle.std.proofs.Common.{subst, ◌∙◌}
use Rattle.cxx_paths.proofs.Several.{alone_is, several_is}
use Rattle.cxx_tree.specs.Held.{meaning}
use Rattle.cxx_paths.proofs.regions.first_of.Goals as goal

pub returns-in_default-clause-is : goal.returns-in_default-clause-is
returns-in_default-clause-is c = c.in_class.ensures.is ∙ alone_is (meaning c.args.state.now).graph (meaning c.args.state.now).here.scope c.args.class c.args.parts.now c.in_default.len_below

pub returns-in-len2-up-clause-is : goal.returns-in-len2-up-clause-is
returns-in-len2-up-clause-is c = subst (λ region. IfOk c.first_of_several.result (λ first. first ≡ region)) (several_is (meaning c.args.state.now).graph (meaning c.args.state.now).here.scope c.args.class c.args.parts.now c.part-item.result c.in-len2-up.len_at_least c.part-item.is) c.first_of_several.ensures.is
