use Rattle.std.proofs.Common.{◌∙◌}
use Rattle.cxx_form.proofs.Derived.{class_is, no_class}
use Rattle.cxx_form.proofs.bases.class_at.Goals as goal

pub returns-in_default : goal.returns-in_default
returns-in_default c = no_class c.args.state.now c.args.number.0 c.in_default.ensures.is

pub returns : goal.returns
returns c = c.class_of.ensures c.args.state.now.types ∙ class_is c.args.state.now c.args.number.0 c.in-Some.fact.now c.in-Some.ensures.is
