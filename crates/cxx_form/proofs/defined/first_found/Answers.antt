use Rattle.std.proofs.Common.{◌∙◌}
use Rattle.cxx_form.proofs.Defining.{a_first, no_first}
use Rattle.cxx_form.proofs.defined.first_found.Goals as goal

pub returns-in_default : goal.returns-in_default
returns-in_default c = no_first c.args.state.now c.args.number.0 c.in_default.ensures.is

pub returns : goal.returns
returns c = c.first_by.ensures c.args.state.now.types ∙ a_first c.args.state.now c.args.number.0 c.in-Some.fact.now c.in-Some.ensures.is
