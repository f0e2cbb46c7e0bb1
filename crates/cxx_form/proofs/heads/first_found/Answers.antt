use Rattle.std.proofs.Common.{◌∙◌}
use Rattle.cxx_form.proofs.Heading.{function_is, no_function}
use Rattle.cxx_form.proofs.heads.first_found.Goals as goal

pub returns-in_default : goal.returns-in_default
returns-in_default c = no_function c.args.state.now c.args.number.0 c.in_default.ensures.is

pub returns : goal.returns
returns c = c.first_by.ensures c.args.state.now.types ∙ function_is c.args.state.now c.args.number.0 c.in-Some.fact.now c.in-Some.ensures.is
