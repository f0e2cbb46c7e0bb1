use Rattle.std.proofs.Common.{◌∙◌, length}
use Rattle.cxx_form.proofs.Lining.{no_type, type_found}
use Rattle.cxx_form.proofs.text.function_type.Goals as goal

pub returns-in_default-clause-is : goal.returns-in_default-clause-is
returns-in_default-clause-is c = no_type c.args.state.now c.args.number.0 c.in_default.ensures.is

pub returns-clause-is : goal.returns-clause-is
returns-clause-is c = c.type_in.ensures.is c.args.state.now.types ∙ type_found c.args.state.now c.args.number.0 c.in-Some.fact.now c.in-Some.ensures.is

pub returns-clause-below : goal.returns-clause-below
returns-clause-below c = c.type_in.ensures.below (length c.args.state.now.types) c.in-Some.ensures.below.what
