use Rattle.std.proofs.Common.{◌∙◌, length}
use Rattle.cxx_form.proofs.Heading.{no_object_type, object_type_is}
use Rattle.cxx_form.proofs.heads.object_type.Goals as goal

pub returns-in_default-clause-is : goal.returns-in_default-clause-is
returns-in_default-clause-is c = no_object_type c.args.state.now c.args.number.0 c.in_default.ensures.is

pub returns-clause-is : goal.returns-clause-is
returns-clause-is c = c.object_type_in.ensures.is c.args.state.now.types ∙ object_type_is c.args.state.now c.args.number.0 c.in-Some.fact.now c.in-Some.ensures.is

pub returns-clause-below : goal.returns-clause-below
returns-clause-below c = c.object_type_in.ensures.below (length c.args.state.now.types) c.in-Some.ensures.below.what
