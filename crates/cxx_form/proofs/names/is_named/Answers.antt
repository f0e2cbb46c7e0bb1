use Rattle.std.proofs.Common.{◌∙◌}
use Rattle.cxx_form.proofs.Defining.{named_is, none_named}
use Rattle.cxx_form.proofs.names.is_named.Goals as goal

pub returns-in-Some : goal.returns-in-Some
returns-in-Some c = c.has_name.ensures c.args.state.now.types ∙ named_is c.args.state.now c.args.number.0 c.in-Some.fact.now c.in-Some.ensures.is

pub returns-in-None : goal.returns-in-None
returns-in-None c = none_named c.args.state.now c.args.number.0 c.in-None.ensures.is
