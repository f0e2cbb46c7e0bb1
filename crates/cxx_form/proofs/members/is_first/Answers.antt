use Rattle.std.proofs.Common.{◌∙◌}
use Rattle.cxx_form.proofs.Membered.{first_is, none_first}
use Rattle.cxx_form.proofs.members.is_first.Goals as goal

pub returns-in-Some : goal.returns-in-Some
returns-in-Some c = c.is_first_part.ensures c.args.state.now.types ∙ first_is c.args.state.now c.args.number.0 c.in-Some.fact.now c.in-Some.ensures.is

pub returns-in-None : goal.returns-in-None
returns-in-None c = none_first c.args.state.now c.args.number.0 c.in-None.ensures.is
