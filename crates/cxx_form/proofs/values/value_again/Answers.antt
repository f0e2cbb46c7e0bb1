use Rattle.std.proofs.Common.{◌∙◌}
use Rattle.cxx_form.proofs.Derived.{again_is, none_again}
use Rattle.cxx_form.proofs.values.value_again.Goals as goal

pub returns-in-Some : goal.returns-in-Some
returns-in-Some c = c.value_again_in.ensures c.args.state.now.types ∙ again_is c.args.state.now c.args.number.0 c.args.next.0 c.in-Some.fact.now c.in-Some.ensures.is

pub returns-in-None : goal.returns-in-None
returns-in-None c = none_again c.args.state.now c.args.number.0 c.args.next.0 c.in-None.ensures.is
