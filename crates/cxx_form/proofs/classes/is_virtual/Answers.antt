use Rattle.std.proofs.Common.{◌∙◌}
use Rattle.cxx_form.proofs.Derived.{none_virtual, virtual_is}
use Rattle.cxx_form.proofs.classes.is_virtual.Goals as goal

pub returns-in-Some : goal.returns-in-Some
returns-in-Some c = c.is_virtual_in.ensures c.args.state.now.types ∙ virtual_is c.args.state.now c.args.number.0 c.in-Some.fact.now c.in-Some.ensures.is

pub returns-in-None : goal.returns-in-None
returns-in-None c = none_virtual c.args.state.now c.args.number.0 c.in-None.ensures.is
