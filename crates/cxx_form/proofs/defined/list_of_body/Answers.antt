use Rattle.cxx_form.proofs.Defining.{a_list, no_fact}
use Rattle.cxx_form.proofs.defined.list_of_body.Goals as goal

pub returns-in_default-find : goal.returns-in_default-find
returns-in_default-find c = no_fact c.args.state.now c.args.body c.in-Some.body c.node.result.now c.in-Some-target.number c.in-Some.is c.node.ensures.tree c.in-Some-target.is c.in_default-find.ensures.is

pub returns : goal.returns
returns c = a_list c.args.state.now c.args.body c.in-Some.body c.node.result.now c.in-Some-target.number c.in-Some-find.fact.now c.in-Some.is c.node.ensures.tree c.in-Some-target.is c.in-Some-find.ensures.is
