use Rattle.cxx_declare.proofs.Making.{object_declared, own_there}
use Rattle.cxx_declare.proofs.objects.declare_object.Goals as goal

pub returns-in-Ok-clause-answered : goal.returns-in-Ok-clause-answered
returns-in-Ok-clause-answered c = λ kind. object_declared c.args.state.now c.add_object.new.state kind c.args.place c.args.word.now _ c.in-Ok.fact c.add_object.result c.in-Ok.ensures.is c.in-Ok.ensures.named c.add_object.ensures.answered

pub returns-in-Ok-clause-own : goal.returns-in-Ok-clause-own
returns-in-Ok-clause-own c = own_there c.add_object.result c.add_object.new.state c.in-Ok.fact c.in-Ok.ensures.own c.add_object.ensures.at
