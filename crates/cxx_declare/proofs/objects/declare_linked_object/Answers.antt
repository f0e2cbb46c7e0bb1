use Rattle.cxx_declare.proofs.Linkage.{object_linked}
use Rattle.cxx_declare.proofs.objects.declare_linked_object.Goals as goal

pub returns-in-Ok : goal.returns-in-Ok
returns-in-Ok c = λ kind. object_linked c.args.state.now c.declare_linked.new.state kind c.args.place c.args.word.now _ c.in-Ok.fact c.declare_linked.result c.in-Ok.ensures.is c.in-Ok.ensures.named c.declare_linked.ensures
