use Rattle.cxx_declare.proofs.Defining.{object_defined}
use Rattle.cxx_declare.proofs.objects.define_object.Goals as goal

pub returns-in-Ok : goal.returns-in-Ok
returns-in-Ok c = λ kind. object_defined c.args.state.now c.define.new.state kind c.args.place c.args.word.now _ c.in-Ok.fact c.define.result c.in-Ok.ensures.is c.in-Ok.ensures.named c.define.ensures
