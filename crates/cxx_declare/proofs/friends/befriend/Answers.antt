use Rattle.cxx_declare.proofs.Befriending.{befriend_class_here}
use Rattle.cxx_declare.proofs.friends.befriend.Goals as goal

pub returns : goal.returns
returns c = befriend_class_here c.args.state.now c.befriend_by.new.state c.args.place c.args.number.0 c.class_here-class.result c.befriend_by.result c.class_here-class.ensures.is c.befriend_by.ensures
