use Rattle.cxx_declare.proofs.Clashing.{linked_nothing}
use Rattle.cxx_declare.proofs.conflict.linked_named.Goals as goal

pub returns-in_default : goal.returns-in_default
returns-in_default c = linked_nothing c.args.state.now c.args.space.0 c.args.name.now c.new.result c.requires c.in_default.not-Spelled c.new.ensures
