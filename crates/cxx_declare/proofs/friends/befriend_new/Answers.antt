use Rattle.cxx_reading.specs.Trees.{last_part}
use Rattle.cxx_tree.specs.Arena.{path_at}
use Rattle.cxx_declare.proofs.Befriending.{new_befriended}
use Rattle.cxx_declare.proofs.friends.befriend_new.Goals as goal

pub returns-in-Ok : goal.returns-in-Ok
returns-in-Ok c = new_befriended c.args.state.now c.declare_next.new.state c.args.home.0 c.next_class-class.result.0 (last_part (path_at c.args.path.now).parts) c.args.is_union c.in-Ok.fact c.declare_next.result c.next_class-class.ensures c.in-Ok.ensures.is c.in-Ok.ensures.made.plain c.declare_next.ensures
