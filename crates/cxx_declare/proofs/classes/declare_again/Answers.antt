use Rattle.cxx_reading.specs.Trees.{last_part}
use Rattle.cxx_tree.specs.Arena.{path_at}
use Rattle.cxx_declare.proofs.Classed.{again_answered}
use Rattle.cxx_declare.proofs.classes.declare_again.Goals as goal

pub returns-in-Ok : goal.returns-in-Ok
returns-in-Ok c = again_answered c.args.state.now c.declare_fact.new.state c.args.scope.0 c.args.class.0 (last_part (path_at c.args.path.now).parts) c.args.is_union c.in-Ok.fact c.declare_fact.result c.in-Ok.ensures.is c.in-Ok.ensures.made.plain c.declare_fact.ensures
