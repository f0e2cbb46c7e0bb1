use Rattle.cxx_model.specs.Types.Numbers.{type_at}
use Rattle.cxx_tree.specs.Held.{offers_at, trees}
use Rattle.cxx_declare.proofs.Giving.{found_first}
use Rattle.cxx_declare.proofs.functions.declare_with.Goals as goal

pub returns-in-Ok : goal.returns-in-Ok
returns-in-Ok c = λ kind. found_first c.args.state.now c.declare_first.new.state kind c.args.place c.args.word.now (type_at c.args.state.now.types c.args.of.0) c.is_linked_here-linked.result _ c.in-Ok.first _ (offers_at (trees c.args.state.now) c.args.offers.now) c.declare_first.result c.is_linked_here-linked.ensures c.in-Ok.ensures.is (c.declare_first.ensures kind)
