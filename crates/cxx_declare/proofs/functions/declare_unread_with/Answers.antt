use Rattle.cxx_model.specs.Types.Numbers.{type_at}
use Rattle.cxx_tree.specs.Held.{offers_at, trees}
use Rattle.cxx_declare.proofs.Giving.{unread_first}
use Rattle.cxx_declare.proofs.functions.declare_unread_with.Goals as goal

pub returns-in-Ok : goal.returns-in-Ok
returns-in-Ok c = λ kind. unread_first c.args.state.now c.declare_unread_first.new.state kind c.args.place c.args.word.now (type_at c.args.state.now.types c.args.of.0) c.in-Ok.first _ (offers_at (trees c.args.state.now) c.args.offers.now) c.declare_unread_first.result c.in-Ok.ensures.is (c.declare_unread_first.ensures kind)
