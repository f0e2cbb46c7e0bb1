use Rattle.cxx_model.specs.Types.Numbers.{type_at}
use Rattle.cxx_tree.specs.Held.{offers_at, trees}
use Rattle.cxx_declare.proofs.Giving.{unread_declared}
use Rattle.cxx_declare.proofs.functions.declare_unread_first.Goals as goal

pub returns-in-Ok : goal.returns-in-Ok
returns-in-Ok c = λ kind. unread_declared c.args.state.now c.add_unread.new.state kind c.args.place c.args.word.now (type_at c.args.state.now.types c.args.of.0) c.args.first (offers_at (trees c.args.state.now) c.args.offers.now) c.in-Ok.fact c.add_unread.result (c.in-Ok.ensures.is kind) c.in-Ok.ensures.named c.add_unread.ensures
