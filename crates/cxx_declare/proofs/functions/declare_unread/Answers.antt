use Rattle.std.proofs.Common.{ap, ◌∙◌}
use Rattle.cxx_model.specs.Types.Numbers.{type_at}
use Rattle.cxx_tree.specs.Held.{offers_at, trees}
use Rattle.cxx_declare.proofs.Giving.{unread_list}
use Rattle.cxx_declare.proofs.functions.declare_unread.Goals as goal

pub returns-in-Ok : goal.returns-in-Ok
returns-in-Ok c = λ kind. unread_list c.args.state.now c.declare_unread_with.new.state c.args.list kind c.args.place c.args.word.now (type_at c.args.state.now.types c.args.of.0) (offers_at (trees c.args.state.now) c.as_slice.result.now) c.declare_unread_with.result (ap (offers_at (trees c.args.state.now)) c.as_slice.ensures ∙ c.in-Ok.ensures.is) (c.declare_unread_with.ensures kind)
