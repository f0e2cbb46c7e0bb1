use Rattle.cxx_expr.proofs.NodeKept.{node_later}
use Rattle.cxx_called.proofs.calls.value_call.Goals as goal

pub named_here-requires-clause-node : goal.named_here-requires-clause-node
named_here-requires-clause-node g c = c.apart-name.ensures.name_held c.args.state.now c.requires.node

pub through-requires-clause-node : goal.through-requires-clause-node
through-requires-clause-node g c = node_later _ _ _ c.named_here.ensures.later (c.apart-name.ensures.call_held c.args.state.now c.requires.node)
