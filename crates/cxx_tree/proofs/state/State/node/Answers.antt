use Rattle.cxx_tree.proofs.Keeping.{node_children, node_is_below, node_tree, node_within}
use Rattle.cxx_tree.proofs.state.State.node.Goals as goal

pub node-requires : goal.node-requires
node-requires c = node_within _ _ c.args.number.0 c.self.view_is c.requires

pub returns-clause-below : goal.returns-clause-below
returns-clause-below c = node_is_below _ _ c.args.number.0 c.node.result.now c.self.view_is c.self.invariant.sound c.node.ensures

pub returns-clause-children : goal.returns-clause-children
returns-clause-children c = node_children _ c.args.number.0 c.node.result.now c.self.invariant.sound c.node.ensures

pub returns-clause-tree : goal.returns-clause-tree
returns-clause-tree c = node_tree _ _ c.args.number c.node.result.now c.self.view_is c.self.invariant.sound c.node.ensures
