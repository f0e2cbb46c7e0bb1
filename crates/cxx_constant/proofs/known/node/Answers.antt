use Rattle.cxx_tree.proofs.Arenas.{node_below}
use Rattle.cxx_constant.proofs.Wholes.{below_it, tree_is}
use Rattle.cxx_constant.proofs.known.node.Goals as goal

pub returns-clause-below : goal.returns-clause-below
returns-clause-below c = node_below _ c.args.known.now.trees.now c.args.number.0 c.node.result.now c.requires.known.nodes c.node.ensures

pub returns-clause-children : goal.returns-clause-children
returns-clause-children c = below_it c.args.known.now.trees.now c.args.number.0 c.node.result.now c.requires.known.children c.node.ensures

pub returns-clause-tree : goal.returns-clause-tree
returns-clause-tree c = tree_is c.args.known.now.types.now c.args.known.now.trees.now c.args.number.0 c.node.result.now c.requires.known.children c.node.ensures
