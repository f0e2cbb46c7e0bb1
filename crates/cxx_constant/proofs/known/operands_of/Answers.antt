use Rattle.std.proofs.Common.{List, ap, subst, sym, ◌∙◌}
use Rattle.cxx_model.specs.declared.types.TreeId.{TreeId}
use Rattle.cxx_tree.specs.Arena.{AreTreesBelow}
use Rattle.cxx_constant.specs.Constants.{last_alone}
use Rattle.cxx_constant.proofs.Wholes.{alone_below}
use Rattle.cxx_constant.proofs.known.operands_of.Goals as goal

pub returns-then-node-eq-CAST-clause-below : goal.returns-then-node-eq-CAST-clause-below
returns-then-node-eq-CAST-clause-below c = subst (λ (ns : List TreeId). AreTreesBelow c.args.number.0 ns) (sym (c.last_alone.ensures ∙ ap (λ (ns : List TreeId). last_alone ns) c.as_slice-parts.ensures)) (alone_below c.args.number.0 c.args.node.now.children c.requires)
