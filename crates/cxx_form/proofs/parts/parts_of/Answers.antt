use Rattle.std.proofs.Common.{length, List, subst, sym}
use Rattle.cxx_model.specs.declared.types.TreeId.{TreeId}
use Rattle.cxx_tree.specs.Arena.{AreTreesBelow}
use Rattle.cxx_tree.specs.Held.{trees}
use Rattle.cxx_form.proofs.Initial.{earlier_below}
use Rattle.cxx_form.proofs.parts.parts_of.Goals as goal

pub returns-clause-below : goal.returns-clause-below
returns-clause-below c = earlier_below c.args.number.0 (length (trees c.args.state.now)) c.as_slice.result.now (subst (λ (ns : List TreeId). AreTreesBelow c.args.number.0 ns) (sym c.as_slice.ensures) c.node.ensures.children) c.requires
