use Rattle.std.proofs.Common.{length, subst, sym, List}
use Rattle.cxx_phrase_text.specs.Named.{trees_of}
use Rattle.cxx_tree.specs.Arena.{AreTreesBelow}
use Rattle.cxx_model.specs.declared.types.TreeId.{TreeId}
use Rattle.cxx_statement_text.proofs.Declaring.{earlier_below}
use Rattle.cxx_statement_text.proofs.objects.write_node.Goals as goal

pub write_initialized-requires-clause-below : goal.write_initialized-requires-clause-below
write_initialized-requires-clause-below g c =
    subst (λ (ns : List TreeId). AreTreesBelow (length (trees_of (g.N.Names.named c.args.names.now))) ns) (sym c.as_slice.ensures)
    (earlier_below c.args.number.0 (length (trees_of (g.N.Names.named c.args.names.now))) c.node-node.result.now.children c.node-node.ensures.children c.requires.known)
