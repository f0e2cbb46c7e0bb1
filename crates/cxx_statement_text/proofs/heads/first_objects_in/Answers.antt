use Rattle.cxx_statement_text.proofs.Printing.{another_first}
use Rattle.cxx_statement_text.proofs.heads.first_objects_in.Goals as goal

pub returns : goal.returns
returns c = another_first c.args.state.now c.node-node.result.now c.args.number c.no_objects.result.items c.node-node.ensures.tree c.if-node-eq-DECLARATION_STATEMENT.false c.no_objects.ensures
