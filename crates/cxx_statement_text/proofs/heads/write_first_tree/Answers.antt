use Rattle.std.proofs.Common.{subst, List}
use Rattle.cxx_page.specs.Sheets.{put, Writes}
use Rattle.cxx_reading.specs.Words.{Word}
use Rattle.cxx_statement_text.proofs.Conditional.{first_clause}
use Rattle.cxx_statement_text.proofs.heads.write_first_tree.Goals as goal

pub returns : goal.returns
returns g c =
    subst (λ (ws : List Word). Writes c.write_clause_tree.result c.write_clause_tree.new.page (put ws c.args.page.now))
    (first_clause (g.N.Names.named c.args.names.now) (g.N.StatementNames.value c.args.names.now) c.state.result.now c.node-node.result.now c.args.number c.state.ensures c.node-node.ensures.tree c.if-node-eq-DECLARATION_STATEMENT.false) c.write_clause_tree.ensures
