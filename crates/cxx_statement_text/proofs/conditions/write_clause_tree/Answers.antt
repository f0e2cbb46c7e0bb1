use Rattle.std.proofs.Common.{subst, List}
use Rattle.cxx_page.specs.Sheets.{put, Writes}
use Rattle.cxx_reading.specs.Words.{Word}
use Rattle.cxx_statement_text.proofs.Firsts.{a_clause}
use Rattle.cxx_statement_text.proofs.conditions.write_clause_tree.Goals as goal

pub returns : goal.returns
returns g c =
    subst (λ (ws : List Word). Writes c.write_expression.result c.write_expression.new.page (put ws c.args.page.now))
    (a_clause (g.N.Names.named c.args.names.now) (g.N.StatementNames.value c.args.names.now) c.state.result.now c.node-node.result.now c.args.number c.state.ensures c.node-node.ensures.tree c.if-node-eq-EXPRESSION_STATEMENT.false) c.write_expression.ensures
