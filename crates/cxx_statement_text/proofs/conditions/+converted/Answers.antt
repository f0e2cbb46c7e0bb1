use Rattle.std.proofs.Common.{subst, List}
use Rattle.cxx_page.specs.Sheets.{put, Writes}
use Rattle.cxx_reading.specs.Words.{Word}
use Rattle.cxx_statement_text.specs.Written.{scene_of}
use Rattle.cxx_statement_text.proofs.Conditional.{cast_is_converted}
use Rattle.cxx_statement_text.proofs.Firsts.{no_converted}
use Rattle.cxx_statement_text.proofs.conditions.+converted.Goals as goal

pub write_converted-returns-in-empty : goal.write_converted-returns-in-empty
write_converted-returns-in-empty g t c = no_converted (scene_of (g.N.Names.named c.args.names.now) (g.N.StatementNames.value c.args.names.now)) (g.N.Names.named c.args.names.now).held c.args.parts.now c.args.page.now c.in-empty.len_below

pub write_converted_tree-returns : goal.write_converted_tree-returns
write_converted_tree-returns g t c =
    subst (λ (ws : List Word). Writes c.write_cast.result c.write_cast.new.page (put ws c.args.page.now))
    (cast_is_converted (g.N.Names.named c.args.names.now) (g.N.StatementNames.value c.args.names.now) c.state.result.now c.node-node.result.now c.args.number c.cast_keyword-keyword.result.now c.as_slice.result.now c.as_slice-parts.result.now c.state.ensures c.node-node.ensures.tree c.if-node-eq-DECLARATION_STATEMENT.false c.cast_keyword-keyword.ensures c.as_slice.ensures c.as_slice-parts.ensures) c.write_cast.ensures
