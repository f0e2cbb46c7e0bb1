use Rattle.std.proofs.Common.{subst, List}
use Rattle.cxx_page.specs.Sheets.{put, Writes}
use Rattle.cxx_reading.specs.Words.{Word}
use Rattle.cxx_statement_text.specs.Written.{scene_of}
use Rattle.cxx_statement_text.proofs.Firsts.{an_expression, no_expression}
use Rattle.cxx_statement_text.proofs.conditions.write_first.Goals as goal

pub returns-in-empty : goal.returns-in-empty
returns-in-empty g c = no_expression (scene_of (g.N.Names.named c.args.names.now) (g.N.StatementNames.value c.args.names.now)) (g.N.Names.named c.args.names.now).held c.args.parts.now c.args.page.now c.in-empty.len_below

pub returns-in-len1-up : goal.returns-in-len1-up
returns-in-len1-up g c =
    subst (λ (ws : List Word). Writes c.write_expression.result c.write_expression.new.page (put ws c.args.page.now))
    (an_expression (g.N.Names.named c.args.names.now) (g.N.StatementNames.value c.args.names.now) c.args.parts.now _ c.in-len1-up.len_at_least) c.write_expression.ensures
