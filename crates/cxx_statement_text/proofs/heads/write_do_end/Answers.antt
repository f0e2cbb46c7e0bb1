use Rattle.std.proofs.Common.{subst}
use Rattle.cxx_page.specs.Sheets.{put_lines, Writes}
use Rattle.cxx_reading.specs.Trees.{CxxTrees}
use Rattle.cxx_statement_text.specs.Statements.{do_end, expression_words, line}
use Rattle.cxx_statement_text.specs.Written.{scene_of}
use Rattle.cxx_statement_text.proofs.heads.write_do_end.Goals as goal

pub write_do_line-requires-clause-earlier : goal.write_do_line-requires-clause-earlier
write_do_line-requires-clause-earlier g c = c.after.ensures.below

pub returns : goal.returns
returns g c =
    subst (λ (ts : CxxTrees). Writes c.write_do_line.result c.write_do_line.new.page (put_lines (line c.args.depth (do_end (expression_words (scene_of (g.N.Names.named c.args.names.now) (g.N.StatementNames.value c.args.names.now)) ts))) c.args.page.now))
    (c.after.ensures.is (g.N.Names.named c.args.names.now).held) c.write_do_line.ensures
