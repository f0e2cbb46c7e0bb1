use Rattle.std.proofs.Common.{subst, ◌∷◌, ◌++◌, []}
use Rattle.cxx_page.specs.Sheets.{put_line, Writes}
use Rattle.cxx_reading.specs.Trees.{CxxTrees}
use Rattle.cxx_reading.specs.Words.{close_word, semicolon_word}
use Rattle.cxx_statement_text.specs.Statements.{clause_words, open_brace}
use Rattle.cxx_statement_text.specs.Written.{scene_of}
use Rattle.cxx_statement_text.proofs.heads.write_step_after.Goals as goal

pub write_step-requires-clause-earlier : goal.write_step-requires-clause-earlier
write_step-requires-clause-earlier g c = c.after.ensures.below

pub returns : goal.returns
returns g c =
    subst (λ (ts : CxxTrees). Writes c.write_step.result c.write_step.new.page (put_line (semicolon_word ∷ (clause_words (scene_of (g.N.Names.named c.args.names.now) (g.N.StatementNames.value c.args.names.now)) ts ++ close_word ∷ (open_brace ∷ []))) c.args.page.now))
    (c.after.ensures.is (g.N.Names.named c.args.names.now).held) c.write_step.ensures
