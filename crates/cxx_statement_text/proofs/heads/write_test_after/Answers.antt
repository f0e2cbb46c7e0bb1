use Rattle.std.proofs.Common.{subst, ◌∷◌, ◌++◌, []}
use Rattle.cxx_page.specs.Sheets.{put_line, Writes}
use Rattle.cxx_reading.specs.Trees.{CxxTrees}
use Rattle.cxx_reading.specs.Words.{close_word, semicolon_word}
use Rattle.cxx_statement_text.specs.Statements.{after, clause_words, declared_in, open_brace, unless_declared}
use Rattle.cxx_statement_text.specs.Written.{scene_of}
use Rattle.cxx_statement_text.proofs.heads.write_test_after.Goals as goal

pub write_test-requires-clause-earlier : goal.write_test-requires-clause-earlier
write_test-requires-clause-earlier g c = c.after.ensures.below

pub returns : goal.returns
returns g c =
    subst (λ (ts : CxxTrees). Writes c.write_test.result c.write_test.new.page (put_line (semicolon_word ∷ (unless_declared (clause_words (scene_of (g.N.Names.named c.args.names.now) (g.N.StatementNames.value c.args.names.now)) ts) (declared_in ts) ++ semicolon_word ∷ (clause_words (scene_of (g.N.Names.named c.args.names.now) (g.N.StatementNames.value c.args.names.now)) (after ts) ++ close_word ∷ (open_brace ∷ [])))) c.args.page.now))
    (c.after.ensures.is (g.N.Names.named c.args.names.now).held) c.write_test.ensures
