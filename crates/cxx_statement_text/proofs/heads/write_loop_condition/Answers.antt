use Rattle.std.proofs.Common.{subst, Option}
use Rattle.cxx_page.specs.Sheets.{put, Writes}
use Rattle.cxx_reading.specs.Trees.{CxxTrees}
use Rattle.cxx_statement_text.specs.Statements.{expression_words, unless_declared}
use Rattle.cxx_statement_text.specs.Written.{parts_in, scene_of}
use Rattle.cxx_statement_text.proofs.Conditional.{a_declared, no_declared}
use Rattle.cxx_statement_text.proofs.heads.write_loop_condition.Goals as goal

pub returns-in-Some : goal.returns-in-Some
returns-in-Some g c =
    subst (λ (o : Option CxxTrees). Writes c.word.result c.word.new.self (put (unless_declared (expression_words (scene_of (g.N.Names.named c.args.names.now) (g.N.StatementNames.value c.args.names.now)) (parts_in (g.N.Names.named c.args.names.now).held c.args.parts.now)) o) c.args.page.now))
    (a_declared (g.N.Names.named c.args.names.now) (g.N.StatementNames.value c.args.names.now) c.state.result.now c.args.parts.now c.declared.result _ c.state.ensures c.declared.ensures.is c.in-Some.is) c.word.ensures

pub returns-in-None : goal.returns-in-None
returns-in-None g c =
    subst (λ (o : Option CxxTrees). Writes c.write_first.result c.write_first.new.page (put (unless_declared (expression_words (scene_of (g.N.Names.named c.args.names.now) (g.N.StatementNames.value c.args.names.now)) (parts_in (g.N.Names.named c.args.names.now).held c.args.parts.now)) o) c.args.page.now))
    (no_declared (g.N.Names.named c.args.names.now) (g.N.StatementNames.value c.args.names.now) c.state.result.now c.args.parts.now c.declared.result c.state.ensures c.declared.ensures.is c.in-None.is) c.write_first.ensures
