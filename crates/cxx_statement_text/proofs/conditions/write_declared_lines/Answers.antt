use Rattle.std.proofs.Common.{subst, Option, ◌≡◌, Some}
use Rattle.cxx_page.specs.Sheets.{put_lines, Writes}
use Rattle.cxx_reading.specs.Trees.{CxxTrees}
use Rattle.cxx_statement_text.specs.Statements.{declared_lines}
use Rattle.cxx_statement_text.specs.Written.{scene_of}
use Rattle.cxx_statement_text.proofs.Conditional.{a_declared, no_declared}
use Rattle.cxx_statement_text.proofs.Lining.{lines_none}
use Rattle.cxx_statement_text.proofs.conditions.write_declared_lines.Goals as goal

pub returns-in-Some : goal.returns-in-Some
returns-in-Some g c =
    subst (λ (o : Option CxxTrees). Writes c.write_declaration_of.result c.write_declaration_of.new.page (put_lines (declared_lines (scene_of (g.N.Names.named c.args.names.now) (g.N.StatementNames.value c.args.names.now)) c.args.depth o) c.args.page.now))
    (a_declared (g.N.Names.named c.args.names.now) (g.N.StatementNames.value c.args.names.now) c.state.result.now c.args.parts.now c.declared.result _ c.state.ensures c.declared.ensures.is c.in-Some.is) c.write_declaration_of.ensures

pub returns-in-None : goal.returns-in-None
returns-in-None g c =
    subst (λ (o : Option CxxTrees). put_lines (declared_lines (scene_of (g.N.Names.named c.args.names.now) (g.N.StatementNames.value c.args.names.now)) c.args.depth o) c.args.page.now ≡ Some c.args.page.now)
    (no_declared (g.N.Names.named c.args.names.now) (g.N.StatementNames.value c.args.names.now) c.state.result.now c.args.parts.now c.declared.result c.state.ensures c.declared.ensures.is c.in-None.is) (lines_none c.args.page.now)
