use Rattle.std.proofs.Common.{subst, List}
use Rattle.cxx_page.specs.Sheets.{put, Writes}
use Rattle.cxx_reading.specs.Words.{Word}
use Rattle.cxx_statement_text.proofs.Declaring.{an_initializer, no_initializer}
use Rattle.cxx_statement_text.proofs.objects.write_among.Goals as goal

pub returns-in_default : goal.returns-in_default
returns-in_default g c = no_initializer (g.N.Names.named c.args.names.now) (g.N.StatementNames.value c.args.names.now) c.state.result.now c.args.parts.now c.args.page.now c.state.ensures c.in_default.ensures.is

pub returns : goal.returns
returns g c =
    subst (λ (ws : List Word). Writes c.write_initializer.result c.write_initializer.new.page (put ws c.args.page.now))
    (an_initializer (g.N.Names.named c.args.names.now) (g.N.StatementNames.value c.args.names.now) c.state.result.now c.args.parts.now c.in-Some.number c.state.ensures c.in-Some.ensures.is) c.write_initializer.ensures
