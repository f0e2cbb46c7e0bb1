use Rattle.std.proofs.Common.{subst, List}
use Rattle.cxx_page.specs.Sheets.{put, Writes}
use Rattle.cxx_reading.specs.Words.{Word}
use Rattle.cxx_statement_text.proofs.Declaring.{first_name_is, found_below}
use Rattle.cxx_statement_text.proofs.conditions.write_declared_name.Goals as goal

pub write_first_name-requires-clause-below : goal.write_first_name-requires-clause-below
write_first_name-requires-clause-below g c = found_below (g.N.Names.named c.args.names.now) (g.N.StatementNames.value c.args.names.now) c.state-held.result.now c.in_ok-found.found.items c.as_slice.result.now _ c.state-held.ensures c.as_slice.ensures.value c.in_ok-found.ensures

pub returns : goal.returns
returns g c =
    subst (λ (ws : List Word). Writes c.write_first_name.result c.write_first_name.new.page (put ws c.args.page.now))
    (first_name_is (g.N.Names.named c.args.names.now) (g.N.StatementNames.value c.args.names.now) c.state-held.result.now c.args.parts.now c.in_ok-found.found.items c.as_slice.result.now c.state-held.ensures c.as_slice.ensures.value c.in_ok-found.ensures) c.write_first_name.ensures
