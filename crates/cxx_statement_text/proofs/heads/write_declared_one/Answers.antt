use Rattle.std.proofs.Common.{subst, List}
use Rattle.cxx_page.specs.Sheets.{put, Writes}
use Rattle.cxx_reading.specs.Words.{Word}
use Rattle.cxx_statement_text.proofs.Declaring.{found_below, one_object_is}
use Rattle.cxx_statement_text.proofs.heads.write_declared_one.Goals as goal

pub write_one-requires-clause-below : goal.write_one-requires-clause-below
write_one-requires-clause-below g c = found_below (g.N.Names.named c.args.names.now) (g.N.StatementNames.value c.args.names.now) c.state-held.result.now c.in_ok-found.found.items c.as_slice.result.now _ c.state-held.ensures c.as_slice.ensures.value c.in_ok-found.ensures

pub returns : goal.returns
returns g c =
    subst (λ (ws : List Word). Writes c.write_one.result c.write_one.new.page (put ws c.args.page.now))
    (one_object_is (g.N.Names.named c.args.names.now) (g.N.StatementNames.value c.args.names.now) c.state-held.result.now c.args.parts.now c.in_ok-found.found.items c.as_slice.result.now c.is_static-stands.result c.state-held.ensures c.as_slice.ensures.value c.in_ok-found.ensures c.is_static-stands.ensures) c.write_one.ensures
