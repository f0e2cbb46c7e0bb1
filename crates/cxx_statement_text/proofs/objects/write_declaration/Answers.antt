use Rattle.std.proofs.Common.{subst}
use Rattle.cxx_page.specs.Sheets.{put_lines, Writes}
use Rattle.cxx_statement_text.specs.Statements.{Lines}
use Rattle.cxx_statement_text.proofs.Declaring.{declaration_is, found_below}
use Rattle.cxx_statement_text.proofs.objects.write_declaration.Goals as goal

pub write_objects-requires-clause-below : goal.write_objects-requires-clause-below
write_objects-requires-clause-below g c = found_below (g.N.Names.named c.args.names.now) (g.N.StatementNames.value c.args.names.now) c.state-held.result.now c.in_ok-found.found.items c.as_slice.result.now _ c.state-held.ensures c.as_slice.ensures.value c.in_ok-found.ensures

pub returns : goal.returns
returns g c =
    subst (λ (ls : Lines). Writes c.write_objects.result c.write_objects.new.page (put_lines ls c.args.page.now))
    (declaration_is (g.N.Names.named c.args.names.now) (g.N.StatementNames.value c.args.names.now) c.state-held.result.now c.args.parts.now c.in_ok-found.found.items c.as_slice.result.now c.is_static-stands.result c.args.depth c.state-held.ensures c.as_slice.ensures.value c.in_ok-found.ensures c.is_static-stands.ensures) c.write_objects.ensures
