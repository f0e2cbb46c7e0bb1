use Rattle.std.proofs.Common.{subst}
use Rattle.cxx_page.specs.Sheets.{put_lines, Writes}
use Rattle.cxx_tree.specs.Held.{trees}
use Rattle.cxx_statement_text.specs.Statements.{Lines}
use Rattle.cxx_statement_text.proofs.Declaring.{found_below, not_several_are, several_are}
use Rattle.cxx_statement_text.proofs.heads.write_several.Goals as goal

pub write_objects-requires-clause-below : goal.write_objects-requires-clause-below
write_objects-requires-clause-below g c = found_below (g.N.Names.named c.args.names.now) (g.N.StatementNames.value c.args.names.now) c.state-held.result.now c.in_ok-found.found.items c.as_slice-numbers.result.now _ c.state-held.ensures c.as_slice-numbers.ensures.value c.in_ok-found.ensures

pub returns-then-several : goal.returns-then-several
returns-then-several g c =
    subst (λ (ls : Lines). Writes c.write_objects.result c.write_objects.new.page (put_lines ls c.args.page.now))
    (several_are (g.N.Names.named c.args.names.now) (g.N.StatementNames.value c.args.names.now) c.state-held.result.now c.args.parts.now c.in_ok-found.found.items c.as_slice-numbers.result.now c.are_several-several.result c.is_first_static-stands.result c.args.depth c.state-held.ensures c.as_slice-numbers.ensures.value c.in_ok-found.ensures (c.are_several-several.ensures (trees c.state-held.result.now)) c.if-several.true c.is_first_static-stands.ensures) c.write_objects.ensures

pub returns : goal.returns
returns g c = not_several_are (g.N.Names.named c.args.names.now) (g.N.StatementNames.value c.args.names.now) c.state-held.result.now c.args.parts.now c.in_ok-found.found.items c.as_slice-numbers.result.now c.are_several-several.result c.args.depth c.args.page.now c.state-held.ensures c.as_slice-numbers.ensures.value c.in_ok-found.ensures (c.are_several-several.ensures (trees c.state-held.result.now)) c.if-several.false
