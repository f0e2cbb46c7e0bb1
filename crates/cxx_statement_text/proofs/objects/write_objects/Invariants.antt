-- what is left to write on the page is what was to be written on the first one
use Rattle.std.proofs.Common.{◌≡◌, drop}
use Rattle.std.specs.Prelude.{flat_map}
use Rattle.cxx_page.specs.Sheets.{put_lines}
use Rattle.cxx_statement_text.specs.Written.{object_line_at}
use Rattle.cxx_statement_text.proofs.objects.write_objects.Given as goal

abbrev pub invariant-loop-number : goal.invariant-loop-number
invariant-loop-number g l = put_lines (flat_map (object_line_at (g.N.Names.named l.names) (g.N.StatementNames.value l.names) l.is_static l.depth) (drop l.number-index l.numbers)) l.page ≡ put_lines (flat_map (object_line_at (g.N.Names.named l.names) (g.N.StatementNames.value l.names) l.is_static l.depth) l.numbers) l.initial.page
