-- what is left to write on the page is what was to be written on the first one
use Rattle.std.proofs.Common.{◌≡◌, ◌-◌}
use Rattle.cxx_page.specs.Sheets.{put}
use Rattle.cxx_statement_text.specs.Statements.{indent}
use Rattle.cxx_statement_text.proofs.lines.write_indent.Given as goal

abbrev pub invariant-loop : goal.invariant-loop
invariant-loop l = put (indent (l.depth - l.counter)) l.page ≡ put (indent l.depth) l.initial.page
