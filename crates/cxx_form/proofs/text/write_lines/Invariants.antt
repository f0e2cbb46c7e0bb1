-- what is left to write on the page is what was to be written on the first one
use Rattle.std.proofs.Common.{◌≡◌, drop}
use Rattle.std.specs.Prelude.{flat_map}
use Rattle.cxx_page.specs.Sheets.{put_lines}
use Rattle.cxx_form.specs.Parts.{lines_written}
use Rattle.cxx_form.proofs.text.write_lines.Given as goal

abbrev pub invariant-loop-line : goal.invariant-loop-line
invariant-loop-line l = put_lines (flat_map (lines_written l.book) (drop l.line-index l.lines)) l.page ≡ put_lines (flat_map (lines_written l.book) l.lines) l.initial.page
