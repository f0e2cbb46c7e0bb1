use Rattle.std.proofs.Common.{rules, get_or, length, Option}
use Rattle.std.specs.Prelude.{flat_map}
use Rattle.cxx_page.specs.Sheets.{put_lines, Sheet}
use Rattle.cxx_form.specs.declared.lines.Line.{Line}
use Rattle.cxx_form.specs.declared.lines.Line.TheVariants as line
use Rattle.cxx_form.specs.Books.{trees_of}
use Rattle.cxx_form.specs.Parts.{lines_written}
use Rattle.cxx_form.proofs.Lining.{line_below}
use Rattle.cxx_phrase_text.proofs.Listing.{fails}
use Rattle.cxx_statement_text.proofs.Lining.{lines_end, lines_on, no_lines_on}
use Rattle.cxx_form.proofs.text.write_lines.Goals as goal

abbrev none : Line
none = line.Class (record { 0 = 0 })

pub write_line-requires-clause-below : goal.write_line-requires-clause-below
write_line-requires-clause-below c = line_below (length (trees_of c.args.book.now)) c.args.lines.now c.loop-line.line-index none c.requires.below c.loop-line-test.true

pub loop-line-preserved : goal.loop-line-preserved
loop-line-preserved c =
    lines_on (lines_written c.args.book.now) c.args.lines.now c.loop-line.line-index none c.loop-line.page c.write_line.new.page _ c.loop-line-test.true c.loop-line.invariant c.in_ok-write_line.ensures

pub returns-in_err-write_line : goal.returns-in_err-write_line
returns-in_err-write_line c =
    let lines = lines_written c.args.book.now in
    let part : Option Sheet = put_lines (lines (get_or c.args.lines.now c.loop-line.line-index none)) c.loop-line.page in
    let whole : Option Sheet = put_lines (flat_map lines c.args.lines.now) c.args.page.now in
    let failed = fails c.in_err-write_line.field-0.0 c.write_line.new.page part whole (no_lines_on lines c.args.lines.now c.loop-line.line-index none c.loop-line.page whole c.loop-line-test.true c.loop-line.invariant) c.in_err-write_line.ensures in
    search rules

pub returns : goal.returns
returns c = lines_end (lines_written c.args.book.now) c.args.lines.now c.loop-line.line-index c.loop-line.page _ c.loop-line-test.false c.loop-line.invariant
