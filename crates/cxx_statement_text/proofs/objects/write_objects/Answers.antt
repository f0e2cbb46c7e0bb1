use Rattle.std.proofs.Common.{rules, get_or, length, Option}
use Rattle.std.specs.Prelude.{flat_map}
use Rattle.cxx_model.specs.declared.types.TreeId.{TreeId}
use Rattle.cxx_page.specs.Sheets.{put_lines, Sheet}
use Rattle.cxx_phrase_text.specs.Named.{trees_of}
use Rattle.cxx_phrase_text.proofs.Listing.{fails}
use Rattle.cxx_phrase_text.proofs.Parts.{child_below}
use Rattle.cxx_statement_text.specs.Statements.{Lines}
use Rattle.cxx_statement_text.specs.Written.{object_line_at}
use Rattle.cxx_statement_text.proofs.Lining.{lines_end, lines_on, no_lines_on}
use Rattle.cxx_statement_text.proofs.objects.write_objects.Goals as goal

pub write_line-requires-clause-known : goal.write_line-requires-clause-known
write_line-requires-clause-known g c = child_below (length (trees_of (g.N.Names.named c.args.names.now))) c.args.numbers.now c.loop-number.number-index (record { 0 = 0 }) c.requires.below c.loop-number-test.true

pub loop-number-preserved : goal.loop-number-preserved
loop-number-preserved g c =
    lines_on (object_line_at (g.N.Names.named c.args.names.now) (g.N.StatementNames.value c.args.names.now) c.args.is_static c.args.depth) c.args.numbers.now c.loop-number.number-index (record { 0 = 0 }) c.loop-number.page c.write_line.new.page _ c.loop-number-test.true c.loop-number.invariant c.in_ok-write_line.ensures

pub returns-in_err-write_line : goal.returns-in_err-write_line
returns-in_err-write_line g c =
    let none : TreeId = record { 0 = 0 } in
    let lines : TreeId → Lines = (object_line_at (g.N.Names.named c.args.names.now) (g.N.StatementNames.value c.args.names.now) c.args.is_static c.args.depth) in
    let part : Option Sheet = put_lines (lines (get_or c.args.numbers.now c.loop-number.number-index none)) c.loop-number.page in
    let whole : Option Sheet = put_lines (flat_map lines c.args.numbers.now) c.args.page.now in
    let failed = fails c.in_err-write_line.field-0.0 c.write_line.new.page part whole (no_lines_on lines c.args.numbers.now c.loop-number.number-index none c.loop-number.page whole c.loop-number-test.true c.loop-number.invariant) c.in_err-write_line.ensures in
    search rules

pub returns : goal.returns
returns g c = lines_end (object_line_at (g.N.Names.named c.args.names.now) (g.N.StatementNames.value c.args.names.now) c.args.is_static c.args.depth) c.args.numbers.now c.loop-number.number-index c.loop-number.page _ c.loop-number-test.false c.loop-number.invariant
