use Rattle.std.proofs.Common.{rules, [], ◌∷◌, Option}
use Rattle.cxx_page.specs.Sheets.{put, Sheet}
use Rattle.cxx_phrase_text.proofs.Listing.{fails}
use Rattle.cxx_statement_text.specs.Statements.{indent}
use Rattle.cxx_statement_text.proofs.Indents.{goes_on, no_room, one, whole_written}
use Rattle.cxx_statement_text.proofs.lines.write_indent.Goals as goal

pub returns-in_err-word : goal.returns-in_err-word
returns-in_err-word c =
    let part : Option Sheet = put (one ∷ []) c.loop.page in
    let whole : Option Sheet = put (indent c.args.depth) c.args.page.now in
    let failed = fails c.in_err-word.field-0.0 c.word.new.self part whole (no_room c.args.depth c.loop.counter c.loop.page whole c.loop-test.true c.loop.invariant) c.in_err-word.ensures in
    search rules

pub loop-preserved : goal.loop-preserved
loop-preserved c = goes_on c.args.depth c.loop.counter c.loop.page c.word.new.self _ c.loop-test.true c.loop.invariant c.in_ok-word.ensures

pub returns : goal.returns
returns c = whole_written c.args.depth c.loop.counter c.loop.page _ c.loop-test.false c.loop.invariant
