use Rattle.std.proofs.Common.{rules, get_or, map, Option, true, ◌++◌}
use Rattle.cxx_model.specs.declared.types.FactId.{FactId}
use Rattle.cxx_page.specs.Sheets.{put, Sheet}
use Rattle.cxx_page.specs.Sides.{comma_unless}
use Rattle.cxx_phrase_text.specs.Listed.{listed_words}
use Rattle.cxx_form.specs.Parts.{base_at}
use Rattle.cxx_phrase_text.proofs.Listing.{ends, fails, goes_on, no_room}
use Rattle.cxx_form.proofs.bases.write_listed.Goals as goal

pub loop-number-preserved : goal.loop-number-preserved
loop-number-preserved c =
    goes_on (base_at c.args.book.now) c.args.numbers.now c.loop-number.is_first c.loop-number.number-index (record { 0 = 0 }) c.loop-number.page c.write_next.new.page _ c.loop-number-test.true c.loop-number.invariant c.in_ok-write_next.ensures

pub returns-in_err-write_next : goal.returns-in_err-write_next
returns-in_err-write_next c =
    let none : FactId = record { 0 = 0 } in
    let words = base_at c.args.book.now in
    let part : Option Sheet = put (comma_unless c.loop-number.is_first ++ words (get_or c.args.numbers.now c.loop-number.number-index none)) c.loop-number.page in
    let whole : Option Sheet = put (listed_words true (map words c.args.numbers.now)) c.args.page.now in
    let failed = fails c.in_err-write_next.field-0.0 c.write_next.new.page part whole (no_room words c.args.numbers.now c.loop-number.is_first c.loop-number.number-index none c.loop-number.page whole c.loop-number-test.true c.loop-number.invariant) c.in_err-write_next.ensures in
    search rules

pub returns : goal.returns
returns c = ends (base_at c.args.book.now) c.args.numbers.now c.loop-number.is_first c.loop-number.number-index c.loop-number.page _ c.loop-number-test.false c.loop-number.invariant
