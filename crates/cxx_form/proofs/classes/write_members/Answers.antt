use Rattle.std.proofs.Common.{rules, get_or, refl, List, Option}
use Rattle.cxx_model.specs.declared.types.FactId.{FactId}
use Rattle.cxx_page.specs.Sheets.{put_lines, Sheet}
use Rattle.cxx_form.specs.Parts.{members_at}
use Rattle.cxx_form.proofs.Membered.{members_end, members_go, members_stop}
use Rattle.cxx_form.proofs.classes.write_members.Goals as goal

abbrev none : FactId
none = record { 0 = 0 }

pub loop-left-preserved : goal.loop-left-preserved
loop-left-preserved c =
    members_go c.args.book.now c.loop-left.left.now (get_or c.loop-left.left.now 0 none) none c.value_next.result c.loop-left.page c.write_first.new.page _ c.in-len1-up.len_at_least refl c.value_next.ensures c.loop-left.invariant c.in_ok-write_first.ensures

pub returns-in_err-write_first : goal.returns-in_err-write_first
returns-in_err-write_first c =
    let left : List FactId = c.loop-left.left.now in
    let whole : Option Sheet = put_lines (members_at c.args.book.now c.args.numbers.now) c.args.page.now in
    let failed = members_stop c.args.book.now left (get_or left 0 none) none c.value_next.result c.loop-left.page c.write_first.new.page whole c.in_err-write_first.field-0.0 c.in-len1-up.len_at_least refl c.value_next.ensures c.loop-left.invariant c.in_err-write_first.ensures in
    search rules

pub returns : goal.returns
returns c = members_end c.args.book.now c.loop-left.left.now c.loop-left.page _ c.in_default.len_below c.loop-left.invariant
