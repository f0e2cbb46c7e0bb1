-- what is left to write on the page is what was to be written on the first one
use Rattle.std.proofs.Common.{◌≡◌, length}
use Rattle.cxx_page.specs.Sheets.{put_lines}
use Rattle.cxx_form.specs.Parts.{members_at}
use Rattle.cxx_form.proofs.classes.write_members.Given as goal

abbrev pub invariant-loop-left : goal.invariant-loop-left
invariant-loop-left l = put_lines (members_at l.book l.left) l.page ≡ put_lines (members_at l.book l.numbers) l.initial.page

abbrev pub decreases-loop-left : goal.decreases-loop-left
decreases-loop-left l = length l.left
