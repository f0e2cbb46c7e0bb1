-- what is left to write on the page is what was to be written on the first one
use Rattle.std.proofs.Common.{◌≡◌, ◌+◌, ◌*◌, drop}
use Rattle.std.specs.Prelude.{flat_map}
use Rattle.cxx_page.specs.Sheets.{put_lines}
use Rattle.cxx_statement_text.specs.Written.{lines_at, lines_or_empty_at}
use Rattle.cxx_statement_text.proofs.statements.+statements.Given as goal

abbrev pub decreases-write_next : goal.decreases-write_next
decreases-write_next g l = 16 * l.end.0

abbrev pub decreases-write_behind : goal.decreases-write_behind
decreases-write_behind g l = 16 * l.end.0

abbrev pub decreases-write_all : goal.decreases-write_all
decreases-write_all g l = 16 * l.end.0 + 1

abbrev pub decreases-write_each : goal.decreases-write_each
decreases-write_each g l = 16 * l.end.0 + 1

abbrev pub decreases-write_found : goal.decreases-write_found
decreases-write_found g l = 16 * l.end.0

abbrev pub decreases-write_otherwise_part : goal.decreases-write_otherwise_part
decreases-write_otherwise_part g l = 16 * l.end.0

abbrev pub decreases-write_part : goal.decreases-write_part
decreases-write_part g l = 16 * l.end.0 + 1

abbrev pub decreases-write_else : goal.decreases-write_else
decreases-write_else g l = 16 * l.end.0 + 1

abbrev pub decreases-write_labels : goal.decreases-write_labels
decreases-write_labels g l = 16 * l.end.0 + 2

abbrev pub decreases-write_braced : goal.decreases-write_braced
decreases-write_braced g l = 16 * l.end.0 + 2

abbrev pub decreases-write_closed : goal.decreases-write_closed
decreases-write_closed g l = 16 * l.end.0 + 2

abbrev pub decreases-write_branches : goal.decreases-write_branches
decreases-write_branches g l = 16 * l.end.0 + 2

abbrev pub decreases-write_do : goal.decreases-write_do
decreases-write_do g l = 16 * l.end.0 + 2

abbrev pub decreases-write_if : goal.decreases-write_if
decreases-write_if g l = 16 * l.end.0 + 3

abbrev pub decreases-write_switch : goal.decreases-write_switch
decreases-write_switch g l = 16 * l.end.0 + 3

abbrev pub decreases-write_rest : goal.decreases-write_rest
decreases-write_rest g l = 16 * l.end.0 + 3

abbrev pub decreases-write_declared_round : goal.decreases-write_declared_round
decreases-write_declared_round g l = 16 * l.end.0 + 4

abbrev pub decreases-write_round : goal.decreases-write_round
decreases-write_round g l = 16 * l.end.0 + 5

abbrev pub decreases-write_rounds : goal.decreases-write_rounds
decreases-write_rounds g l = 16 * l.end.0 + 6

abbrev pub decreases-write_while : goal.decreases-write_while
decreases-write_while g l = 16 * l.end.0 + 7

abbrev pub decreases-write_for : goal.decreases-write_for
decreases-write_for g l = 16 * l.end.0 + 8

abbrev pub decreases-write_for_rounds : goal.decreases-write_for_rounds
decreases-write_for_rounds g l = 16 * l.end.0 + 7

abbrev pub decreases-write_form : goal.decreases-write_form
decreases-write_form g l = 16 * l.number.0 + 10

abbrev pub decreases-write_inner : goal.decreases-write_inner
decreases-write_inner g l = 16 * l.number.0 + 11

abbrev pub decreases-write_block : goal.decreases-write_block
decreases-write_block g l = 16 * l.number.0 + 12

abbrev pub decreases-write_lines : goal.decreases-write_lines
decreases-write_lines g l = 16 * l.number.0 + 13

abbrev pub decreases-write_or_empty : goal.decreases-write_or_empty
decreases-write_or_empty g l = 16 * l.number.0 + 14

abbrev pub invariant-write_all-loop-part : goal.invariant-write_all-loop-part
invariant-write_all-loop-part g l = put_lines (flat_map (lines_at (g.N.Names.named l.names) (g.N.StatementNames.value l.names) l.depth) (drop l.part-index l.parts)) l.page ≡ put_lines (flat_map (lines_at (g.N.Names.named l.names) (g.N.StatementNames.value l.names) l.depth) l.parts) l.initial.page

abbrev pub invariant-write_each-loop-part : goal.invariant-write_each-loop-part
invariant-write_each-loop-part g l = put_lines (flat_map (lines_or_empty_at (g.N.Names.named l.names) (g.N.StatementNames.value l.names) l.depth) (drop l.part-index l.parts)) l.page ≡ put_lines (flat_map (lines_or_empty_at (g.N.Names.named l.names) (g.N.StatementNames.value l.names) l.depth) l.parts) l.initial.page
