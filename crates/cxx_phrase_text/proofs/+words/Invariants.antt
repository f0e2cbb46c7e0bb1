-- what is left to write on the page is what was to be written on the first one
use Rattle.std.proofs.Common.{true, ◌≡◌, ◌+◌, ◌*◌, drop, map}
use Rattle.cxx_page.specs.Sheets.{put}
use Rattle.cxx_phrase_text.specs.Listed.{listed_words}
use Rattle.cxx_phrase_text.specs.Written.{element_at}
use Rattle.cxx_phrase_text.proofs.+words.Given as goal

abbrev pub decreases-operands::write_found : goal.decreases-operands::write_found
decreases-operands::write_found g l = 16 * l.end.0

abbrev pub decreases-operands::write_found_operand : goal.decreases-operands::write_found_operand
decreases-operands::write_found_operand g l = 16 * l.end.0

abbrev pub decreases-lists::write_next : goal.decreases-lists::write_next
decreases-lists::write_next g l = 16 * l.end.0

abbrev pub decreases-operands::write_operand_part : goal.decreases-operands::write_operand_part
decreases-operands::write_operand_part g l = 16 * l.end.0 + 1

abbrev pub decreases-operands::write_part : goal.decreases-operands::write_part
decreases-operands::write_part g l = 16 * l.end.0 + 1

abbrev pub decreases-lists::write_elements : goal.decreases-lists::write_elements
decreases-lists::write_elements g l = 16 * l.end.0 + 1

abbrev pub decreases-operands::write_last : goal.decreases-operands::write_last
decreases-operands::write_last g l = 16 * l.end.0 + 1

abbrev pub decreases-lists::write_callee : goal.decreases-lists::write_callee
decreases-lists::write_callee g l = 16 * l.end.0 + 2

abbrev pub decreases-operators::write_index : goal.decreases-operators::write_index
decreases-operators::write_index g l = 16 * l.end.0 + 2

abbrev pub decreases-operators::write_postfix : goal.decreases-operators::write_postfix
decreases-operators::write_postfix g l = 16 * l.end.0 + 2

abbrev pub decreases-operators::write_prefix : goal.decreases-operators::write_prefix
decreases-operators::write_prefix g l = 16 * l.end.0 + 2

abbrev pub decreases-operators::write_right : goal.decreases-operators::write_right
decreases-operators::write_right g l = 16 * l.end.0 + 2

abbrev pub decreases-operators::write_otherwise : goal.decreases-operators::write_otherwise
decreases-operators::write_otherwise g l = 16 * l.end.0 + 2

abbrev pub decreases-lists::write_braces : goal.decreases-lists::write_braces
decreases-lists::write_braces g l = 16 * l.end.0 + 2

abbrev pub decreases-lists::write_arguments : goal.decreases-lists::write_arguments
decreases-lists::write_arguments g l = 16 * l.end.0 + 2

abbrev pub decreases-operators::write_arms : goal.decreases-operators::write_arms
decreases-operators::write_arms g l = 16 * l.end.0 + 3

abbrev pub decreases-operators::write_infix : goal.decreases-operators::write_infix
decreases-operators::write_infix g l = 16 * l.end.0 + 3

abbrev pub decreases-operators::write_subscript : goal.decreases-operators::write_subscript
decreases-operators::write_subscript g l = 16 * l.end.0 + 3

abbrev pub decreases-lists::write_call : goal.decreases-lists::write_call
decreases-lists::write_call g l = 16 * l.end.0 + 3

abbrev pub decreases-operators::write_cast : goal.decreases-operators::write_cast
decreases-operators::write_cast g l = 16 * l.end.0 + 3

abbrev pub decreases-operators::write_conditional : goal.decreases-operators::write_conditional
decreases-operators::write_conditional g l = 16 * l.end.0 + 4

abbrev pub decreases-expressions::write_initial : goal.decreases-expressions::write_initial
decreases-expressions::write_initial g l = 16 * l.number.0 + 4

abbrev pub decreases-expressions::write_form : goal.decreases-expressions::write_form
decreases-expressions::write_form g l = 16 * l.number.0 + 5

abbrev pub decreases-expressions::write_expression : goal.decreases-expressions::write_expression
decreases-expressions::write_expression g l = 16 * l.number.0 + 6

abbrev pub decreases-operands::write_bracketed : goal.decreases-operands::write_bracketed
decreases-operands::write_bracketed g l = 16 * l.number.0 + 7

abbrev pub decreases-operands::write_operand : goal.decreases-operands::write_operand
decreases-operands::write_operand g l = 16 * l.number.0 + 8

abbrev pub decreases-operands::write_element : goal.decreases-operands::write_element
decreases-operands::write_element g l = 16 * l.number.0 + 8

abbrev pub invariant-lists::write_elements-loop-part : goal.invariant-lists::write_elements-loop-part
invariant-lists::write_elements-loop-part g l = put (listed_words l.is_first (map (element_at (g.N.Names.named l.names)) (drop l.part-index l.parts))) l.page ≡ put (listed_words true (map (element_at (g.N.Names.named l.names)) l.parts)) l.initial.page

abbrev pub decreases-members::write_member : goal.decreases-members::write_member
decreases-members::write_member g l = 16 * l.end.0 + 3

abbrev pub decreases-members::write_pointed : goal.decreases-members::write_pointed
decreases-members::write_pointed g l = 16 * l.end.0 + 3

abbrev pub decreases-members::write_arrow : goal.decreases-members::write_arrow
decreases-members::write_arrow g l = 16 * l.end.0 + 4
