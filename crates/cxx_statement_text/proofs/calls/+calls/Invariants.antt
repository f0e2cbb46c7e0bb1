-- what is found so far and the rest are all
use Rattle.std.proofs.Common.{◌≡◌, ◌+◌, ◌*◌, ◌++◌, drop, map}
use Rattle.cxx_phrase_text.specs.Calls.{all_of}
use Rattle.cxx_phrase_text.specs.Listing.{call_of}
use Rattle.cxx_statement_text.specs.Listed.{calls_of_parts}
use Rattle.cxx_statement_text.proofs.calls.+calls.Given as goal

abbrev pub decreases-add_found : goal.decreases-add_found
decreases-add_found l = 8 * l.end.0

abbrev pub decreases-add_each : goal.decreases-add_each
decreases-add_each l = 8 * l.end.0

abbrev pub decreases-add_part : goal.decreases-add_part
decreases-add_part l = 8 * l.end.0 + 1

abbrev pub decreases-add_labels : goal.decreases-add_labels
decreases-add_labels l = 8 * l.end.0 + 2

abbrev pub decreases-add_branches : goal.decreases-add_branches
decreases-add_branches l = 8 * l.end.0 + 2

abbrev pub decreases-add_controlled : goal.decreases-add_controlled
decreases-add_controlled l = 8 * l.end.0 + 2

abbrev pub decreases-add_do : goal.decreases-add_do
decreases-add_do l = 8 * l.end.0 + 2

abbrev pub decreases-add_rounds : goal.decreases-add_rounds
decreases-add_rounds l = 8 * l.end.0 + 2

abbrev pub decreases-add_if : goal.decreases-add_if
decreases-add_if l = 8 * l.end.0 + 3

abbrev pub decreases-add_test_and_rounds : goal.decreases-add_test_and_rounds
decreases-add_test_and_rounds l = 8 * l.end.0 + 3

abbrev pub decreases-add_for : goal.decreases-add_for
decreases-add_for l = 8 * l.end.0 + 4

abbrev pub decreases-add_form : goal.decreases-add_form
decreases-add_form l = 8 * l.number.0 + 5

abbrev pub decreases-add_statement_calls : goal.decreases-add_statement_calls
decreases-add_statement_calls l = 8 * l.number.0 + 6

abbrev pub invariant-add_each-loop-part : goal.invariant-add_each-loop-part
invariant-add_each-loop-part l = map call_of l.found.items ++ all_of (calls_of_parts l.state (drop l.part-index l.parts)) ≡ map call_of l.fn.found.items ++ all_of (calls_of_parts l.state l.parts)
