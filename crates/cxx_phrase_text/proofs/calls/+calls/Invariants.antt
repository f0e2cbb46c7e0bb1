-- what is found so far and the rest are all
use Rattle.std.proofs.Common.{◌≡◌, ◌+◌, ◌*◌, ◌++◌, drop, map}
use Rattle.cxx_phrase_text.specs.Calls.{all_of}
use Rattle.cxx_phrase_text.specs.Listing.{call_of, calls_of_parts}
use Rattle.cxx_phrase_text.proofs.calls.+calls.Given as goal

abbrev pub decreases-add_found : goal.decreases-add_found
decreases-add_found l = 8 * l.end.0

abbrev pub decreases-add_last : goal.decreases-add_last
decreases-add_last l = 8 * l.end.0 + 1

abbrev pub decreases-add_each : goal.decreases-add_each
decreases-add_each l = 8 * l.end.0

abbrev pub decreases-add_all : goal.decreases-add_all
decreases-add_all l = 8 * l.number.0 + 2

abbrev pub decreases-add_form : goal.decreases-add_form
decreases-add_form l = 8 * l.number.0 + 3

abbrev pub decreases-add_calls : goal.decreases-add_calls
decreases-add_calls l = 8 * l.number.0 + 4

abbrev pub invariant-add_each-loop-part : goal.invariant-add_each-loop-part
invariant-add_each-loop-part l = map call_of l.found.items ++ all_of (calls_of_parts l.state (drop l.part-index l.parts)) ≡ map call_of l.fn.found.items ++ all_of (calls_of_parts l.state l.parts)
