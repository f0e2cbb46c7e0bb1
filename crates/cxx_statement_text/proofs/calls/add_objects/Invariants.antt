-- what is found so far and the rest are all
use Rattle.std.proofs.Common.{◌≡◌, ◌++◌, drop, map}
use Rattle.std.specs.Prelude.{flat_map}
use Rattle.cxx_phrase_text.specs.Listing.{call_of}
use Rattle.cxx_tree.specs.Arena.{trees_in}
use Rattle.cxx_tree.specs.Held.{trees}
use Rattle.cxx_statement_text.specs.Calls.{object_calls}
use Rattle.cxx_statement_text.proofs.calls.add_objects.Given as goal

abbrev pub invariant-loop-number : goal.invariant-loop-number
invariant-loop-number l = map call_of l.found.items ++ flat_map object_calls (trees_in (trees l.state) (drop l.number-index l.numbers)) ≡ map call_of l.initial.found.items ++ flat_map object_calls (trees_in (trees l.state) l.numbers)
