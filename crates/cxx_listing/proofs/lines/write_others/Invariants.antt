-- what is written and the lines of the candidates that are left are the whole
use Rattle.std.proofs.Common.{◌≡◌, ◌≤◌, ◌+◌, ◌++◌, length}
use Rattle.std.specs.Prelude.{flat_map}
use Rattle.cxx_form.specs.Views.{facts_in}
use Rattle.cxx_tree.specs.Held.{call_at, numbers_at}
use Rattle.cxx_listing.specs.Lines.{line_text, others_from}
use Rattle.cxx_listing.specs.Views.{others_of}
use Rattle.cxx_listing.proofs.lines.write_others.Given as goal

abbrev pub invariant-loop-numbers : goal.invariant-loop-numbers
invariant-loop-numbers l =
    (l.out.items ++ flat_map line_text (others_from (facts_in l.state) l.call.chosen l.position (numbers_at l.numbers) l.outcomes) ≡ l.initial.out.items ++ flat_map line_text (others_of (facts_in l.state) (call_at l.state.types l.call)))
    × (l.position + length l.numbers ≤ 1 + length l.call.candidates)

abbrev pub decreases-loop-numbers : goal.decreases-loop-numbers
decreases-loop-numbers l = length l.numbers
