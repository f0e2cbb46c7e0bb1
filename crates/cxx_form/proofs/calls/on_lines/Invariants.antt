-- what is found so far and the rest are all
use Rattle.std.proofs.Common.{◌≡◌, ◌++◌, drop, map}
use Rattle.std.specs.Prelude.{flat_map}
use Rattle.cxx_phrase_text.specs.Listing.{call_of}
use Rattle.cxx_tree.specs.Held.{trees}
use Rattle.cxx_form.specs.Lines.{lines_at}
use Rattle.cxx_form.specs.Text.{calls_on}
use Rattle.cxx_form.specs.Views.{facts_in}
use Rattle.cxx_form.proofs.calls.on_lines.Given as goal

abbrev pub invariant-loop-line : goal.invariant-loop-line
invariant-loop-line l = map call_of l.found.items ++ flat_map (calls_on (facts_in l.state)) (lines_at (trees l.state) (drop l.line-index l.lines)) ≡ flat_map (calls_on (facts_in l.state)) (lines_at (trees l.state) l.lines)
