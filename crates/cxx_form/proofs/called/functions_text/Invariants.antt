-- what is written so far and the rest are all
use Rattle.std.proofs.Common.{◌≡◌, ◌++◌, drop, map}
use Rattle.cxx_tree.specs.Held.{meaning}
use Rattle.cxx_form.specs.Called.{any_long, functions_from, target_of}
use Rattle.cxx_form.proofs.called.functions_text.Given as goal

abbrev pub invariant-loop-call : goal.invariant-loop-call
invariant-loop-call l =
    (l.text.items ++ functions_from (meaning l.book.state.now) (map target_of (drop l.call-index l.calls)) ≡ functions_from (meaning l.book.state.now) (map target_of l.calls))
    × (any_long (meaning l.book.state.now) (map target_of (drop l.call-index l.calls)) ≡ any_long (meaning l.book.state.now) (map target_of l.calls))
