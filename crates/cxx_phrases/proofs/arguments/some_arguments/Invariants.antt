use Rattle.std.specs.Prelude.{◌-◌}
use Rattle.cxx_model.specs.declared.limits.TheConstants as limits
use Rattle.cxx_phrases.specs.Arguments.{argument_step, arguments_over, some_arguments}
use Rattle.cxx_reading.specs.Reads.{repeat}
use Rattle.cxx_cursor.specs.Looping.{IsTurning}
use Rattle.cxx_cursor.specs.Views.{AreTreesHeld, trees_held}
use Rattle.cxx_tree.specs.Held.{meaning}
use Rattle.cxx_phrases.proofs.arguments.some_arguments.Given as goal

abbrev pub invariant-loop-turn : goal.invariant-loop-turn
invariant-loop-turn g l =
    let inner = g.P.Phrases.inner l.fn.phrases in
    IsTurning (repeat (argument_step inner) arguments_over (limits.MOST_ARGUMENTS - l._turn) (trees_held l.state l.so_far) (meaning l.state) l.cursor) (some_arguments inner (meaning l.fn.state) l.fn.cursor) (AreTreesHeld l.state l.so_far) l.fn.state l.state
