use Rattle.std.specs.Prelude.{◌-◌}
use Rattle.cxx_phrases.specs.Initializers.{clause_step, some_clauses}
use Rattle.cxx_reading.specs.Reads.{give, repeat}
use Rattle.cxx_cursor.specs.Looping.{IsTurning}
use Rattle.cxx_cursor.specs.Views.{AreTreesHeld, trees_held}
use Rattle.cxx_tree.specs.Held.{meaning}
use Rattle.cxx_phrases.proofs.initializers.some_clauses.Given as goal

abbrev pub invariant-loop-turn : goal.invariant-loop-turn
invariant-loop-turn g l =
    let inner = g.P.Phrases.inner l.fn.phrases in
    IsTurning (repeat (clause_step inner) give (l._turn-end - l._turn) (trees_held l.state l.so_far) (meaning l.state) l.cursor) (some_clauses inner (meaning l.fn.state) l.fn.cursor) (AreTreesHeld l.state l.so_far) l.fn.state l.state
