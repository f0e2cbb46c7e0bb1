use Rattle.std.specs.Prelude.{◌≡◌, ◌-◌}
use Rattle.cxx_later.specs.Passing.{forward_step, forward_to}
use Rattle.cxx_reading.specs.Reads.{give, repeat}
use Rattle.cxx_tree.specs.Held.{meaning}
use Rattle.cxx_later.proofs.passing.forward_to.Given as goal

abbrev pub invariant-loop-turn : goal.invariant-loop-turn
invariant-loop-turn l =
    repeat (forward_step l.count) give (l._turn-end - l._turn) (tt {0}) (meaning l.fn.state) l.cursor ≡ forward_to l.fn.count (meaning l.fn.state) l.fn.cursor
