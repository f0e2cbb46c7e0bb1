use Rattle.std.specs.Prelude.{◌+◌, ◌*◌, ◌-◌}
use Rattle.cxx_phrases.specs.Levels.{binary_at, operation_step, operations_at}
use Rattle.cxx_reading.specs.Reads.{give, repeat}
use Rattle.cxx_cursor.specs.Asking.{IsTreeKnown}
use Rattle.cxx_cursor.specs.Looping.{IsTurning}
use Rattle.cxx_tree.specs.Held.{meaning, tree}
use Rattle.cxx_phrases.proofs.levels.+binary.Given as goal

abbrev pub decreases-operation : goal.decreases-operation
decreases-operation g l = 5 * l.level

abbrev pub decreases-operation_step : goal.decreases-operation_step
decreases-operation_step g l = 5 * l.level + 1

abbrev pub decreases-operations_at : goal.decreases-operations_at
decreases-operations_at g l = 5 * l.level + 2

abbrev pub decreases-operations_part : goal.decreases-operations_part
decreases-operations_part g l = 5 * l.level + 3

abbrev pub decreases-binary_at : goal.decreases-binary_at
decreases-binary_at g l = 5 * l.level + 4

abbrev pub invariant-operations_at-loop-turn : goal.invariant-operations_at-loop-turn
invariant-operations_at-loop-turn g l =
    let asks = g.P.Phrases.asks l.fn.phrases in
    let below = binary_at asks (g.P.Phrases.inner l.fn.phrases) (l.fn.level - 1) in
    IsTurning (repeat (operation_step asks below l.fn.level l.fn.from) give (l._turn-end - l._turn) (tree l.state l.so_far) (meaning l.state) l.cursor) (operations_at asks below l.fn.level l.fn.from (tree l.fn.state l.fn.first) (meaning l.fn.state) l.fn.cursor) (IsTreeKnown l.state l.so_far) l.fn.state l.state
