use Rattle.std.specs.Prelude.{◌-◌}
use Rattle.cxx_reading.specs.Reads.{give, repeat}
use Rattle.cxx_statements.specs.Statements.{label_step, labels_in}
use Rattle.cxx_statements.specs.Views.{IsSeveral, around_of, several_of}
use Rattle.cxx_cursor.specs.Looping.{IsTurning}
use Rattle.cxx_tree.specs.Held.{meaning}
use Rattle.cxx_statements.proofs.labels.labels_in.Given as goal

abbrev pub invariant-loop-turn : goal.invariant-loop-turn
invariant-loop-turn g l =
    let asks = g.P.Parts.asks l.fn.parts l.fn.room in
    IsTurning (repeat (label_step asks) give (l._turn-end - l._turn) (several_of l.state l.so_far) (meaning l.state) l.cursor) (labels_in asks (around_of l.fn.state l.fn.around) (meaning l.fn.state) l.fn.cursor) (IsSeveral l.state l.so_far) l.fn.state l.state
