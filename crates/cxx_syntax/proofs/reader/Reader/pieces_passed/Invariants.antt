use Rattle.std.specs.Prelude.{◌-◌}
use Rattle.cxx_reading.specs.Reads.{count_ahead, repeat}
use Rattle.cxx_reading.specs.Shapes as shape
use Rattle.cxx_cursor.specs.Looping.{IsTurning}
use Rattle.cxx_tree.specs.Held.{meaning}
use Rattle.cxx_syntax.proofs.reader.Reader.pieces_passed.Given as goal

abbrev pub invariant-loop-turn : goal.invariant-loop-turn
invariant-loop-turn g l =
    let asks = g.K.Kinds.asks l.fn.self.kinds.now l.fn.self.room in
    let inner = g.N.Nested.inner l.fn.self.nested.now in
    IsTurning (repeat (shape.piece_step asks inner) shape.give_false (l._turn-end - l._turn) (tt {0}) (meaning l.state) l.cursor) (repeat (shape.piece_step asks inner) shape.give_false (count_ahead l.fn.cursor) (tt {0}) (meaning l.fn.state) l.fn.cursor) (Unit {0}) l.fn.state l.state
