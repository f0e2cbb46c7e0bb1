use Rattle.std.specs.Prelude.{◌-◌}
use Rattle.cxx_reading.specs.Reads.{repeat}
use Rattle.cxx_reading.specs.Shapes as shape
use Rattle.cxx_cursor.specs.Looping.{IsTurning}
use Rattle.cxx_tree.specs.Held.{meaning}
use Rattle.cxx_syntax.proofs.reader.Reader.run_passed.Given as goal

abbrev pub invariant-loop-turn : goal.invariant-loop-turn
invariant-loop-turn g l =
    let asks = g.K.Kinds.asks l.fn.self.kinds.now l.fn.self.room in
    IsTurning (repeat (shape.run_step asks) shape.give_ended (l._turn-end - l._turn) l.typed (meaning l.state) l.cursor) (shape.run_passed asks (meaning l.fn.state) l.fn.cursor) (Unit {0}) l.fn.state l.state
