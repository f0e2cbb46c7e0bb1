use Rattle.std.specs.Prelude.{◌≤◌, ◌-◌}
use Rattle.cxx_reading.specs.Reads.{give, repeat}
use Rattle.cxx_reading.specs.Shapes as shape
use Rattle.cxx_cursor.specs.Looping.{IsTurning}
use Rattle.cxx_cursor.specs.Outlines.{outline_of}
use Rattle.cxx_tree.specs.Held.{meaning}
use Rattle.cxx_syntax.proofs.reader.Reader.prefix_passed.Given as goal

abbrev pub invariant-loop-turn : goal.invariant-loop-turn
invariant-loop-turn g l =
    let asks = g.K.Kinds.asks l.fn.self.kinds.now l.fn.self.room in
    IsTurning (repeat (shape.prefix_step asks) give (l._turn-end - l._turn) (outline_of l.outline) (meaning l.state) l.cursor) (shape.prefix_passed asks (meaning l.fn.state) l.fn.cursor) (l.outline.brackets ≤ l._turn) l.fn.state l.state
