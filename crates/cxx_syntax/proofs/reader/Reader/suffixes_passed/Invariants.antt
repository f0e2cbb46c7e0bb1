use Rattle.std.specs.Prelude.{◌-◌}
use Rattle.cxx_reading.specs.Reads.{repeat}
use Rattle.cxx_reading.specs.Shapes as shape
use Rattle.cxx_cursor.specs.Looping.{IsTurning}
use Rattle.cxx_cursor.specs.Outlines.{outline_of}
use Rattle.cxx_tree.specs.Held.{meaning}
use Rattle.cxx_syntax.proofs.reader.Reader.suffixes_passed.Given as goal

abbrev pub invariant-loop-turn : goal.invariant-loop-turn
invariant-loop-turn g l =
    let asks = g.K.Kinds.asks l.fn.self.kinds.now l.fn.self.room in
    let inner = g.N.Nested.inner l.fn.self.nested.now in
    IsTurning (repeat (shape.suffix_step inner) shape.give_closed (l._turn-end - l._turn) (outline_of l.outline) (meaning l.state) l.cursor) (shape.suffixes_by inner (outline_of l.fn.outline) (meaning l.fn.state) l.fn.cursor) (Unit {0}) l.fn.state l.state
