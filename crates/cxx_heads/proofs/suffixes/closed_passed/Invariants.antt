use Rattle.std.specs.Prelude.{◌-◌}
use Rattle.cxx_heads.specs.Heads.{closed_passed, closing_step, give_unclosed}
use Rattle.cxx_reading.specs.Reads.{repeat}
use Rattle.cxx_cursor.specs.Looping.{IsTurning}
use Rattle.cxx_tree.specs.Held.{meaning}
use Rattle.cxx_heads.proofs.suffixes.closed_passed.Given as goal

abbrev pub invariant-loop-turn : goal.invariant-loop-turn
invariant-loop-turn g l =
    let inner = g.N.Nested.inner l.fn.reader.nested.now in
    IsTurning (repeat (closing_step inner) give_unclosed (l._turn-end - l._turn) l.shape (meaning l.state) l.cursor) (closed_passed inner l.fn.shape (meaning l.fn.state) l.fn.cursor) (Unit {0}) l.fn.state l.state
