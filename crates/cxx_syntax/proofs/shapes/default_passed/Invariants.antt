use Rattle.std.specs.Prelude.{◌≡◌, ◌-◌}
use Rattle.cxx_reading.specs.Reads.{give, repeat}
use Rattle.cxx_reading.specs.Shapes as shape
use Rattle.cxx_syntax.proofs.shapes.default_passed.Given as goal

abbrev pub invariant-loop-turn : goal.invariant-loop-turn
invariant-loop-turn l =
    repeat {S = Unit {0}} shape.default_step give (l.room - l._turn) (tt {0}) (tt {0}) l.cursor ≡ shape.default_passed (tt {0}) l.fn.cursor
