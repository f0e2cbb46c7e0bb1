use Rattle.std.specs.Prelude.{◌≡◌, ◌-◌}
use Rattle.cxx_heads.specs.Heads.{bound_step, bounds_passed}
use Rattle.cxx_reading.specs.Reads.{repeat}
use Rattle.cxx_reading.specs.Shapes.{give_false}
use Rattle.cxx_heads.proofs.suffixes.bounds_passed.Given as goal

abbrev pub invariant-loop-turn : goal.invariant-loop-turn
invariant-loop-turn l =
    repeat {S = Unit {0}} bound_step give_false (l._turn-end - l._turn) (tt {0}) (tt {0}) l.cursor ≡ bounds_passed (tt {0}) l.fn.cursor
