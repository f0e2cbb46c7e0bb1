use Rattle.std.specs.Prelude.{◌-◌}
use Rattle.cxx_reading.specs.Reads.{count_ahead, give, repeat}
use Rattle.cxx_language.specs.Units.{unit_step}
use Rattle.cxx_cursor.specs.Looping.{IsTurning}
use Rattle.cxx_tree.specs.Held.{meaning}
use Rattle.cxx_space.proofs.unit.unit_steps.Given as goal

abbrev pub invariant-loop-turn : goal.invariant-loop-turn
invariant-loop-turn g l =
    IsTurning (repeat unit_step give (l._turn-end - l._turn) (tt {0}) (meaning l.state) l.cursor) (repeat unit_step give (count_ahead l.fn.cursor) (tt {0}) (meaning l.fn.state) l.fn.cursor) (Unit {0}) l.fn.state l.state
