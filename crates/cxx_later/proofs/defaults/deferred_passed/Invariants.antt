use Rattle.std.specs.Prelude.{◌≡◌, ◌-◌}
use Rattle.cxx_later.specs.Passing.{never_closed}
use Rattle.cxx_later.specs.Defaults.{deferred_passed, deferred_step}
use Rattle.cxx_reading.specs.Reads.{repeat}
use Rattle.cxx_later.proofs.defaults.deferred_passed.Given as goal

abbrev pub invariant-loop-turn : goal.invariant-loop-turn
invariant-loop-turn l =
    repeat deferred_step never_closed (l._turn-end - l._turn) l.closers.items (tt {0}) l.cursor ≡ deferred_passed (tt {0}) l.fn.cursor
