use Rattle.std.specs.Prelude.{◌≡◌, ◌-◌}
use Rattle.cxx_later.specs.Passing.{body_passed, never_closed, passing_step}
use Rattle.cxx_reading.specs.Reads.{repeat}
use Rattle.cxx_later.proofs.passing.body_passed.Given as goal

abbrev pub invariant-loop-turn : goal.invariant-loop-turn
invariant-loop-turn l =
    repeat passing_step never_closed (l._turn-end - l._turn) l.closers.items (tt {0}) l.cursor ≡ body_passed (tt {0}) l.fn.cursor
