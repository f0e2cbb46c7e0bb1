use Rattle.std.specs.Prelude.{◌≡◌, ◌-◌}
use Rattle.cxx_phrases.specs.Brackets.{closed_passed, closed_step, give_true}
use Rattle.cxx_reading.specs.Reads.{repeat}
use Rattle.cxx_phrases.proofs.brackets.closed_passed.Given as goal

abbrev pub invariant-loop-turn : goal.invariant-loop-turn
invariant-loop-turn l =
    repeat {S = Unit {0}} closed_step give_true (l.count - l._turn) (tt {0}) (tt {0}) l.cursor ≡ closed_passed l.fn.count (tt {0}) l.fn.cursor
