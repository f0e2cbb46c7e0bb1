use Rattle.std.specs.Prelude.{◌≡◌, ◌≤◌, ◌-◌}
use Rattle.cxx_phrases.specs.Brackets.{opened_over, opened_passed, opened_step}
use Rattle.cxx_reading.specs.Reads.{repeat}
use Rattle.cxx_phrases.proofs.brackets.opened_passed.Given as goal

abbrev pub invariant-loop-turn : goal.invariant-loop-turn
invariant-loop-turn l =
    (repeat {S = Unit {0}} opened_step opened_over (l.room - l._turn) l.count (tt {0}) l.cursor ≡ opened_passed l.fn.room (tt {0}) l.fn.cursor) × (l.count ≤ l._turn)
