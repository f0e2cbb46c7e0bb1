use Rattle.std.specs.Prelude.{◌≡◌, ◌-◌}
use Rattle.cxx_reading.specs.Reads.{give, repeat}
use Rattle.cxx_reading.specs.Syntax.{cv_at, cv_step}
use Rattle.cxx_syntax.proofs.cv.cv_at.Given as goal

abbrev pub invariant-loop-turn : goal.invariant-loop-turn
invariant-loop-turn l = repeat {S = Unit {0}} cv_step give (l._turn-end - l._turn) l.cv (tt {0}) l.cursor ≡ cv_at (tt {0}) l.fn.cursor
