use Rattle.std.specs.Prelude.{◌≡◌, ◌-◌}
use Rattle.cxx_heads.specs.Heads.{give_true, type_word_step, types_alone}
use Rattle.cxx_reading.specs.Reads.{repeat}
use Rattle.cxx_heads.proofs.conditions.types_alone.Given as goal

abbrev pub invariant-loop-turn : goal.invariant-loop-turn
invariant-loop-turn l =
    repeat {S = Unit {0}} type_word_step give_true (l.count - l._turn) (tt {0}) (tt {0}) l.cursor ≡ types_alone l.fn.count (tt {0}) l.fn.cursor
