use Rattle.std.specs.Prelude.{◌≡◌, ◌≤◌, ◌-◌}
use Rattle.cxx_heads.specs.Heads.{give_no_name, name_passed, name_step}
use Rattle.cxx_reading.specs.Reads.{repeat}
use Rattle.cxx_heads.proofs.names.name_passed.Given as goal

abbrev pub invariant-loop-turn : goal.invariant-loop-turn
invariant-loop-turn l =
    (repeat {S = Unit {0}} name_step give_no_name (l._turn-end - l._turn) l.shape (tt {0}) l.cursor ≡ name_passed (tt {0}) l.fn.cursor) × (l.shape.brackets ≤ l._turn)
