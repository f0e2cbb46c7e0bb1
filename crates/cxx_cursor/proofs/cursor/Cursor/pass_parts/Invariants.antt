use Rattle.cxx_cursor.specs.Passing.{IsPassing, passed_at}
use Rattle.cxx_cursor.proofs.cursor.Cursor.pass_parts.Given as goal

abbrev pub invariant-loop-turn : goal.invariant-loop-turn
invariant-loop-turn l = IsPassing l.wanted l.self (passed_at l.fn.wanted l.fn.self) l._turn l._turn-end
