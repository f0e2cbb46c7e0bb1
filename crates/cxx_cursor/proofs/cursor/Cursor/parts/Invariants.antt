use Rattle.cxx_cursor.specs.Passing.{IsCollecting, passed_at}
use Rattle.cxx_tree.specs.Arena.{path_parts_at}
use Rattle.cxx_cursor.proofs.cursor.Cursor.parts.Given as goal

abbrev pub invariant-loop-turn : goal.invariant-loop-turn
invariant-loop-turn l = IsCollecting (path_parts_at l.parts) l.wanted l.ahead (passed_at l.fn.wanted l.fn.self) l._turn l._turn-end
