use Rattle.std.proofs.Common.{◌≡◌, ◌++◌, take, map}
use Rattle.cxx_candidates.specs.Rows as rows
use Rattle.cxx_candidates.proofs.shapes.push_twice.Given as goal

abbrev pub invariant-loop-slot : goal.invariant-loop-slot
invariant-loop-slot l = l.list.items ≡ l.initial.list.items ++ map rows.twice (take l.slot-index l.slots)
