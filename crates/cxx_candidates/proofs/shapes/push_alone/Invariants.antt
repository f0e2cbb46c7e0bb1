use Rattle.std.proofs.Common.{◌≡◌, ◌++◌, take, map}
use Rattle.cxx_candidates.specs.Rows as rows
use Rattle.cxx_candidates.proofs.shapes.push_alone.Given as goal

abbrev pub invariant-loop-slot : goal.invariant-loop-slot
invariant-loop-slot l = l.list.items ≡ l.initial.list.items ++ map rows.alone (take l.slot-index l.slots)
