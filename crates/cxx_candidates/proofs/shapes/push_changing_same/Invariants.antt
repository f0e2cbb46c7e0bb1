use Rattle.std.proofs.Common.{◌≡◌, ◌++◌, take}
use Rattle.std.specs.List.{flat_map}
use Rattle.cxx_candidates.specs.Rows as rows
use Rattle.cxx_candidates.proofs.shapes.push_changing_same.Given as goal

abbrev pub invariant-loop-slot : goal.invariant-loop-slot
invariant-loop-slot l = l.list.items ≡ l.initial.list.items ++ flat_map rows.changing_same (take l.slot-index l.slots)
