use Rattle.std.proofs.Common.{◌≡◌, ◌++◌, take}
use Rattle.cxx_candidates.specs.Rows as rows
use Rattle.cxx_candidates.proofs.shapes.push_changing_beside.Given as goal

abbrev pub invariant-loop-other : goal.invariant-loop-other
invariant-loop-other l = l.list.items ≡ l.initial.list.items ++ rows.changing_beside (take l.other-index l.others) l.first
