use Rattle.std.proofs.Common.{◌≡◌, ◌++◌, take}
use Rattle.std.specs.List.{flat_map}
use Rattle.cxx_candidates.specs.Rows as rows
use Rattle.cxx_candidates.proofs.shapes.push_changing_both.Given as goal

abbrev pub invariant-loop-first : goal.invariant-loop-first
invariant-loop-first l = l.list.items ≡ l.initial.list.items ++ flat_map (rows.changing_beside l.others) (take l.first-index l.firsts)
