use Rattle.std.proofs.Common.{◌≡◌, ◌++◌, drop, map, length}
use Rattle.cxx_overload.specs.Calls.{row_of}
use Rattle.cxx_overload.specs.Contests.{contenders_at}
use Rattle.cxx_overload.specs.Views.{object_at}
use Rattle.cxx_tree.specs.Held.{rows_at, AreRowsBelow}
use Rattle.cxx_answers.proofs.record.rows.Given as goal

abbrev pub invariant-loop-one : goal.invariant-loop-one
invariant-loop-one l = record {
  same : rows_at l.types l.found ++ map (row_of (object_at l.types l.object)) (contenders_at l.types l.object l.operands (drop l.one-index l.viable)) ≡ map (row_of (object_at l.types l.object)) (contenders_at l.types l.object l.operands l.viable);
  below : AreRowsBelow (length l.types) l.found;
}
