use Rattle.std.proofs.Common.{◌≡◌, ◌≤◌, ◌+◌, ◌-◌, ◌*◌, ◌++◌, drop, length}
use Rattle.std.specs.List.{filter_map}
use Rattle.cxx_model.specs.Facts.Declarations.{graph_at}
use Rattle.cxx_overload.specs.Choices.{tie}
use Rattle.cxx_overload.specs.Contests.{contenders_at}
use Rattle.cxx_overload.proofs.champion.ties.Given as goal

abbrev pub invariant-loop-place : goal.invariant-loop-place
invariant-loop-place g l = record {
  same : l.evidence.items ++ filter_map (tie (graph_at l.types l.graph) (contenders_at l.types l.object l.operands l.viable)) (drop l.place (contenders_at l.types l.object l.operands l.viable)) ≡ filter_map (tie (graph_at l.types l.graph) (contenders_at l.types l.object l.operands l.viable)) (contenders_at l.types l.object l.operands l.viable);
  counted : l.steps ≤ l.initial.steps + l.place * (length l.viable - 1);
}
