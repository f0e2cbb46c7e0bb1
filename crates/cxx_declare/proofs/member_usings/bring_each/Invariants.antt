use Rattle.std.proofs.Common.{◌≡◌, ◌≤◌, drop, length}
use Rattle.cxx_reading.specs.Trees.{last_part}
use Rattle.cxx_declare.specs.MemberUsings.{bring_members}
use Rattle.cxx_tree.specs.Arena.{path_at}
use Rattle.cxx_tree.specs.Held.{meaning}
use Rattle.cxx_tree.specs.Later.{Later}
use Rattle.cxx_declare.proofs.member_usings.bring_each.Given as goal

abbrev pub invariant-loop-target : goal.invariant-loop-target
invariant-loop-target l = record {
  rest : bring_members l.label l.count (last_part (path_at l.path).parts) (drop l.target-index l.targets) (meaning l.state) ≡ bring_members l.label l.count (last_part (path_at l.path).parts) l.targets (meaning l.fn.state);
  later : Later l.fn.state l.state;
  longer : l.count ≤ length l.state.graph.facts;
}
