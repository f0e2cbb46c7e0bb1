use Rattle.std.proofs.Common.{◌≡◌, take, false}
use Rattle.std.specs.List.{list_any}
use Rattle.cxx_model.specs.Types.Numbers.{type_at}
use Rattle.cxx_model.specs.Types.Same.{same_type}
use Rattle.cxx_builtin.specs.Built.{list_at}
use Rattle.cxx_candidates.proofs.letters.is_there.Given as goal

abbrev pub invariant-loop-other : goal.invariant-loop-other
invariant-loop-other l = list_any (same_type (type_at l.types l.of.0)) (list_at l.types (take l.other-index l.list)) ≡ false
