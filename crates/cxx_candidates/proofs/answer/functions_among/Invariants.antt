use Rattle.std.proofs.Common.{◌≡◌, filter, length, take}
use Rattle.cxx_builtin.specs.Built.{list_at}
use Rattle.cxx_candidates.specs.Shapes.{ArePointeesKnown}
use Rattle.cxx_meaning.specs.Conversions.Kinds.{is_function}
use Rattle.cxx_candidates.proofs.answer.functions_among.Given as goal

abbrev pub invariant-loop-of : goal.invariant-loop-of
invariant-loop-of l = record { is : list_at l.types l.list.items ≡ filter is_function (list_at l.types (take l.of-index l.pointees)); known : ArePointeesKnown (length l.types) l.list.items }
