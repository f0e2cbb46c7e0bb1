use Rattle.std.proofs.Common.{◌≡◌, filter, length, take}
use Rattle.cxx_builtin.specs.Built.{list_at}
use Rattle.cxx_candidates.specs.Shapes.{ArePointeesKnown}
use Rattle.cxx_candidates.specs.Sources.{is_object}
use Rattle.cxx_candidates.proofs.answer.objects_among.Given as goal

abbrev pub invariant-loop-of : goal.invariant-loop-of
invariant-loop-of l = record { is : list_at l.types l.list.items ≡ filter is_object (list_at l.types (take l.of-index l.pointees)); known : ArePointeesKnown (length l.types) l.list.items }
