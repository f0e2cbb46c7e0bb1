use Rattle.std.proofs.Common.{map, take}
use Rattle.cxx_model.specs.Types.Trees.{pointer_to}
use Rattle.cxx_builtin.specs.Built.{list_at}
use Rattle.cxx_candidates.specs.Shapes.{AreSlots}
use Rattle.cxx_candidates.proofs.answer.pointer_slots.Given as goal

abbrev pub invariant-loop-to : goal.invariant-loop-to
invariant-loop-to l = AreSlots l.graph l.types l.slots.items (map pointer_to (list_at l.types (take l.to-index l.pointees)))
