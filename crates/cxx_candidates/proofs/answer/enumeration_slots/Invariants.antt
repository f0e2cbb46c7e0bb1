use Rattle.std.proofs.Common.{map, take}
use Rattle.cxx_model.specs.Types.Trees.{enumeration}
use Rattle.cxx_candidates.specs.Shapes.{numbers_at, AreSlots}
use Rattle.cxx_candidates.proofs.answer.enumeration_slots.Given as goal

abbrev pub invariant-loop-number : goal.invariant-loop-number
invariant-loop-number l = AreSlots l.graph l.types l.slots.items (map enumeration (numbers_at (take l.number-index l.numbers)))
