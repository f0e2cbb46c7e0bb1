use Rattle.std.proofs.Common.{◌+◌, ◌-◌, length}
use Rattle.cxx_form.specs.Slots.{AreSameSlots}
use Rattle.cxx_form.proofs.slots.Slots.reach.Given as goal

abbrev pub invariant-loop-self : goal.invariant-loop-self
invariant-loop-self l = AreSameSlots l.fn.self l.self-inside.slots.items

abbrev pub decreases-loop-self : goal.decreases-loop-self
decreases-loop-self l = l.number + 1 - length l.self-inside.slots.items
