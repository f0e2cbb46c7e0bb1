use Rattle.std.proofs.Common.{ℕ, ◌≡◌}
use Rattle.cxx_reading.specs.Plain.{number_of_enumeration}
use Rattle.cxx_form.specs.Giving.{declared_or}
use Rattle.cxx_form.specs.Slots.{slot_at}
use Rattle.cxx_form.specs.Views.{facts_from, facts_in}
use Rattle.cxx_form.proofs.enumerations.declared.Given as goal

abbrev pub invariant-loop-number : goal.invariant-loop-number
invariant-loop-number l = (n : ℕ) → declared_or (slot_at l.slots n) (number_of_enumeration n l.number (facts_from l.state l.number)) ≡ number_of_enumeration n 0 (facts_in l.state)
