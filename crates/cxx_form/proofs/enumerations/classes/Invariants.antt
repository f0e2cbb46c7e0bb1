use Rattle.std.proofs.Common.{ℕ, ◌≡◌}
use Rattle.cxx_form.specs.Giving.{declared_or}
use Rattle.cxx_form.specs.Order.{number_of_class}
use Rattle.cxx_form.specs.Slots.{slot_at}
use Rattle.cxx_form.specs.Views.{facts_from, facts_in}
use Rattle.cxx_form.proofs.enumerations.classes.Given as goal

abbrev pub invariant-loop-number : goal.invariant-loop-number
invariant-loop-number l = (n : ℕ) → declared_or (slot_at l.slots n) (number_of_class n l.number (facts_from l.state l.number)) ≡ number_of_class n 0 (facts_in l.state)
