-- What the code's answer for a unit means.
use Rattle.std.specs.Prelude.{◌≡◌}
use Rattle.cxx_units.specs.Read.{reading_of}
use Rattle.cxx_command.specs.declared.unit.Outcome.{Outcome}
use Rattle.cxx_command.specs.declared.unit.Outcome.TheVariants as found
use Rattle.cxx_command.specs.Outcome.{UnitOutcome, Whole, Broken, PastLimit}
use Rattle.cxx_model.specs.declared.options.Options.{Options}

-- it is the outcome, unless there is no memory
abbrev pub IsOutcome : Options → UnitOutcome → Outcome → Type 0
IsOutcome options outcome (found.Whole state) = outcome ≡ Whole (reading_of options state)
IsOutcome options outcome (found.Broken fault) = outcome ≡ Broken fault.value
IsOutcome options outcome (found.PassesLimit limit) = outcome ≡ PastLimit limit
IsOutcome options outcome found.NoMemory = Unit {0}
