-- What the code says of a plain form that was read again.
use Rattle.std.specs.Prelude.{◌≡◌, ℕ, List, Option, Some, None}
use Rattle.cxx_command.specs.declared.again.Shown.{Shown}
use Rattle.cxx_command.specs.declared.again.Shown.TheVariants as shown
use Rattle.cxx_command.specs.Again.{Difference, difference_text}

abbrev pub IsTextOf : Difference → List ℕ → Type 0
IsTextOf difference text = text ≡ difference_text difference

-- it is the difference, unless there is no memory
abbrev pub IsShown : Option Difference → Shown → Type 0
IsShown wanted shown.Nothing = wanted ≡ None
IsShown wanted (shown.Differs text) = (difference : Difference) × (wanted ≡ Some difference) × IsTextOf difference text.items
IsShown wanted shown.NoMemory = Unit {0}
