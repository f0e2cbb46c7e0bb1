-- The value of an object, by its declarations one after another.
use Rattle.std.specs.Prelude.{ℕ, suc, ℤ, if◌then◌else◌, nat_eq, List, [], ◌∷◌, Option, Some, None}
use Rattle.cxx_model.specs.Facts.Declarations as facts
use Rattle.cxx_model.specs.Facts.Declarations.{CxxFact, Declares}
use Rattle.cxx_model.specs.Facts.Entities.{first_or}

-- the value that a declaration gives to an object
abbrev pub given : ℕ → ℕ → Declares → Option ℤ
given entity number (facts.object of member is_mutable value first) = if nat_eq (first_or number first) entity then value else None
given entity number _ = None

abbrev pub or_given : Option ℤ → Option ℤ → Option ℤ
or_given None later = later
or_given (Some value) later = Some value

-- the first of these, where the first fact has a number
abbrev pub first_given : ℕ → ℕ → List CxxFact → Option ℤ
first_given entity number [] = None
first_given entity number (fact ∷ others) = or_given (given entity number fact.what) (first_given entity (suc number) others)
