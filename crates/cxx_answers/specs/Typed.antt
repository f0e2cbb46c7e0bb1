-- The type of an object, by its declarations one after another (3.5, 8.3.4).
use Rattle.std.specs.Prelude.{ℕ, suc, if◌then◌else◌, nat_eq, List, [], ◌∷◌, length, Option, Some, None}
use Rattle.std.specs.List.{slice_get}
use Rattle.cxx_model.specs.declared.facts.Fact.{Fact}
use Rattle.cxx_model.specs.Facts.Declarations as facts
use Rattle.cxx_model.specs.Facts.Declarations.{CxxFact, Declares, declares_at}
use Rattle.cxx_model.specs.Facts.Entities.{first_or, has_no_bound, object_type}
use Rattle.cxx_model.specs.Types.Trees.{CxxType}
use Rattle.cxx_reading.specs.Declaring.{declares_by}
use Rattle.cxx_reading.specs.State.{CxxState}

-- the first declaration of what a fact with a number declares
abbrev pub first_of : ℕ → Declares → ℕ
first_of number (facts.object of member is_mutable value first) = first_or number first
first_of number _ = number

-- the first declaration of the object that the fact with a number declares
abbrev pub entity_number : CxxState → ℕ → ℕ
entity_number state number = first_of number (declares_by (slice_get state.graph.facts number))

abbrev pub type_or : CxxType → Option CxxType → CxxType
type_or of None = of
type_or of (Some other) = other

-- 3.5, 8.3.4: the type of an object, with the bound that any of its declarations gives
abbrev pub type_so_far : CxxState → ℕ → CxxType → CxxType
type_so_far state number of = type_or of (object_type state.graph.facts (entity_number state number) (length state.graph.facts))

-- ---- one declaration after another

-- the type that a declaration gives to an object
abbrev pub typed : ℕ → ℕ → Declares → Option CxxType
typed entity number (facts.object of member is_mutable value first) = if nat_eq (first_or number first) entity then Some of else None
typed entity number _ = None

-- but no array without a bound
abbrev pub bounded : Option CxxType → Option CxxType
bounded None = None
bounded (Some of) = if has_no_bound of then None else Some of

abbrev pub typed_bounded : ℕ → ℕ → Declares → Option CxxType
typed_bounded entity number what = bounded (typed entity number what)

abbrev pub or_later : Option CxxType → Option CxxType → Option CxxType
or_later None later = later
or_later (Some of) later = Some of

-- the first of what some declarations say, where the first of them has a number
abbrev pub first_said : (ℕ → Declares → Option CxxType) → ℕ → List CxxFact → Option CxxType
first_said says number [] = None
first_said says number (fact ∷ others) = or_later (says number fact.what) (first_said says (suc number) others)

-- the first declaration of the object that a fact declares, where it is there
abbrev pub entity_in : List CxxType → ℕ → Option Fact → ℕ
entity_in types number None = number
entity_in types number (Some fact) = first_of number (declares_at types fact.what)
