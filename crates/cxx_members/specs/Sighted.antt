-- What the sightings of the code stand for.
use Rattle.std.specs.Prelude.{ℕ, ◌≡◌, ◌++◌, ◌<◌, List, [], ◌∷◌, length, map, Option, Some, None}
use Rattle.cxx_model.specs.Types.Trees.{CxxType, class_type, enumeration}
use Rattle.cxx_model.specs.Types.Numbers.{type_at}
use Rattle.cxx_model.specs.Facts.Declarations.{CxxFact, declares_at}
use Rattle.cxx_model.specs.Facts.Entities.{CxxEntity, Meant as MeantMeant, of_fact, of_type, of_space}
use Rattle.cxx_model.specs.Facts.Fitted.{IsEntityBelow}
use Rattle.cxx_meaning.specs.Lookups.Gathered.{before}
use Rattle.cxx_meaning.specs.Lookups.Sightings.{Sighting as SightingMeant}
use Rattle.cxx_members.specs.declared.entities.Meaning.{Meaning}
use Rattle.cxx_members.specs.declared.entities.Meaning.TheVariants as meaning
use Rattle.cxx_members.specs.declared.sightings.Meant.{Meant}
use Rattle.cxx_members.specs.declared.sightings.Sighting.{Sighting}

abbrev pub meant_at : List CxxType → Meant → MeantMeant
meant_at types meant = record { number = meant.number.0; what = declares_at types meant.what }

abbrev pub sighting_at : List CxxType → Sighting → SightingMeant
sighting_at types one = record { scope = one.scope; itself = one.itself; meant = one.meant; what = declares_at types one.what }

-- Each type that a sighting names stands in the table.
abbrev pub AreBelow : ℕ → List Sighting → Type 0
AreBelow count [] = Unit {0}
AreBelow count (one ∷ others) = IsEntityBelow count one.what × AreBelow count others

-- A list of sightings grew by these.
pub record Adds (types : List CxxType) (old new : List Sighting) (more : List SightingMeant) : Type 0 where
  pub seen : map (sighting_at types) new ≡ map (sighting_at types) old ++ more
  pub below : AreBelow (length types) old → AreBelow (length types) new

-- what a function of a fact and its number gives, where there is a fact
abbrev pub given_at : {A : Type 0} → (ℕ → CxxFact → Option A) → ℕ → Option CxxFact → List A
given_at give number None = []
given_at give number (Some fact) = before (give number fact) []

-- what a meaning of the code is
abbrev pub meaning_at : List CxxType → Meaning → CxxEntity
meaning_at types (meaning.Fact fact) = of_fact fact.0
meaning_at types (meaning.Class class) = of_type (class_type class.0)
meaning_at types (meaning.Enumeration number) = of_type (enumeration number.0)
meaning_at types (meaning.Type of) = of_type (type_at types of.0)
meaning_at types (meaning.Space space) = of_space space.0

abbrev pub IsMeaningBelow : ℕ → Meaning → Type 0
IsMeaningBelow count (meaning.Type of) = of.0 < count
IsMeaningBelow count _ = Unit {0}
