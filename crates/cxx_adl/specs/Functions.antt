-- The functions among sightings, each by its first fact.
use Rattle.std.specs.Prelude.{List, [], ◌∷◌, map, Option, Some, None}
use Rattle.cxx_model.specs.declared.types.FactId.{FactId}
use Rattle.cxx_model.specs.Types.Trees.{CxxType}
use Rattle.cxx_model.specs.Facts.Declarations as facts
use Rattle.cxx_model.specs.Facts.Declarations.{CxxGraph, Declares, declares_at}
use Rattle.cxx_model.specs.Facts.Entities.{Meant as MeantMeant, first_or}
use Rattle.cxx_meaning.specs.Lookups.Associated.{functions_among}
use Rattle.cxx_meaning.specs.Lookups.Sightings.{Sighting, number_id}
use Rattle.cxx_adl.specs.declared.functions.Meant.{Meant}

abbrev pub meant_at : List CxxType → Meant → MeantMeant
meant_at types meant = record { number = meant.number.0; what = declares_at types meant.what }

abbrev pub first_by : FactId → Declares → FactId
first_by meant (facts.function of member flags defaults first) = number_id (first_or meant.0 first)
first_by meant (facts.template template member defaults is_explicit first) = number_id (first_or meant.0 first)
first_by meant _ = meant

abbrev pub firsts : CxxGraph → List Sighting → List FactId
firsts graph sightings = map (λ one. first_by one.meant one.what) (functions_among graph sightings)

abbrev pub fact_list : Option FactId → List FactId
fact_list None = []
fact_list (Some fact) = fact ∷ []
