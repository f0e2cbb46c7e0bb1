-- The declarations with some numbers, as a lookup sees them: those that only friend declarations make are hidden (7.3.1.2).
use Rattle.std.specs.Prelude.{ℕ, Bool, true, false, if◌then◌else◌, List, [], ◌∷◌, Option, Some, None}
use Rattle.std.specs.List.{slice_get}
use Rattle.cxx_model.specs.declared.types.FactId.{FactId}
use Rattle.cxx_model.specs.Facts.Declarations.{CxxFact, CxxGraph}
use Rattle.cxx_meaning.specs.Lookups.Gathered.{before}
use Rattle.cxx_meaning.specs.Lookups.Sightings.{Sighting, is_by_friend, sighting_of, wanted_one}
use Rattle.cxx_meaning.specs.Lookups.Wanted.{Wanted}

abbrev pub sighted : CxxGraph → Wanted → ℕ → Option CxxFact → Option Sighting
sighted graph wanted number None = None
sighted graph wanted number (Some fact) = if is_by_friend graph.facts number fact then None else wanted_one graph wanted (sighting_of graph.facts number fact)

-- those of what is wanted
abbrev pub sighted_in : CxxGraph → Wanted → List FactId → List Sighting
sighted_in graph wanted [] = []
sighted_in graph wanted (number ∷ others) = before (sighted graph wanted number.0 (slice_get graph.facts number.0)) (sighted_in graph wanted others)

abbrev pub has_one : List Sighting → Bool
has_one [] = false
has_one (one ∷ others) = true
