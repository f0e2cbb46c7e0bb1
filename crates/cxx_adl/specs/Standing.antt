-- The declarations that are seen, one fact after another.
use Rattle.std.specs.Prelude.{ℕ, Bool, not, ◌&&◌, nat_eq, List, [], ◌∷◌, ◌++◌, Option, Some, None}
use Rattle.std.specs.List.{slice_get}
use Rattle.cxx_model.specs.declared.types.FactId.{FactId}
use Rattle.cxx_model.specs.declared.types.ScopeId.{ScopeId}
use Rattle.cxx_model.specs.Facts.Declarations.{CxxFact, CxxGraph, CxxName}
use Rattle.cxx_model.specs.Facts.Entities.{is_seen}
use Rattle.cxx_meaning.specs.Lookups.Gathered.{before}
use Rattle.cxx_meaning.specs.Lookups.Sightings.{Sighting, is_by_friend, is_named}

-- whether a fact is a declaration of the name in a scope that is seen at a cut
abbrev pub stands : CxxGraph → ℕ → CxxName → ScopeId → ℕ → CxxFact → Bool
stands graph cut name scope number fact = nat_eq fact.scope scope.0 && (is_named name fact && (is_seen graph.facts cut number fact && not (is_by_friend graph.facts number fact)))

abbrev pub sighting_list : Option Sighting → List Sighting
sighting_list o = before o []

-- what a function of a fact and its number gives, where there is a fact
abbrev pub given_at : (ℕ → CxxFact → Option Sighting) → ℕ → Option CxxFact → List Sighting
given_at give number None = []
given_at give number (Some fact) = sighting_list (give number fact)

-- what it gives at the facts with some numbers
abbrev pub given_each : (ℕ → CxxFact → Option Sighting) → List CxxFact → List FactId → List Sighting
given_each give all [] = []
given_each give all (number ∷ others) = given_at give number.0 (slice_get all number.0) ++ given_each give all others
