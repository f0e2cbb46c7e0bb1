-- Names behind `::` in a namespace (3.4.3.2), and what a using-declaration brings (7.3.3).
use Rattle.std.specs.Prelude.{◌≡◌, ℕ, List, [], ◌∷◌, ◌++◌, length, Ok}
use Rattle.std.specs.List.{Contains}
use Rattle.cxx_model.specs.declared.lookup.Found.{Found}
use Rattle.cxx_model.specs.declared.lookup.Found.TheVariants as found
use Rattle.cxx_model.specs.declared.types.ScopeId.{ScopeId}
use Rattle.cxx_model.specs.Facts.Declarations.{CxxGraph, CxxName}
use Rattle.cxx_meaning.specs.Lookups.Directives.{nominated}
use Rattle.cxx_meaning.specs.Lookups.Gathered.{spread}
use Rattle.cxx_meaning.specs.Lookups.Pending.{Asked}
use Rattle.cxx_meaning.specs.Lookups.Sightings.{Sighting, entities, looked_up, standing}
use Rattle.cxx_meaning.specs.Lookups.Wanted.{Wanted, any_name}

-- the namespaces to which a namespace leads: none where it declares the name itself, and else those that it nominates
unfoldable pub leads_to : CxxGraph → ℕ → Wanted → CxxName → ScopeId → List ScopeId
leads_to graph cut wanted name space = by (standing graph cut wanted name space)
  where
    by : List Sighting → List ScopeId
    by [] = nominated graph.facts cut space
    by (one ∷ others) = []

-- the namespaces that are searched, each once
unfoldable pub searched : CxxGraph → ℕ → Wanted → CxxName → ScopeId → List ScopeId
searched graph cut wanted name space = spread (leads_to graph cut wanted name) (length graph.facts) 0 (space ∷ [])

-- the declarations in some namespaces
unfoldable pub standing_in : CxxGraph → ℕ → Wanted → CxxName → List ScopeId → List Sighting
standing_in graph cut wanted name [] = []
standing_in graph cut wanted name (space ∷ others) = standing graph cut wanted name space ++ standing_in graph cut wanted name others

abbrev pub sightings_of : CxxGraph → ℕ → Wanted → CxxName → ScopeId → List Sighting
sightings_of graph cut wanted name space = standing_in graph cut wanted name (searched graph cut wanted name space)

-- 3.4.3.2
abbrev pub qualified : CxxGraph → Wanted → ScopeId → CxxName → ℕ → Asked Found
qualified graph wanted space name cut = Ok (looked_up graph (sightings_of graph cut wanted name space))

-- what is brought where a lookup finds something: all entities, also those that others hide (7.3.3)
abbrev pub brought_by : Found → List Sighting → Found
brought_by (found.Set facts) sightings = found.Set (entities sightings)
brought_by (found.Member class of) sightings = found.Member class of
brought_by (found.Ambiguous one two) sightings = found.Ambiguous one two
brought_by found.Empty sightings = found.Empty

abbrev pub brought_in : CxxGraph → List Sighting → Found
brought_in graph sightings = brought_by (looked_up graph sightings) sightings

-- 7.3.3: what a using-declaration of a namespace or a block brings
abbrev pub brought : CxxGraph → ScopeId → CxxName → ℕ → Asked Found
brought graph space name cut = Ok (brought_in graph (sightings_of graph cut any_name name space))

-- ---- in words

-- 3.4.3.2: A namespace is searched where it is the one that is named, or where a directive nominates it in one that is
-- searched and that does not declare the name itself.
pub data IsSearched (graph : CxxGraph) (cut : ℕ) (wanted : Wanted) (name : CxxName) (from : ScopeId) : ScopeId → Type 0 where
  Itself : IsSearched graph cut wanted name from from
  Nominated : (m n : ScopeId) → IsSearched graph cut wanted name from m → standing graph cut wanted name m ≡ [] → Contains (nominated graph.facts cut m) n → IsSearched graph cut wanted name from n

-- Whatever counts as searched is.
abbrev pub EachIsSearched : Type 0
EachIsSearched = (graph : CxxGraph) (cut : ℕ) (wanted : Wanted) (name : CxxName) (from n : ScopeId) → Contains (searched graph cut wanted name from) n → IsSearched graph cut wanted name from n
