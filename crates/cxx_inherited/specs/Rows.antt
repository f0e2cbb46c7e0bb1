-- The declarations with some numbers, as a lookup sees them.
use Rattle.std.specs.Prelude.{ℕ, zero, suc, Bool, true, false, if◌then◌else◌, List, [], ◌∷◌, Option, Some, None}
use Rattle.std.specs.List.{list_any, slice_get}
use Rattle.cxx_model.specs.declared.types.FactId.{FactId}
use Rattle.cxx_model.specs.declared.types.ScopeId.{ScopeId}
use Rattle.cxx_model.specs.Facts.Declarations.{CxxFact, CxxGraph, CxxName}
use Rattle.cxx_meaning.specs.Lookups.Gathered.{before, with_facts}
use Rattle.cxx_meaning.specs.Lookups.Sightings.{Sighting, sighting_of, wanted_one}
use Rattle.cxx_meaning.specs.Lookups.Wanted.{Wanted}
use Rattle.cxx_reading.specs.Seen.{declares_in}

abbrev pub sighted : CxxGraph → Wanted → ℕ → Option CxxFact → Option Sighting
sighted graph wanted number None = None
sighted graph wanted number (Some fact) = wanted_one graph wanted (sighting_of graph.facts number fact)

-- those of what is wanted
abbrev pub sighted_in : CxxGraph → Wanted → List FactId → List Sighting
sighted_in graph wanted [] = []
sighted_in graph wanted (number ∷ others) = before (sighted graph wanted number.0 (slice_get graph.facts number.0)) (sighted_in graph wanted others)

abbrev is_there : {A : Type 0} → Option A → Bool
is_there None = false
is_there (Some x) = true

-- whether the declaration with a number is of what is wanted
abbrev pub is_sighted : CxxGraph → Wanted → FactId → Bool
is_sighted graph wanted number = is_there (sighted graph wanted number.0 (slice_get graph.facts number.0))

-- the numbers of the facts that pass a test, in order, where the first one has a number
abbrev pub passing : (CxxFact → Bool) → ℕ → List CxxFact → List FactId
passing test number [] = []
passing test number (fact ∷ others) = if test fact then record { 0 = number } ∷ passing test (suc number) others else passing test (suc number) others

-- whether a fact declares a name in one of some scopes
abbrev pub declares_in_any : List ScopeId → CxxName → CxxFact → Bool
declares_in_any scopes name fact = list_any (λ scope. declares_in scope.0 name fact) scopes

-- the declarations of a name in one of some scopes, in order
unfoldable pub declared_in_any : CxxGraph → List ScopeId → CxxName → List FactId
declared_in_any graph scopes name = passing (declares_in_any scopes name) zero graph.facts

-- those in one scope
unfoldable pub row_of : CxxGraph → CxxName → ScopeId → List FactId
row_of graph name scope = passing (declares_in scope.0 name) zero graph.facts

-- some declarations with those in some scopes
abbrev pub rows_after : CxxGraph → CxxName → List FactId → List ScopeId → List FactId
rows_after graph name numbers [] = numbers
rows_after graph name numbers (scope ∷ scopes) = rows_after graph name (with_facts numbers (row_of graph name scope)) scopes
