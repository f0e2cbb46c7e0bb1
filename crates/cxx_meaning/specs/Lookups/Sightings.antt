-- The declarations of a name that a lookup sees, and what it finds in them (3.3.7, 3.4, 7.3.3).
use Rattle.std.specs.Prelude.{◌≡◌, ℕ, ◌+◌, Bool, true, false, not, ◌&&◌, nat_eq, nat_lt, if◌then◌else◌, List, [], ◌∷◌, map, filter, find, Option, Some, None, option_map}
use Rattle.std.specs.List.{Contains, slice_get, list_any}
use Rattle.cxx_model.specs.declared.lookup.Found.{Found}
use Rattle.cxx_model.specs.declared.lookup.Found.TheVariants as found
use Rattle.cxx_model.specs.declared.types.FactId.{FactId}
use Rattle.cxx_model.specs.declared.types.ScopeId.{ScopeId}
use Rattle.cxx_model.specs.Facts.Conflicts.{declares_name, has_name, same_name}
use Rattle.cxx_model.specs.Facts.Entities.{CxxEntity, meant_by, entity_by, is_seen, is_space, of_fact, of_space, of_type, same_entity}
use Rattle.cxx_model.specs.Facts.Declarations as facts
use Rattle.cxx_model.specs.Facts.Declarations.{CxxFact, CxxGraph, CxxName, Declares}
use Rattle.cxx_meaning.specs.Lookups.Gathered.{gathered, same_scope, with_facts}
use Rattle.cxx_meaning.specs.Lookups.Scopes.{kind_of}
use Rattle.cxx_meaning.specs.Lookups.Wanted.{Wanted, hides_types, is_function, is_hideable, is_wanted}

-- A declaration of a name: its scope, the fact itself, and the fact for which it stands, which is another one where it
-- is a using-declaration (7.3.3).
pub record Sighting : Type 0 where
  pub scope : ScopeId
  pub itself : FactId
  pub meant : FactId
  pub what : Declares

abbrev pub number_id : ℕ → FactId
number_id n = record { 0 = n }

abbrev pub sighting_of : List CxxFact → ℕ → CxxFact → Sighting
sighting_of all number fact = record { scope = record { 0 = fact.scope }; itself = number_id number; meant = number_id (meant_by all number fact.what).number; what = (meant_by all number fact.what).what }

-- a declaration of the name
abbrev pub is_named : CxxName → CxxFact → Bool
is_named name fact = declares_name fact.what && (has_name name && same_name fact.name name)

abbrev pub befriends : ℕ → Declares → Bool
befriends number (facts.friend class target) = nat_eq target.0 number
befriends number _ = false

-- 7.3.1.2, 11.4: a declaration of a namespace that only a friend declaration makes, which stands directly behind it. It
-- is not seen until the namespace itself declares the name.
unfoldable pub is_by_friend : List CxxFact → ℕ → CxxFact → Bool
is_by_friend all number fact = is_space (kind_of all (record { 0 = fact.scope })) && names (slice_get all (number + 1))
  where
    names : Option CxxFact → Bool
    names None = false
    names (Some next) = befriends number next.what

abbrev pub when : {A : Type 0} → Bool → A → Option A
when true x = Some x
when false x = None

-- what is wanted of a declaration
abbrev pub wanted_one : CxxGraph → Wanted → Sighting → Option Sighting
wanted_one graph wanted sighting = when (is_wanted graph wanted sighting.what) sighting

-- a declaration of the name in a scope that is seen at a cut
unfoldable pub sighting_in : CxxGraph → ℕ → Wanted → CxxName → ScopeId → ℕ → CxxFact → Option Sighting
sighting_in graph cut wanted name scope number fact =
    if nat_eq fact.scope scope.0 && (is_named name fact && (is_seen graph.facts cut number fact && not (is_by_friend graph.facts number fact)))
    then wanted_one graph wanted (sighting_of graph.facts number fact) else None

-- the declarations of a name in a scope, of what is wanted, that are seen at a cut
unfoldable pub standing : CxxGraph → ℕ → Wanted → CxxName → ScopeId → List Sighting
standing graph cut wanted name scope = gathered (sighting_in graph cut wanted name scope) 0 graph.facts

-- ---- 3.3.7

abbrev pub is_hidden_by : CxxGraph → Sighting → Sighting → Bool
is_hidden_by graph one two = hides_types graph two.what && same_scope one.scope two.scope

-- the name of a class or an enumeration that another declaration of its scope hides
abbrev pub is_hidden_among : CxxGraph → List Sighting → Sighting → Bool
is_hidden_among graph sightings one = is_hideable one.what && list_any (is_hidden_by graph one) sightings

unfoldable pub unhidden : CxxGraph → List Sighting → List Sighting
unhidden graph sightings = filter (λ one. not (is_hidden_among graph sightings one)) sightings

-- ---- entities

abbrev pub entity_meant : Sighting → CxxEntity
entity_meant sighting = entity_by sighting.meant.0 sighting.what

-- the least number of a fact that stands for an entity, a number at hand among them
unfoldable pub least_of : CxxEntity → FactId → List Sighting → FactId
least_of entity least [] = least
least_of entity least (one ∷ others) = least_of entity (if same_entity entity (entity_meant one) && nat_lt one.meant.0 least.0 then one.meant else least) others

-- The fact by which an entity is named: its first one; of a type or a namespace, which any fact of it may name, the
-- first of those that were found.
unfoldable pub named_by : List Sighting → Sighting → FactId
named_by sightings one = by (entity_meant one)
  where
    by : CxxEntity → FactId
    by (of_fact n) = number_id n
    by (of_type t) = least_of (of_type t) one.meant sightings
    by (of_space n) = least_of (of_space n) one.meant sightings

-- the entities that some declarations name, ascending, each once
unfoldable pub entities : List Sighting → List FactId
entities sightings = with_facts [] (map (named_by sightings) sightings)

-- ---- what is found

-- whether a fact declares a function or a function template
unfoldable pub is_function_at : CxxGraph → FactId → Bool
is_function_at graph number = by (slice_get graph.facts number.0)
  where
    by : Option CxxFact → Bool
    by None = false
    by (Some fact) = is_function graph fact.what

abbrev pub both_functions : CxxGraph → FactId → FactId → Bool
both_functions graph one two = is_function_at graph one && is_function_at graph two

-- The least of some facts, and the least other one that is no overload of it.
unfoldable pub odd_pair : CxxGraph → List FactId → Option (FactId × FactId)
odd_pair graph [] = None
odd_pair graph (one ∷ others) = option_map (λ two. (one, two)) (find (λ two. not (both_functions graph one two)) others)

-- 3.4: Several functions are a set; of other entities there has to be one alone.
unfoldable pub found_of : CxxGraph → List FactId → Found
found_of graph facts = by facts (odd_pair graph facts)
  where
    by : List FactId → Option (FactId × FactId) → Found
    by [] odd = found.Empty
    by (one ∷ others) None = found.Set (one ∷ others)
    by (one ∷ others) (Some odd) = found.Ambiguous odd.0 odd.1

-- what a lookup finds in the declarations that it sees
abbrev pub looked_up : CxxGraph → List Sighting → Found
looked_up graph sightings = found_of graph (entities (unhidden graph sightings))

-- ---- in words

-- 3.4, 3.3: A declaration of the name stands in the scope; it is seen at the cut, it is of what is wanted, and not only a
-- friend declaration makes it.
pub record IsSeenIn (graph : CxxGraph) (cut : ℕ) (wanted : Wanted) (name : CxxName) (scope : ScopeId) (one : Sighting) : Type 0 where
  pub number : ℕ
  pub fact : CxxFact
  pub stands : slice_get graph.facts number ≡ Some fact
  pub within : nat_eq fact.scope scope.0 ≡ true
  pub named : is_named name fact ≡ true
  pub seen : is_seen graph.facts cut number fact ≡ true
  pub no_friend : is_by_friend graph.facts number fact ≡ false
  pub kind : is_wanted graph wanted one.what ≡ true
  pub itself : sighting_of graph.facts number fact ≡ one

-- Whatever counts as a declaration in a scope is one.
abbrev pub EachIsSeen : Type 0
EachIsSeen = (graph : CxxGraph) (cut : ℕ) (wanted : Wanted) (name : CxxName) (scope : ScopeId) (one : Sighting) → Contains (standing graph cut wanted name scope) one → IsSeenIn graph cut wanted name scope one

-- Each entity of a set that is found is that of a declaration that a lookup sees, and that no other one of its scope hides.
abbrev pub EachIsOfOne : Type 0
EachIsOfOne = (graph : CxxGraph) (sightings : List Sighting) (facts : List FactId) (fact : FactId) → looked_up graph sightings ≡ found.Set facts → Contains facts fact → (one : Sighting) × Contains sightings one × (is_hidden_among graph sightings one ≡ false) × (named_by (unhidden graph sightings) one ≡ fact)
