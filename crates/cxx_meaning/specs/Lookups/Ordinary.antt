-- Unqualified names (3.4.1).
use Rattle.std.specs.Prelude.{◌≡◌, ℕ, if◌then◌else◌, List, [], ◌∷◌, ◌++◌, Option, Some, None, Ok, Err}
use Rattle.cxx_model.specs.declared.lookup.Found.{Found}
use Rattle.cxx_model.specs.declared.lookup.Found.TheVariants as found
use Rattle.cxx_model.specs.declared.lookup.MemberFound.{MemberFound}
use Rattle.cxx_model.specs.declared.lookup.MemberFound.TheVariants as member
use Rattle.cxx_model.specs.declared.types.ClassId.{ClassId}
use Rattle.cxx_model.specs.declared.types.ScopeId.{ScopeId}
use Rattle.cxx_model.specs.Facts.Declarations.{CxxGraph, CxxName}
use Rattle.cxx_meaning.specs.Lookups.Directives.{Shown, shows}
use Rattle.cxx_meaning.specs.Lookups.Gathered.{same_scope}
use Rattle.cxx_meaning.specs.Lookups.Member.{class_of_scope, member as member_named}
use Rattle.cxx_meaning.specs.Lookups.Pending.{Asked}
use Rattle.cxx_meaning.specs.Lookups.Scopes.{chain}
use Rattle.cxx_meaning.specs.Lookups.Sightings.{Sighting, looked_up, standing}
use Rattle.cxx_meaning.specs.Lookups.Wanted.{Wanted}

-- the declarations in a namespace, where it shows in a scope
abbrev pub standing_if : CxxGraph → ℕ → Wanted → CxxName → ScopeId → Shown → List Sighting
standing_if graph cut wanted name scope one = if same_scope one.there scope then standing graph cut wanted name one.space else []

-- 7.3.4: the declarations in the namespaces that show in a scope
unfoldable pub standing_shown : CxxGraph → ℕ → Wanted → CxxName → ScopeId → List Shown → List Sighting
standing_shown graph cut wanted name scope [] = []
standing_shown graph cut wanted name scope (one ∷ others) = standing_if graph cut wanted name scope one ++ standing_shown graph cut wanted name scope others

-- the declarations of a scope: those in it, and those that show there
unfoldable pub sightings_at : CxxGraph → ℕ → Wanted → CxxName → List Shown → ScopeId → List Sighting
sightings_at graph cut wanted name shown scope = standing graph cut wanted name scope ++ standing_shown graph cut wanted name scope shown

-- what is found in some declarations, where there are some
abbrev pub found_in_sightings : CxxGraph → List Sighting → Option Found
found_in_sightings graph [] = None
found_in_sightings graph (one ∷ others) = Some (looked_up graph (one ∷ others))

-- what is found in a class, where something is
abbrev pub member_found : ClassId → MemberFound → Option Found
member_found class member.Empty = None
member_found class (member.Set facts path) = Some (found.Member class (member.Set facts path))
member_found class (member.Ambiguous one two) = Some (found.Member class (member.Ambiguous one two))

abbrev pub found_in_member : ClassId → Asked MemberFound → Asked (Option Found)
found_in_member class (Err needed) = Err needed
found_in_member class (Ok of) = Ok (member_found class of)

-- what is found in a scope, which may be that of a class, where something is
unfoldable pub found_in_scope : CxxGraph → Wanted → CxxName → ℕ → List Shown → ScopeId → Asked (Option Found)
found_in_scope graph wanted name cut shown scope = by (class_of_scope graph.facts scope)
  where
    by : Option ClassId → Asked (Option Found)
    by (Some class) = found_in_member class (member_named graph wanted class name)
    by None = Ok (found_in_sightings graph (sightings_at graph cut wanted name shown scope))

-- what was found in a scope, where something was, and else what is found further out
abbrev pub or_outside : Asked (Option Found) → Asked Found → Asked Found
or_outside (Err needed) outer = Err needed
or_outside (Ok (Some found)) outer = Ok found
or_outside (Ok None) outer = outer

-- The name in the first of some scopes that has a declaration of it; in a class, in it and its bases. What the directives
-- of the scopes so far reach shows where it should.
unfoldable pub ordinary_in : CxxGraph → Wanted → CxxName → ℕ → List Shown → List ScopeId → Asked Found
ordinary_in graph wanted name cut shown [] = Ok found.Empty
ordinary_in graph wanted name cut shown (scope ∷ outer) =
    or_outside (found_in_scope graph wanted name cut (shown ++ shows graph.facts cut scope) scope) (ordinary_in graph wanted name cut (shown ++ shows graph.facts cut scope) outer)

-- 3.4.1, 7.3.4
abbrev pub ordinary : CxxGraph → Wanted → ScopeId → CxxName → ℕ → Asked Found
ordinary graph wanted scope name cut = ordinary_in graph wanted name cut [] (chain graph.facts scope)

-- ---- in words

-- 3.4.1: What is found is found in the first scope that has something, and no scope nearer has a declaration.
pub data IsFirst (graph : CxxGraph) (wanted : Wanted) (name : CxxName) (cut : ℕ) : List Shown → List ScopeId → Found → Type 0 where
  Here : (shown : List Shown) (scope : ScopeId) (outer : List ScopeId) (found : Found) → found_in_scope graph wanted name cut (shown ++ shows graph.facts cut scope) scope ≡ Ok (Some found) → IsFirst graph wanted name cut shown (scope ∷ outer) found
  Outside : (shown : List Shown) (scope : ScopeId) (outer : List ScopeId) (found : Found) → found_in_scope graph wanted name cut (shown ++ shows graph.facts cut scope) scope ≡ Ok None → IsFirst graph wanted name cut (shown ++ shows graph.facts cut scope) outer found → IsFirst graph wanted name cut shown (scope ∷ outer) found
  Nowhere : (shown : List Shown) → IsFirst graph wanted name cut shown [] found.Empty

-- What is found is what the first scope of the chain that has something has.
abbrev pub FirstIsFound : Type 0
FirstIsFound = (graph : CxxGraph) (wanted : Wanted) (scope : ScopeId) (name : CxxName) (cut : ℕ) (found : Found) → ordinary graph wanted scope name cut ≡ Ok found → IsFirst graph wanted name cut [] (chain graph.facts scope) found

-- A scope of no class that has nothing has no declaration, of itself or by directives.
abbrev pub NothingIsNoDeclaration : Type 0
NothingIsNoDeclaration = (graph : CxxGraph) (wanted : Wanted) (name : CxxName) (cut : ℕ) (shown : List Shown) (scope : ScopeId) → class_of_scope graph.facts scope ≡ None → found_in_scope graph wanted name cut shown scope ≡ Ok None → sightings_at graph cut wanted name shown scope ≡ []
