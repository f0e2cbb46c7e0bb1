-- What is found is found in the first scope that has something.
use Rattle.std.proofs.Common.{◌≡◌, ℕ, List, [], ◌∷◌, ◌++◌, Option, Some, None, Ok, Err, refl, ap, sym, ◌∙◌, subst}
use Rattle.cxx_model.specs.declared.lookup.Found.{Found}
use Rattle.cxx_model.specs.declared.lookup.Found.TheVariants as found
use Rattle.cxx_model.specs.declared.types.ScopeId.{ScopeId}
use Rattle.cxx_model.specs.Facts.Declarations.{CxxGraph, CxxName}
use Rattle.cxx_meaning.specs.Lookups.Directives.{Shown, shows}
use Rattle.cxx_meaning.specs.Lookups.Member.{class_of_scope}
use Rattle.cxx_meaning.specs.Lookups.Ordinary.{FirstIsFound, NothingIsNoDeclaration, IsFirst, Here, Outside, Nowhere, found_in_scope, found_in_sightings, or_outside, ordinary_in, sightings_at}
use Rattle.cxx_meaning.specs.Lookups.Pending.{Asked}
use Rattle.cxx_meaning.specs.Lookups.Scopes.{chain}
use Rattle.cxx_meaning.specs.Lookups.Sightings.{Sighting}
use Rattle.cxx_meaning.specs.Lookups.Wanted.{Wanted}

first_nowhere : (graph : CxxGraph) (wanted : Wanted) (name : CxxName) (cut : ℕ) (shown : List Shown) (x : Found) → ordinary_in graph wanted name cut shown [] ≡ Ok x → IsFirst graph wanted name cut shown [] x
unfolding ordinary_in
first_nowhere graph wanted name cut shown x e = (let same : found.Empty ≡ x = cc in subst (IsFirst graph wanted name cut shown []) same (Nowhere shown))

first_or_outside : (graph : CxxGraph) (wanted : Wanted) (name : CxxName) (cut : ℕ) (shown : List Shown) (scope : ScopeId) (outer : List ScopeId) (x : Found) → ((y : Found) → ordinary_in graph wanted name cut (shown ++ shows graph.facts cut scope) outer ≡ Ok y → IsFirst graph wanted name cut (shown ++ shows graph.facts cut scope) outer y) → (o : Asked (Option Found)) → found_in_scope graph wanted name cut (shown ++ shows graph.facts cut scope) scope ≡ o → or_outside o (ordinary_in graph wanted name cut (shown ++ shows graph.facts cut scope) outer) ≡ Ok x → IsFirst graph wanted name cut shown (scope ∷ outer) x
first_or_outside graph wanted name cut shown scope outer x further (Err needed) is e = absurd cc
first_or_outside graph wanted name cut shown scope outer x further (Ok (Some y)) is e = (let same : y ≡ x = cc in Here shown scope outer x (is ∙ ap (λ z. Ok (Some z)) same))
first_or_outside graph wanted name cut shown scope outer x further (Ok None) is e = Outside shown scope outer x is (further x e)

first_in : (graph : CxxGraph) (wanted : Wanted) (name : CxxName) (cut : ℕ) (scopes : List ScopeId) (shown : List Shown) (x : Found) → ordinary_in graph wanted name cut shown scopes ≡ Ok x → IsFirst graph wanted name cut shown scopes x
unfolding ordinary_in
first_in graph wanted name cut [] shown x e = first_nowhere graph wanted name cut shown x e
first_in graph wanted name cut (scope ∷ outer) shown x e = first_or_outside graph wanted name cut shown scope outer x (λ y h. first_in graph wanted name cut outer (shown ++ shows graph.facts cut scope) y h) (found_in_scope graph wanted name cut (shown ++ shows graph.facts cut scope) scope) refl e

pub first_is_found : FirstIsFound
first_is_found graph wanted scope name cut x e = first_in graph wanted name cut (chain graph.facts scope) [] x e

scope_is : (graph : CxxGraph) (wanted : Wanted) (name : CxxName) (cut : ℕ) (shown : List Shown) (scope : ScopeId) → class_of_scope graph.facts scope ≡ None → found_in_scope graph wanted name cut shown scope ≡ Ok (found_in_sightings graph (sightings_at graph cut wanted name shown scope))
unfolding found_in_scope
scope_is graph wanted name cut shown scope none = rw none refl

nothing_in : (graph : CxxGraph) (sightings : List Sighting) → found_in_sightings graph sightings ≡ None → sightings ≡ []
nothing_in graph [] e = refl
nothing_in graph (one ∷ others) e = absurd cc

pub nothing_is_none : NothingIsNoDeclaration
nothing_is_none graph wanted name cut shown scope none e =
    let is = sym (scope_is graph wanted name cut shown scope none) ∙ e in
    let nothing : found_in_sightings graph (sightings_at graph cut wanted name shown scope) ≡ None = cc in
    nothing_in graph (sightings_at graph cut wanted name shown scope) nothing
