-- Namespaces that are searched.
use Rattle.std.proofs.Common.{◌≡◌, ℕ, zero, suc, true, false, List, [], ◌∷◌, length, Option, refl, ap, sym, ◌∙◌}
use Rattle.std.specs.Prelude.{is_none}
use Rattle.std.proofs.lemmas.List.{append-nil}
use Rattle.cxx_model.specs.declared.types.ScopeId.{ScopeId}
use Rattle.cxx_model.specs.Facts.Declarations.{CxxGraph, CxxName}
use Rattle.cxx_meaning.specs.Lookups.Directives.{nominated}
use Rattle.cxx_meaning.specs.Lookups.Gathered.{spread, with_scopes}
use Rattle.cxx_meaning.specs.Lookups.Ordinary.{found_in_sightings}
use Rattle.cxx_meaning.specs.Lookups.Qualified.{leads_to, searched, sightings_of, standing_in}
use Rattle.cxx_meaning.specs.Lookups.Sightings.{Sighting, standing}
use Rattle.cxx_meaning.specs.Lookups.Wanted.{Wanted}
use Rattle.cxx_found.specs.Rows.{has_one}
use Rattle.cxx_model.specs.declared.lookup.Found.{Found}

-- a namespace that has own declarations leads nowhere, and one that has none to what it nominates
leads_some : (graph : CxxGraph) (cut : ℕ) (wanted : Wanted) (name : CxxName) (space : ScopeId) (own : List Sighting) → standing graph cut wanted name space ≡ own → has_one own ≡ true → leads_to graph cut wanted name space ≡ []
unfolding leads_to
leads_some graph cut wanted name space [] e some = absurd cc
leads_some graph cut wanted name space (one ∷ others) e some = rw e refl

leads_none : (graph : CxxGraph) (cut : ℕ) (wanted : Wanted) (name : CxxName) (space : ScopeId) (own : List Sighting) → standing graph cut wanted name space ≡ own → has_one own ≡ false → leads_to graph cut wanted name space ≡ nominated graph.facts cut space
unfolding leads_to
leads_none graph cut wanted name space [] e none = rw e refl
leads_none graph cut wanted name space (one ∷ others) e none = absurd cc

pub leads_nowhere : (graph : CxxGraph) (cut : ℕ) (wanted : Wanted) (name : CxxName) (space : ScopeId) (own : List Sighting) (spaces : List ScopeId) → standing graph cut wanted name space ≡ own → has_one own ≡ true → spaces ≡ with_scopes spaces (leads_to graph cut wanted name space)
unfolding with_scopes
leads_nowhere graph cut wanted name space own spaces e some = ap (with_scopes spaces) (sym (leads_some graph cut wanted name space own e some))

pub leads_on : (graph : CxxGraph) (cut : ℕ) (wanted : Wanted) (name : CxxName) (space : ScopeId) (own : List Sighting) (old new : List ScopeId) → standing graph cut wanted name space ≡ own → has_one own ≡ false → new ≡ with_scopes old (nominated graph.facts cut space) → new ≡ with_scopes old (leads_to graph cut wanted name space)
leads_on graph cut wanted name space own old new e none is = is ∙ ap (with_scopes old) (sym (leads_none graph cut wanted name space own e none))

-- ---- a namespace that leads nowhere is searched alone

spread_alone : (next : ScopeId → List ScopeId) (space : ScopeId) (room : ℕ) → next space ≡ [] → spread next room 0 (space ∷ []) ≡ space ∷ []
unfolding spread with_scopes
spread_alone next space zero none = refl
spread_alone next space (suc zero) none = rw none refl
spread_alone next space (suc (suc room)) none = rw none refl

searched_alone : (graph : CxxGraph) (cut : ℕ) (wanted : Wanted) (name : CxxName) (space : ScopeId) → leads_to graph cut wanted name space ≡ [] → searched graph cut wanted name space ≡ space ∷ []
unfolding searched
searched_alone graph cut wanted name space none = spread_alone (leads_to graph cut wanted name) space (length graph.facts) none

sightings_alone : (graph : CxxGraph) (cut : ℕ) (wanted : Wanted) (name : CxxName) (space : ScopeId) → leads_to graph cut wanted name space ≡ [] → sightings_of graph cut wanted name space ≡ standing graph cut wanted name space
unfolding standing_in
sightings_alone graph cut wanted name space none = ap (standing_in graph cut wanted name) (searched_alone graph cut wanted name space none) ∙ append-nil (standing graph cut wanted name space)

some_leads : (graph : CxxGraph) (cut : ℕ) (wanted : Wanted) (name : CxxName) (space : ScopeId) (own : List Sighting) → standing graph cut wanted name space ≡ own → is_none (found_in_sightings graph own) ≡ false → leads_to graph cut wanted name space ≡ []
some_leads graph cut wanted name space [] e some = absurd cc
some_leads graph cut wanted name space (one ∷ others) e some = leads_some graph cut wanted name space (one ∷ others) e refl

none_leads : (graph : CxxGraph) (cut : ℕ) (wanted : Wanted) (name : CxxName) (space : ScopeId) → nominated graph.facts cut space ≡ [] → leads_to graph cut wanted name space ≡ []
none_leads graph cut wanted name space none = by (standing graph cut wanted name space) refl
  where
    by : (own : List Sighting) → standing graph cut wanted name space ≡ own → leads_to graph cut wanted name space ≡ []
    by [] e = leads_none graph cut wanted name space [] e refl ∙ none
    by (one ∷ others) e = leads_some graph cut wanted name space (one ∷ others) e refl

-- it has own declarations
pub found_own_first : (graph : CxxGraph) (cut : ℕ) (wanted : Wanted) (name : CxxName) (space : ScopeId) (own : List Sighting) (of : Option Found) → standing graph cut wanted name space ≡ own → of ≡ found_in_sightings graph own → is_none of ≡ false → of ≡ found_in_sightings graph (sightings_of graph cut wanted name space)
found_own_first graph cut wanted name space own of e is some =
    is ∙ ap (found_in_sightings graph) (sym e ∙ sym (sightings_alone graph cut wanted name space (some_leads graph cut wanted name space own e (sym (ap is_none is) ∙ some))))

-- it nominates nothing
pub found_own_alone : (graph : CxxGraph) (cut : ℕ) (wanted : Wanted) (name : CxxName) (space : ScopeId) (own : List Sighting) (of : Option Found) → standing graph cut wanted name space ≡ own → of ≡ found_in_sightings graph own → nominated graph.facts cut space ≡ [] → of ≡ found_in_sightings graph (sightings_of graph cut wanted name space)
found_own_alone graph cut wanted name space own of e is none =
    is ∙ ap (found_in_sightings graph) (sym e ∙ sym (sightings_alone graph cut wanted name space (none_leads graph cut wanted name space none)))
