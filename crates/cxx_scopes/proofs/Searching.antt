-- Namespaces that are searched, one after another.
use Rattle.std.proofs.Common.{◌≡◌, ℕ, suc, true, false, eqb, List, [], ◌∷◌, ◌++◌, length, map, refl, ap, sym, ◌∙◌, append_assoc, arith}
use Rattle.std.proofs.lemmas.Bool.{eqb-true}
use Rattle.cxx_model.specs.declared.types.ScopeId.{ScopeId}
use Rattle.cxx_model.specs.Types.Trees.{CxxType}
use Rattle.cxx_model.specs.Facts.Declarations.{CxxGraph, CxxName}
use Rattle.cxx_meaning.specs.Lookups.Directives.{nominated}
use Rattle.cxx_meaning.specs.Lookups.Gathered.{with_scopes}
use Rattle.cxx_meaning.specs.Lookups.Qualified.{leads_to, standing_in}
use Rattle.cxx_meaning.specs.Lookups.Sightings.{Sighting as SightingMeant, standing}
use Rattle.cxx_meaning.specs.Lookups.Wanted.{Wanted}
use Rattle.cxx_members.specs.declared.sightings.Sighting.{Sighting}
use Rattle.cxx_members.specs.Sighted.{Adds, sighting_at}

-- a namespace that has own declarations leads nowhere
leads_by : (graph : CxxGraph) (cut : ℕ) (wanted : Wanted) (name : CxxName) (space : ScopeId) (one : SightingMeant) (others : List SightingMeant) → standing graph cut wanted name space ≡ one ∷ others → leads_to graph cut wanted name space ≡ []
unfolding leads_to
leads_by graph cut wanted name space one others e = rw e refl

pub leads_nowhere : (types : List CxxType) (graph : CxxGraph) (cut : ℕ) (wanted : Wanted) (name : CxxName) (space : ScopeId) (own : List Sighting) (spaces : List ScopeId) → Adds types [] own (standing graph cut wanted name space) → eqb (length own) 0 ≡ false → spaces ≡ with_scopes spaces (leads_to graph cut wanted name space)
unfolding with_scopes
leads_nowhere types graph cut wanted name space [] spaces adds some = absurd cc
leads_nowhere types graph cut wanted name space (one ∷ others) spaces adds some = ap (with_scopes spaces) (sym (leads_by graph cut wanted name space (sighting_at types one) (map (sighting_at types) others) (sym adds.seen)))

-- one that has none leads to what it nominates
pub leads_on : (types : List CxxType) (graph : CxxGraph) (cut : ℕ) (wanted : Wanted) (name : CxxName) (space : ScopeId) (own : List Sighting) (old new : List ScopeId) → Adds types [] own (standing graph cut wanted name space) → eqb (length own) 0 ≡ true → new ≡ with_scopes old (nominated graph.facts cut space) → new ≡ with_scopes old (leads_to graph cut wanted name space)
unfolding leads_to
leads_on types graph cut wanted name space [] old new adds none e =
    let h : standing graph cut wanted name space ≡ [] = sym adds.seen in
    rw h e
leads_on types graph cut wanted name space (one ∷ others) old new adds none e = let zero_is : suc (length others) ≡ 0 = eqb-true (suc (length others)) 0 none in absurd (omega arith)

pub standing_more : (types : List CxxType) (graph : CxxGraph) (cut : ℕ) (wanted : Wanted) (name : CxxName) (old new : List Sighting) (space : ScopeId) (others : List ScopeId) → Adds types old new (standing graph cut wanted name space) → map (sighting_at types) old ++ standing_in graph cut wanted name (space ∷ others) ≡ map (sighting_at types) new ++ standing_in graph cut wanted name others
unfolding standing_in
standing_more types graph cut wanted name old new space others adds =
    sym (append_assoc (map (sighting_at types) old) (standing graph cut wanted name space) (standing_in graph cut wanted name others)) ∙ ap (λ xs. xs ++ standing_in graph cut wanted name others) (sym adds.seen)
