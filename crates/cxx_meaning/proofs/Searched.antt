-- Namespaces that a qualified lookup searches.
use Rattle.std.proofs.Common.{◌≡◌, ℕ, List, [], ◌∷◌, length, refl, subst, arith}
use Rattle.std.specs.List.{Contains}
use Rattle.cxx_model.specs.declared.types.ScopeId.{ScopeId}
use Rattle.cxx_model.specs.Facts.Declarations.{CxxGraph, CxxName}
use Rattle.cxx_meaning.specs.Lookups.Directives.{nominated}
use Rattle.cxx_meaning.specs.Lookups.Qualified.{EachIsSearched, IsSearched, Itself, Nominated, leads_to, searched}
use Rattle.cxx_meaning.specs.Lookups.Sightings.{Sighting, standing}
use Rattle.cxx_meaning.specs.Lookups.Wanted.{Wanted}
use Rattle.cxx_meaning.proofs.Reached.{all_of_one, all_spread}

leads_none : (graph : CxxGraph) (cut : ℕ) (wanted : Wanted) (name : CxxName) (m : ScopeId) → standing graph cut wanted name m ≡ [] → leads_to graph cut wanted name m ≡ nominated graph.facts cut m
unfolding leads_to
leads_none graph cut wanted name m e = rw e refl

leads_some : (graph : CxxGraph) (cut : ℕ) (wanted : Wanted) (name : CxxName) (m : ScopeId) (one : Sighting) (others : List Sighting) → standing graph cut wanted name m ≡ one ∷ others → leads_to graph cut wanted name m ≡ []
unfolding leads_to
leads_some graph cut wanted name m one others e = rw e refl

leads_searched : (graph : CxxGraph) (cut : ℕ) (wanted : Wanted) (name : CxxName) (from m n : ScopeId) → IsSearched graph cut wanted name from m → (sightings : List Sighting) → standing graph cut wanted name m ≡ sightings → Contains (leads_to graph cut wanted name m) n → IsSearched graph cut wanted name from n
leads_searched graph cut wanted name from m n h [] e there = Nominated m n h e (subst (λ (xs : List ScopeId). Contains xs n) (leads_none graph cut wanted name m e) there)
leads_searched graph cut wanted name from m n h (one ∷ others) e there = (let none = subst (λ (xs : List ScopeId). Contains xs n) (leads_some graph cut wanted name m one others e) there in absurd (omega (arith, none.1)))

pub each_is_searched : EachIsSearched
unfolding searched
each_is_searched graph cut wanted name from n there =
    all_spread (IsSearched graph cut wanted name from) (leads_to graph cut wanted name) (length graph.facts) 0 (from ∷ []) (λ m h k at. leads_searched graph cut wanted name from m k h (standing graph cut wanted name m) refl at) (λ k at. all_of_one (IsSearched graph cut wanted name from) from k Itself at) n there
