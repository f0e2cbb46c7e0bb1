-- What shows in a scope, one namespace after another.
use Rattle.std.proofs.Common.{◌≡◌, ℕ, List, ◌∷◌, ◌++◌, map, ap, sym, ◌∙◌, append_assoc}
use Rattle.cxx_model.specs.declared.types.ScopeId.{ScopeId}
use Rattle.cxx_model.specs.Types.Trees.{CxxType}
use Rattle.cxx_model.specs.Facts.Declarations.{CxxGraph, CxxName}
use Rattle.cxx_meaning.specs.Lookups.Directives.{Shown}
use Rattle.cxx_meaning.specs.Lookups.Ordinary.{standing_if, standing_shown}
use Rattle.cxx_meaning.specs.Lookups.Wanted.{Wanted}
use Rattle.cxx_members.specs.declared.sightings.Sighting.{Sighting}
use Rattle.cxx_members.specs.Sighted.{Adds, sighting_at}

pub shown_more : (types : List CxxType) (graph : CxxGraph) (cut : ℕ) (wanted : Wanted) (name : CxxName) (scope : ScopeId) (old new : List Sighting) (one : Shown) (others : List Shown) → Adds types old new (standing_if graph cut wanted name scope one) → map (sighting_at types) old ++ standing_shown graph cut wanted name scope (one ∷ others) ≡ map (sighting_at types) new ++ standing_shown graph cut wanted name scope others
unfolding standing_shown
shown_more types graph cut wanted name scope old new one others adds =
    sym (append_assoc (map (sighting_at types) old) (standing_if graph cut wanted name scope one) (standing_shown graph cut wanted name scope others)) ∙ ap (λ xs. xs ++ standing_shown graph cut wanted name scope others) (sym adds.seen)
