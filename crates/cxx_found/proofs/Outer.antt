-- The scope that holds a scope.
use Rattle.std.proofs.Common.{◌≡◌, ℕ, suc, ◌<◌, ◌≤◌, List, [], ◌∷◌, length, Option, Some, None, refl, ap, arith}
use Rattle.std.specs.List.{slice_get}
use Rattle.cxx_model.specs.declared.types.ScopeId.{ScopeId}
use Rattle.cxx_model.specs.Facts.Conflicts.{scope_facts}
use Rattle.cxx_model.specs.Facts.Declarations as facts
use Rattle.cxx_model.specs.Facts.Declarations.{CxxFact, CxxGraph, Declares}
use Rattle.cxx_model.specs.Facts.Entities.{scope_kinds}
use Rattle.cxx_meaning.specs.Lookups.Scopes.{parent_of, unit_scope}
use Rattle.cxx_reading.specs.Declaring.{scope_count}
use Rattle.cxx_reading.specs.Seen.{parent_of as holder_of}
use Rattle.cxx_found.proofs.Facts.{past, within}

as_many : (all : List CxxFact) → length (scope_facts all) ≡ length (scope_kinds all)
as_many [] = refl
as_many (fact ∷ others) = by fact.what (as_many others)
  where
    by : (what : Declares) → length (scope_facts others) ≡ length (scope_kinds others) → length (scope_facts (record fact { what = what } ∷ others)) ≡ length (scope_kinds (record fact { what = what } ∷ others))
    by (facts.scope parent kind) e = ap suc e
    by _ e = e

there_by : (graph : CxxGraph) (scope outer : ScopeId) (o : Option CxxFact) → slice_get (scope_facts graph.facts) scope.0 ≡ o → (o ≡ None → ⊥) → outer.0 ≡ holder_of graph scope.0 → outer ≡ parent_of graph.facts scope
there_by graph scope outer None e some is = absurd (some refl)
there_by graph scope outer (Some fact) e some is = rw e (ap (λ n. record { 0 = n }) (rw e at is))

pub outer_there : (graph : CxxGraph) (scope outer : ScopeId) (count : ℕ) → count ≡ scope_count graph → scope.0 < count → outer.0 ≡ holder_of graph scope.0 → outer ≡ parent_of graph.facts scope
outer_there graph scope outer count counted lt is = there_by graph scope outer (slice_get (scope_facts graph.facts) scope.0) refl (λ none. absurd (omega (arith, within (scope_facts graph.facts) scope.0 none, as_many graph.facts))) is

pub outer_none : (graph : CxxGraph) (scope : ScopeId) (count : ℕ) → count ≡ scope_count graph → count ≤ scope.0 → unit_scope ≡ parent_of graph.facts scope
outer_none graph scope count counted le =
    let none : slice_get (scope_facts graph.facts) scope.0 ≡ None = past (scope_facts graph.facts) scope.0 (omega (arith, as_many graph.facts)) in
    rw none refl
