-- When a declaration may follow the facts of a graph.
use Rattle.std.specs.Prelude.{ℕ, ◌≡◌, ◌<◌, List, [], ◌∷◌, length}
use Rattle.std.proofs.Common.{sym, subst, arith}
use Rattle.cxx_model.specs.declared.facts.Entity.{Entity}
use Rattle.cxx_model.specs.declared.facts.Fact.{Fact}
use Rattle.cxx_model.specs.Facts.Graph.{EachMayFollow, Graph, InRange, IsEntityInRange, IsUnitScope, MayFollow, appended, scopes}
use Rattle.cxx_graph.proofs.GraphRange.{appended-in-range}
use Rattle.cxx_library_tests.specs.Sample.{sample}

follows : (graph : Graph) (facts : List Fact) (fact : Fact) → 0 < length facts → fact.scope.0 < scopes facts → IsEntityInRange (record graph { facts = facts }) fact fact.what → MayFollow (record graph { facts = facts }) fact
follows graph [] fact some scope names = absurd (omega (arith, some))
follows graph (x ∷ xs) fact some scope names = (scope, names)

-- 3.3.5: the scope of the unit is there
has-scope : (graph : Graph) (facts : List Fact) → EachMayFollow graph [] facts → 0 < length facts → 0 < scopes facts
has-scope graph [] each some = absurd (omega (arith, some))
has-scope graph (x ∷ xs) each some =
    let first : IsUnitScope x = each.0 in
    subst (λ (w : Entity). 0 < scopes (record x { what = w } ∷ xs)) (sym first.0) (omega arith)

pub declared-in-range : (graph : Graph) (what : Entity) → InRange graph → 0 < length graph.facts → IsEntityInRange graph (sample (record { 0 = 0 }) what) what → InRange (appended graph (sample (record { 0 = 0 }) what))
declared-in-range graph what ok some names = appended-in-range graph (sample (record { 0 = 0 }) what) ok (follows graph graph.facts (sample (record { 0 = 0 }) what) some (has-scope graph graph.facts ok.facts some) names)

pub some-facts : (facts : List Fact) (n : ℕ) → n ≡ length facts → (n ≡ 0 → ⊥) → 0 < length facts
some-facts [] n is none = absurd (none is)
some-facts (x ∷ xs) n is none = omega arith
