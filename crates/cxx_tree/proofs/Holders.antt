-- The class of a scope is there.
use Rattle.std.specs.Prelude.{ℕ, zero, suc, ◌≡◌, ◌<◌, ◌++◌, List, [], ◌∷◌, length, Option, Some, None, refl}
use Rattle.std.specs.List.{slice_get}
use Rattle.std.proofs.Common.{sym, subst}
use Rattle.cxx_model.specs.declared.facts.Entity.{Entity}
use Rattle.cxx_model.specs.declared.facts.Entity.TheVariants as entity
use Rattle.cxx_model.specs.declared.facts.Fact.{Fact}
use Rattle.cxx_model.specs.declared.facts.ScopeKind.{ScopeKind}
use Rattle.cxx_model.specs.declared.facts.ScopeKind.TheVariants as kind
use Rattle.cxx_model.specs.declared.types.ClassId.{ClassId}
use Rattle.cxx_model.specs.declared.types.ScopeId.{ScopeId}
use Rattle.cxx_model.specs.Facts.Declarations.{CxxFact, fact_at, facts_at}
use Rattle.cxx_model.specs.Facts.Entities.{scope_kinds}
use Rattle.cxx_model.specs.Facts.Graph.{EachMayFollow, Graph, InRange, IsClassNumberInRange, IsEntityInRange, IsKindInRange, MayFollow}
use Rattle.cxx_model.specs.Types.Trees.{CxxType}
use Rattle.cxx_meaning.specs.Lookups.Member.{class_of_scope}

abbrev IsHolderThere : ℕ → ScopeKind → Type 0
IsHolderThere count (kind.Class class) = class.0 < count
IsHolderThere count _ = Unit {0}

abbrev AreHoldersThere : ℕ → List ScopeKind → Type 0
AreHoldersThere count [] = Unit {0}
AreHoldersThere count (one ∷ others) = IsHolderThere count one × AreHoldersThere count others

kind_there : (graph : Graph) (before : List Fact) (k : ScopeKind) → IsKindInRange (record graph { facts = before }) k → IsHolderThere (length graph.classes) k
kind_there graph before (kind.Class class) ok = ok
kind_there graph before kind.Space ok = tt
kind_there graph before (kind.Block function) ok = tt
kind_there graph before kind.Parameters ok = tt

kinds_follow : (types : List CxxType) (graph : Graph) (before : List Fact) (fact : Fact) (others : List CxxFact) → MayFollow (record graph { facts = before }) fact → AreHoldersThere (length graph.classes) (scope_kinds others) → AreHoldersThere (length graph.classes) (scope_kinds (fact_at types fact ∷ others))
kinds_follow types graph [] fact others ok rest = subst (λ w. AreHoldersThere (length graph.classes) (scope_kinds (fact_at types (record fact { what = w }) ∷ others))) (sym ok.0) (tt, rest)
kinds_follow types graph (one ∷ before) fact others ok rest = by fact.what ok.1
  where
    by : (what : Entity) → IsEntityInRange (record graph { facts = one ∷ before }) fact what → AreHoldersThere (length graph.classes) (scope_kinds (fact_at types (record fact { what = what }) ∷ others))
    by (entity.Scope None k) there = absurd there
    by (entity.Scope (Some parent) k) there = (kind_there graph (one ∷ before) k there.1, rest)
    by _ there = rest

kinds_there : (types : List CxxType) (graph : Graph) (before facts : List Fact) → EachMayFollow graph before facts → AreHoldersThere (length graph.classes) (scope_kinds (facts_at types facts))
kinds_there types graph before [] ok = tt
kinds_there types graph before (fact ∷ others) ok = kinds_follow types graph before fact (facts_at types others) ok.0 (kinds_there types graph (before ++ fact ∷ []) others ok.1)

holder_at : (count : ℕ) (kinds : List ScopeKind) (n : ℕ) (k : ScopeKind) → AreHoldersThere count kinds → slice_get kinds n ≡ Some k → IsHolderThere count k
holder_at count [] n k ok at = absurd cc
holder_at count (one ∷ others) zero k ok at = (let same : one ≡ k = cc in subst (λ o. IsHolderThere count o) same ok.0)
holder_at count (one ∷ others) (suc n) k ok at = holder_at count others n k ok.1 at

class_there : (types : List CxxType) (graph : Graph) (scope : ScopeId) → InRange graph → IsClassNumberInRange graph (class_of_scope (facts_at types graph.facts) scope)
class_there types graph scope ok = by (slice_get (scope_kinds all) scope.0) refl
  where
    all : List CxxFact
    all = facts_at types graph.facts

    by : (o : Option ScopeKind) → slice_get (scope_kinds all) scope.0 ≡ o → IsClassNumberInRange graph (class_of_scope all scope)
    by None is = rw is tt
    by (Some (kind.Class class)) is = rw is (holder_at (length graph.classes) (scope_kinds all) scope.0 (kind.Class class) (kinds_there types graph [] graph.facts ok.facts) is)
    by (Some kind.Space) is = rw is tt
    by (Some (kind.Block function)) is = rw is tt
    by (Some kind.Parameters) is = rw is tt

pub class_below : (graph there : Graph) (scope : ScopeId) (found : Option ClassId) → there ≡ graph → InRange there → ((types : List CxxType) → found ≡ class_of_scope (facts_at types there.facts) scope) → IsClassNumberInRange graph found
class_below graph there scope found same ok is =
    subst (λ (g : Graph). IsClassNumberInRange g found) same (subst (λ (o : Option ClassId). IsClassNumberInRange there o) (sym (is [])) (class_there [] there scope ok))
