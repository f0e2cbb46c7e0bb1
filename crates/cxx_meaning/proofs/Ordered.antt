-- In a graph in range bases are complete before they are named.
use Rattle.std.proofs.Common.{◌≡◌, Bool, true, false, not, ◌||◌, List, [], ◌∷◌, ◌++◌, None, refl, ap, ◌∙◌, subst}
use Rattle.cxx_model.specs.declared.facts.Access.{Access}
use Rattle.cxx_model.specs.declared.facts.Entity.{Entity}
use Rattle.cxx_model.specs.declared.facts.Entity.TheVariants as entity
use Rattle.cxx_model.specs.declared.facts.Fact.{Fact}
use Rattle.cxx_model.specs.declared.facts.Name.{Name}
use Rattle.cxx_model.specs.declared.facts.ScopeKind.TheVariants as kind
use Rattle.cxx_model.specs.declared.place.Place.{Place}
use Rattle.cxx_model.specs.declared.types.ClassId.{ClassId}
use Rattle.cxx_model.specs.declared.types.ScopeId.{ScopeId}
use Rattle.cxx_model.specs.Facts.Declarations.{declares_at, fact_at, facts_at}
use Rattle.cxx_model.specs.Facts.Graph.{EachMayFollow, Graph, MayFollow, completes, is_complete}
use Rattle.cxx_model.specs.Types.Trees.{CxxType}
use Rattle.cxx_meaning.specs.Lookups.Member.{BasesInOrder, FactsAreInOrder, StandsInOrder, ends, is_ended}

ends_same : (types : List CxxType) (place : Place) (scope : ScopeId) (name : Name) (access : Access) (what : Entity) (class : ClassId) → ends class (declares_at types what) ≡ completes class.0 (record { place = place; scope = scope; name = name; access = access; what = what })
ends_same types place scope name access (entity.Complete other) class = refl
ends_same types place scope name access _ class = refl

ended_same : (types : List CxxType) (all : List Fact) (class : ClassId) → is_ended (facts_at types all) class ≡ is_complete all class.0
ended_same types [] class = refl
ended_same types (fact ∷ others) class =
    ap (λ b. b || is_ended (facts_at types others) class) (ends_same types fact.place fact.scope fact.name fact.access fact.what class) ∙ ap (λ b. completes class.0 fact || b) (ended_same types others class)

not_true : (t : Bool) → not t ≡ true → t ≡ false
not_true true e = cc
not_true false e = refl

stands : (types : List CxxType) (graph : Graph) (before : List Fact) (place : Place) (scope : ScopeId) (name : Name) (access : Access) (what : Entity) → MayFollow (record graph { facts = before }) (record { place = place; scope = scope; name = name; access = access; what = what }) → StandsInOrder (facts_at types before) (declares_at types what)
stands types graph [] place scope name access (entity.Ancestor class parent index wider) h = (let no : entity.Ancestor class parent index wider ≡ entity.Scope None kind.Space = h.0 in absurd cc)
stands types graph (x ∷ xs) place scope name access (entity.Ancestor class parent index wider) h =
    (ended_same types (x ∷ xs) parent ∙ h.1.2, ended_same types (x ∷ xs) class ∙ not_true (is_complete (x ∷ xs) class.0) h.1.3)
stands types graph before place scope name access _ h = tt

one_more : (types : List CxxType) (before : List Fact) (fact : Fact) → facts_at types (before ++ fact ∷ []) ≡ facts_at types before ++ fact_at types fact ∷ []
one_more types [] fact = refl
one_more types (x ∷ xs) fact = ap (λ ys. fact_at types x ∷ ys) (one_more types xs fact)

ordered : (types : List CxxType) (graph : Graph) (later before : List Fact) → EachMayFollow graph before later → BasesInOrder (facts_at types before) (facts_at types later)
ordered types graph [] before h = tt
ordered types graph (fact ∷ later) before h =
    (stands types graph before fact.place fact.scope fact.name fact.access fact.what h.0, subst (λ xs. BasesInOrder xs (facts_at types later)) (one_more types before fact) (ordered types graph later (before ++ fact ∷ []) h.1))

pub facts_are_in_order : FactsAreInOrder
facts_are_in_order types graph range = ordered types graph graph.facts [] range.facts
