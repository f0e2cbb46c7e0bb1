-- The class of a scope, by the scopes that are held under each class.
use Rattle.std.proofs.Common.{◌≡◌, ℕ, zero, suc, ◌+◌, ◌<◌, Bool, true, false, cond, ◌||◌, List, [], ◌∷◌, ◌++◌, Option, Some, None, refl, ap, sym, ◌∙◌, arith, nat_eq}
use Rattle.std.specs.List.{list_any, slice_get}
use Rattle.std.specs.Option.{option_to_list}
use Rattle.cxx_model.specs.declared.facts.Entity.{Entity}
use Rattle.cxx_model.specs.declared.facts.Entity.TheVariants as entity
use Rattle.cxx_model.specs.declared.facts.Fact.{Fact}
use Rattle.cxx_model.specs.declared.facts.ScopeKind.{ScopeKind}
use Rattle.cxx_model.specs.declared.facts.ScopeKind.TheVariants as kind
use Rattle.cxx_model.specs.declared.types.ClassId.{ClassId}
use Rattle.cxx_model.specs.declared.types.ScopeId.{ScopeId}
use Rattle.cxx_model.specs.Facts.Declarations.{CxxFact, fact_at, facts_at}
use Rattle.cxx_model.specs.Facts.Entities.{scope_kinds}
use Rattle.cxx_model.specs.Types.Trees.{CxxType}
use Rattle.cxx_meaning.specs.Lookups.Member.{class_of_scope, is_of_class}
use Rattle.cxx_names.specs.Holders.{held_by, held_from, kind_in, next_scope}
use Rattle.cxx_names.specs.Index.{of_class}

abbrev class_by : Option ScopeKind → Option ClassId
class_by (Some (kind.Class class)) = Some class
class_by _ = None

class_is_by : (all : List CxxFact) (scope : ScopeId) (o : Option ScopeKind) → slice_get (scope_kinds all) scope.0 ≡ o → class_of_scope all scope ≡ class_by o
class_is_by all scope None e = rw e refl
class_is_by all scope (Some kind.Space) e = rw e refl
class_is_by all scope (Some (kind.Class class)) e = rw e refl
class_is_by all scope (Some (kind.Block function)) e = rw e refl
class_is_by all scope (Some kind.Parameters) e = rw e refl

abbrev kinds_before : Option ScopeKind → List ScopeKind → List ScopeKind
kinds_before None kinds = kinds
kinds_before (Some kind) kinds = kind ∷ kinds

kinds_head : (types : List CxxType) (fact : Fact) (what : Entity) (others : List CxxFact) → scope_kinds (fact_at types (record fact { what = what }) ∷ others) ≡ kinds_before (kind_in what) (scope_kinds others)
kinds_head types fact (entity.Scope parent kind) others = refl
kinds_head types fact _ others = refl

abbrev is_among : ℕ → List ScopeId → Bool
is_among n scopes = list_any (λ scope. nat_eq n scope.0) scopes

not_same : (m n : ℕ) → m < n → nat_eq m n ≡ false
not_same m n lt = grind arith

not_later : (m n : ℕ) → n < m → nat_eq m n ≡ false
not_later m n lt = grind arith

same_one : (m n : ℕ) → m ≡ n → nat_eq m n ≡ true
same_one m n e = grind arith

-- the scopes of classes among later ones are later
none_before : (class : ClassId) (m n : ℕ) (facts : List Fact) → m < n → is_among m (of_class class (held_from n facts)) ≡ false
none_before class m n [] lt = refl
none_before class m n (fact ∷ facts) lt = by (kind_in fact.what) (none_before class m n facts lt) (none_before class m (suc n) facts (omega arith))
  where
    later : List ScopeId
    later = of_class class (held_from (suc n) facts)

    at : (t : Bool) → is_among m later ≡ false → is_among m (cond t (record { 0 = n } ∷ later) later) ≡ false
    at true rest = ap (λ b. b || is_among m later) (not_same m n lt) ∙ rest
    at false rest = rest

    by : (o : Option ScopeKind) → is_among m (of_class class (held_from n facts)) ≡ false → is_among m later ≡ false → is_among m (of_class class (option_to_list (held_by n o) ++ held_from (next_scope n o) facts)) ≡ false
    by None here rest = here
    by (Some kind.Space) here rest = rest
    by (Some (kind.Class other)) here rest = at (nat_eq other.0 class.0) rest
    by (Some (kind.Block function)) here rest = rest
    by (Some kind.Parameters) here rest = rest

scopes_are : (types : List CxxType) (class : ClassId) (n k : ℕ) (facts : List Fact) → is_of_class class (class_by (slice_get (scope_kinds (facts_at types facts)) k)) ≡ is_among (n + k) (of_class class (held_from n facts))
scopes_are types class n k [] = refl
scopes_are types class n k (fact ∷ facts) = ap (λ kinds. is_of_class class (class_by (slice_get kinds k))) (kinds_head types fact fact.what (facts_at types facts)) ∙ by (kind_in fact.what) k (λ m. scopes_are types class n m facts) (λ m. scopes_are types class (suc n) m facts) (none_before class (n + 0) (suc n) facts (omega arith))
  where
    later : List ScopeId
    later = of_class class (held_from (suc n) facts)

    kinds : List ScopeKind
    kinds = scope_kinds (facts_at types facts)

    first : (t : Bool) → is_among (n + 0) later ≡ false → t ≡ is_among (n + 0) (cond t (record { 0 = n } ∷ later) later)
    first true none = sym (ap (λ b. b || is_among (n + 0) later) (same_one (n + 0) n (omega arith)))
    first false none = sym none

    others : (m : ℕ) (t : Bool) → is_among (suc n + m) later ≡ is_among (n + suc m) (cond t (record { 0 = n } ∷ later) later)
    others m true = let e : suc n + m ≡ n + suc m = omega arith in ap (λ j. is_among j later) e ∙ sym (ap (λ b. b || is_among (n + suc m) later) (not_later (n + suc m) n (omega arith)))
    others m false = let e : suc n + m ≡ n + suc m = omega arith in ap (λ j. is_among j later) e

    by : (o : Option ScopeKind) (m : ℕ) → ((j : ℕ) → is_of_class class (class_by (slice_get kinds j)) ≡ is_among (n + j) (of_class class (held_from n facts))) → ((j : ℕ) → is_of_class class (class_by (slice_get kinds j)) ≡ is_among (suc n + j) later) → is_among (n + 0) later ≡ false → is_of_class class (class_by (slice_get (kinds_before o kinds) m)) ≡ is_among (n + m) (of_class class (option_to_list (held_by n o) ++ held_from (next_scope n o) facts))
    by None m here rest none = here m
    by (Some kind.Space) zero here rest none = sym none
    by (Some (kind.Class other)) zero here rest none = first (nat_eq other.0 class.0) none
    by (Some (kind.Block function)) zero here rest none = sym none
    by (Some kind.Parameters) zero here rest none = sym none
    by (Some kind.Space) (suc m) here rest none = rest m ∙ others m false
    by (Some (kind.Class other)) (suc m) here rest none = rest m ∙ others m (nat_eq other.0 class.0)
    by (Some (kind.Block function)) (suc m) here rest none = rest m ∙ others m false
    by (Some kind.Parameters) (suc m) here rest none = rest m ∙ others m false

-- 9.2: a scope is of the class under which it is held
pub of_class_is : (types : List CxxType) (facts : List Fact) (class : ClassId) (scope : ScopeId) → is_of_class class (class_of_scope (facts_at types facts) scope) ≡ list_any (λ one. nat_eq scope.0 one.0) (of_class class (held_from 0 facts))
of_class_is types facts class scope =
    let e : 0 + scope.0 ≡ scope.0 = omega arith in
    ap (is_of_class class) (class_is_by (facts_at types facts) scope (slice_get (scope_kinds (facts_at types facts)) scope.0) refl) ∙ (scopes_are types class 0 scope.0 facts ∙ ap (λ j. is_among j (of_class class (held_from 0 facts))) e)
