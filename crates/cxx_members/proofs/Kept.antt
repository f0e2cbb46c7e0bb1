-- The scopes that an index keeps are those of its facts.
use Rattle.std.proofs.Common.{◌≡◌, ℕ, zero, suc, ◌+◌, ◌-◌, ◌<◌, ◌≤◌, append_assoc, true, false, eqb, List, [], ◌∷◌, ◌++◌, Option, Some, None, option_map, Bool, refl, ap, sym, ◌∙◌, subst, eq-eqb, arith}
use Rattle.std.specs.List.{slice_get}
use Rattle.std.proofs.lemmas.Bool.{eqb-true}
use Rattle.cxx_model.specs.declared.facts.Entity.{Entity}
use Rattle.cxx_model.specs.declared.facts.Entity.TheVariants as entity
use Rattle.cxx_model.specs.declared.facts.Fact.{Fact}
use Rattle.cxx_model.specs.declared.facts.ScopeKind.{ScopeKind}
use Rattle.cxx_model.specs.declared.types.ScopeId.{ScopeId}
use Rattle.cxx_model.specs.Types.Trees.{CxxType}
use Rattle.cxx_model.specs.Facts.Declarations.{CxxFact, fact_at, facts_at}
use Rattle.cxx_model.specs.Facts.Entities.{scope_kinds}
use Rattle.cxx_model.specs.Facts.Conflicts.{scope_facts}
use Rattle.cxx_model.specs.Facts.Fitted.{IsFactBelow, AreFactsBelow}
use Rattle.cxx_meaning.specs.Lookups.Gathered.{before}
use Rattle.cxx_meaning.specs.Lookups.Scopes.{kind_of, parent_of, unit_scope, up}
use Rattle.cxx_members.specs.declared.index.Noted.{Noted}
use Rattle.cxx_members.specs.Views.{scopes_of, noted_by}

-- ---- numbers of types

pub fact_below : (count : ℕ) (facts : List Fact) (number : ℕ) (fact : Fact) → AreFactsBelow count facts → slice_get facts number ≡ Some fact → IsFactBelow count fact
fact_below count [] number fact below at = absurd cc
fact_below count (one ∷ facts) zero fact below at = subst (λ f. IsFactBelow count f) (some_is one fact at) below.0
  where
    some_is : (x y : Fact) → Some x ≡ Some y → x ≡ y
    some_is x y e = cc
fact_below count (one ∷ facts) (suc number) fact below at = fact_below count facts number fact below.1 at

pub fact_is : (types : List CxxType) (facts : List Fact) (n : ℕ) → slice_get (facts_at types facts) n ≡ option_map (fact_at types) (slice_get facts n)
fact_is types [] n = refl
fact_is types (fact ∷ facts) zero = refl
fact_is types (fact ∷ facts) (suc n) = fact_is types facts n

-- ---- kinds

abbrev pub kind_in : Option Noted → Option ScopeKind
kind_in None = None
kind_in (Some noted) = Some noted.kind

abbrev kinds_before : Option Noted → List ScopeKind → List ScopeKind
kinds_before None kinds = kinds
kinds_before (Some noted) kinds = noted.kind ∷ kinds

kinds_head : (types : List CxxType) (fact : Fact) (what : Entity) (others : List CxxFact) → scope_kinds (fact_at types (record fact { what = what }) ∷ others) ≡ kinds_before (noted_by fact.scope what) (scope_kinds others)
kinds_head types fact (entity.Scope parent kind) others = refl
kinds_head types fact _ others = refl

kinds_are : (types : List CxxType) (facts : List Fact) (n : ℕ) → slice_get (scope_kinds (facts_at types facts)) n ≡ kind_in (slice_get (scopes_of facts) n)
kinds_are types [] n = refl
kinds_are types (fact ∷ facts) n = ap (λ kinds. slice_get kinds n) (kinds_head types fact fact.what (facts_at types facts)) ∙ by (noted_by fact.scope fact.what) n (kinds_are types facts)
  where
    by : (o : Option Noted) (n : ℕ) → ((m : ℕ) → slice_get (scope_kinds (facts_at types facts)) m ≡ kind_in (slice_get (scopes_of facts) m)) → slice_get (kinds_before o (scope_kinds (facts_at types facts))) n ≡ kind_in (slice_get (before o (scopes_of facts)) n)
    by None n rest = rest n
    by (Some noted) zero rest = refl
    by (Some noted) (suc n) rest = rest n

pub kind_is : (types : List CxxType) (facts : List Fact) (scope : ScopeId) → kind_of (facts_at types facts) scope ≡ kind_in (slice_get (scopes_of facts) scope.0)
kind_is types facts scope = kinds_are types facts scope.0

-- ---- parents

abbrev pub parent_in : Option Noted → ScopeId
parent_in None = unit_scope
parent_in (Some noted) = noted.parent

abbrev holder_of : Option CxxFact → ScopeId
holder_of None = unit_scope
holder_of (Some fact) = record { 0 = fact.scope }

abbrev facts_before : List CxxType → Fact → Option Noted → List CxxFact → List CxxFact
facts_before types fact None others = others
facts_before types fact (Some noted) others = fact_at types fact ∷ others

scopes_head : (types : List CxxType) (fact : Fact) (what : Entity) (others : List CxxFact) → scope_facts (fact_at types (record fact { what = what }) ∷ others) ≡ facts_before types (record fact { what = what }) (noted_by fact.scope what) (scope_facts others)
scopes_head types fact (entity.Scope parent kind) others = refl
scopes_head types fact _ others = refl

-- what is noted of a fact is the scope in which it stands
noted_holder : (fact : Fact) (what : Entity) (noted : Noted) → noted_by fact.scope what ≡ Some noted → noted.parent ≡ fact.scope
noted_holder fact (entity.Scope parent kind) noted e = sym (ap (λ o. parent_in o) e)
noted_holder fact _ noted e = absurd cc

parents_are : (types : List CxxType) (facts : List Fact) (n : ℕ) → holder_of (slice_get (scope_facts (facts_at types facts)) n) ≡ parent_in (slice_get (scopes_of facts) n)
parents_are types [] n = refl
parents_are types (fact ∷ facts) n = ap (λ all. holder_of (slice_get all n)) (scopes_head types fact fact.what (facts_at types facts)) ∙ by (noted_by fact.scope fact.what) refl n (parents_are types facts)
  where
    by : (o : Option Noted) → noted_by fact.scope fact.what ≡ o → (n : ℕ) → ((m : ℕ) → holder_of (slice_get (scope_facts (facts_at types facts)) m) ≡ parent_in (slice_get (scopes_of facts) m)) → holder_of (slice_get (facts_before types fact o (scope_facts (facts_at types facts))) n) ≡ parent_in (slice_get (before o (scopes_of facts)) n)
    by None e n rest = rest n
    by (Some noted) e zero rest = sym (noted_holder fact fact.what noted e)
    by (Some noted) e (suc n) rest = rest n

parent_by : (all : List CxxFact) (scope : ScopeId) (o : Option CxxFact) → slice_get (scope_facts all) scope.0 ≡ o → parent_of all scope ≡ holder_of o
parent_by all scope None e = rw e refl
parent_by all scope (Some fact) e = rw e refl

pub parent_is : (types : List CxxType) (facts : List Fact) (scope : ScopeId) → parent_of (facts_at types facts) scope ≡ parent_in (slice_get (scopes_of facts) scope.0)
parent_is types facts scope = parent_by (facts_at types facts) scope (slice_get (scope_facts (facts_at types facts)) scope.0) refl ∙ parents_are types facts scope.0

-- ---- chains

pub up_more : (all : List CxxFact) (room done : ℕ) (scope : ScopeId) → done < room → (scope.0 ≡ 0 → ⊥) → up all (room - done) scope ≡ scope ∷ up all (room - (done + 1)) (parent_of all scope)
unfolding up
up_more all room done scope lt ne =
    let k : room - done ≡ suc (room - (done + 1)) = omega arith in
    let h : eqb scope.0 0 ≡ false = other (eqb scope.0 0) refl in
    rw (k, h) refl
  where
    other : (t : Bool) → eqb scope.0 0 ≡ t → eqb scope.0 0 ≡ false
    other true h = absurd (ne (eqb-true scope.0 0 h))
    other false h = h

pub up_unit : (all : List CxxFact) (room done : ℕ) (scope : ScopeId) → done < room → scope.0 ≡ 0 → up all (room - done) scope ≡ scope ∷ []
unfolding up
up_unit all room done scope lt e =
    let k : room - done ≡ suc (room - (done + 1)) = omega arith in
    let h : eqb scope.0 0 ≡ true = eq-eqb scope.0 0 e in
    rw (k, h) refl

pub up_last : (all : List CxxFact) (room done : ℕ) (scope : ScopeId) → room ≤ done → up all (room - done) scope ≡ scope ∷ []
unfolding up
up_last all room done scope le =
    let k : room - done ≡ 0 = omega arith in
    rw k refl

-- one scope more of a chain, after some
pub chain_more : (all : List CxxFact) (room done : ℕ) (found : List ScopeId) (scope : ScopeId) → done < room → (scope.0 ≡ 0 → ⊥) → found ++ up all (room - done) scope ≡ (found ++ scope ∷ []) ++ up all (room - (done + 1)) (parent_of all scope)
chain_more all room done found scope lt ne = ap (λ xs. found ++ xs) (up_more all room done scope lt ne) ∙ sym (append_assoc found (scope ∷ []) (up all (room - (done + 1)) (parent_of all scope)))
