-- The scopes that the code keeps are those of the facts.
use Rattle.std.proofs.Common.{◌≡◌, ℕ, zero, suc, ◌+◌, ◌≤◌, List, [], ◌∷◌, ◌++◌, length, drop, Option, Some, None, refl, ap, sym, ◌∙◌, append_assoc}
use Rattle.std.specs.List.{slice_get}
use Rattle.std.proofs.lemmas.List.{append-nil, at_drop_all, at_drop_more}
use Rattle.std.proofs.lemmas.Option.{get_or_from_slice_get, slice_get_within}
use Rattle.cxx_model.specs.declared.facts.Entity.{Entity}
use Rattle.cxx_model.specs.declared.facts.Entity.TheVariants as entity
use Rattle.cxx_model.specs.declared.facts.Fact.{Fact}
use Rattle.cxx_model.specs.declared.facts.ScopeKind.{ScopeKind}
use Rattle.cxx_model.specs.declared.types.ScopeId.{ScopeId}
use Rattle.cxx_model.specs.Types.Trees.{CxxType}
use Rattle.cxx_model.specs.Facts.Declarations.{CxxFact, fact_at, facts_at}
use Rattle.cxx_model.specs.Facts.Entities.{scope_kinds}
use Rattle.cxx_model.specs.Facts.Conflicts.{scope_facts}
use Rattle.cxx_meaning.specs.Lookups.Gathered.{before}
use Rattle.cxx_meaning.specs.Lookups.Scopes.{kind_of, parent_of, unit_scope}
use Rattle.cxx_adl.specs.declared.scopes.Holder.{Holder}
use Rattle.cxx_adl.specs.Views.{holder_by, holders_of}

-- a fact more that makes no scope
pub holders_none : (found : List Holder) (fact : Fact) (others : List Fact) → holder_by fact.scope fact.what ≡ None → found ++ holders_of (fact ∷ others) ≡ found ++ holders_of others
holders_none found fact others e = ap (λ o. found ++ before o (holders_of others)) e

-- a fact more that makes one
pub holders_some : (found : List Holder) (fact : Fact) (others : List Fact) (holder : Holder) → holder_by fact.scope fact.what ≡ Some holder → found ++ holders_of (fact ∷ others) ≡ (found ++ holder ∷ []) ++ holders_of others
holders_some found fact others holder e = ap (λ o. found ++ before o (holders_of others)) e ∙ sym (append_assoc found (holder ∷ []) (holders_of others))

-- ---- kinds

abbrev pub kind_in : Option Holder → Option ScopeKind
kind_in None = None
kind_in (Some holder) = Some holder.kind

abbrev kinds_before : Option Holder → List ScopeKind → List ScopeKind
kinds_before None kinds = kinds
kinds_before (Some holder) kinds = holder.kind ∷ kinds

kinds_head : (types : List CxxType) (fact : Fact) (what : Entity) (others : List CxxFact) → scope_kinds (fact_at types (record fact { what = what }) ∷ others) ≡ kinds_before (holder_by fact.scope what) (scope_kinds others)
kinds_head types fact (entity.Scope parent kind) others = refl
kinds_head types fact _ others = refl

kinds_are : (types : List CxxType) (facts : List Fact) (n : ℕ) → slice_get (scope_kinds (facts_at types facts)) n ≡ kind_in (slice_get (holders_of facts) n)
kinds_are types [] n = refl
kinds_are types (fact ∷ facts) n = ap (λ kinds. slice_get kinds n) (kinds_head types fact fact.what (facts_at types facts)) ∙ by (holder_by fact.scope fact.what) n (kinds_are types facts)
  where
    by : (o : Option Holder) (n : ℕ) → ((m : ℕ) → slice_get (scope_kinds (facts_at types facts)) m ≡ kind_in (slice_get (holders_of facts) m)) → slice_get (kinds_before o (scope_kinds (facts_at types facts))) n ≡ kind_in (slice_get (before o (holders_of facts)) n)
    by None n rest = rest n
    by (Some holder) zero rest = refl
    by (Some holder) (suc n) rest = rest n

pub kind_is : (types : List CxxType) (facts : List Fact) (scope : ScopeId) → kind_of (facts_at types facts) scope ≡ kind_in (slice_get (holders_of facts) scope.0)
kind_is types facts scope = kinds_are types facts scope.0

-- ---- parents

abbrev pub parent_in : Option Holder → ScopeId
parent_in None = unit_scope
parent_in (Some holder) = holder.parent

abbrev parent_by_fact : Option CxxFact → ScopeId
parent_by_fact None = unit_scope
parent_by_fact (Some fact) = record { 0 = fact.scope }

abbrev facts_before : List CxxType → Fact → Option Holder → List CxxFact → List CxxFact
facts_before types fact None others = others
facts_before types fact (Some holder) others = fact_at types fact ∷ others

scopes_head : (types : List CxxType) (fact : Fact) (what : Entity) (others : List CxxFact) → scope_facts (fact_at types (record fact { what = what }) ∷ others) ≡ facts_before types (record fact { what = what }) (holder_by fact.scope what) (scope_facts others)
scopes_head types fact (entity.Scope parent kind) others = refl
scopes_head types fact _ others = refl

-- what is kept of a fact is the scope in which it stands
holder_is : (fact : Fact) (what : Entity) (holder : Holder) → holder_by fact.scope what ≡ Some holder → holder.parent ≡ fact.scope
holder_is fact (entity.Scope parent kind) holder e = sym (ap (λ o. parent_in o) e)
holder_is fact _ holder e = absurd cc

parents_are : (types : List CxxType) (facts : List Fact) (n : ℕ) → parent_by_fact (slice_get (scope_facts (facts_at types facts)) n) ≡ parent_in (slice_get (holders_of facts) n)
parents_are types [] n = refl
parents_are types (fact ∷ facts) n = ap (λ all. parent_by_fact (slice_get all n)) (scopes_head types fact fact.what (facts_at types facts)) ∙ by (holder_by fact.scope fact.what) refl n (parents_are types facts)
  where
    by : (o : Option Holder) → holder_by fact.scope fact.what ≡ o → (n : ℕ) → ((m : ℕ) → parent_by_fact (slice_get (scope_facts (facts_at types facts)) m) ≡ parent_in (slice_get (holders_of facts) m)) → parent_by_fact (slice_get (facts_before types fact o (scope_facts (facts_at types facts))) n) ≡ parent_in (slice_get (before o (holders_of facts)) n)
    by None e n rest = rest n
    by (Some holder) e zero rest = sym (holder_is fact fact.what holder e)
    by (Some holder) e (suc n) rest = rest n

parent_by : (all : List CxxFact) (scope : ScopeId) (o : Option CxxFact) → slice_get (scope_facts all) scope.0 ≡ o → parent_of all scope ≡ parent_by_fact o
parent_by all scope None e = rw e refl
parent_by all scope (Some fact) e = rw e refl

pub parent_is : (types : List CxxType) (facts : List Fact) (scope : ScopeId) → parent_of (facts_at types facts) scope ≡ parent_in (slice_get (holders_of facts) scope.0)
parent_is types facts scope = parent_by (facts_at types facts) scope (slice_get (scope_facts (facts_at types facts)) scope.0) refl ∙ parents_are types facts scope.0

-- ---- one fact after another, by number

read_more : (facts : List Fact) (n : ℕ) (fact : Fact) → slice_get facts n ≡ Some fact → holders_of (drop n facts) ≡ before (holder_by fact.scope fact.what) (holders_of (drop (n + 1) facts))
read_more facts n fact at = at_drop_more holders_of facts n fact (slice_get_within facts n fact at) ∙ ap (λ f. before (holder_by f.scope f.what) (holders_of (drop (n + 1) facts))) (get_or_from_slice_get facts n fact fact at)

pub read_none : (found : List Holder) (facts : List Fact) (n : ℕ) (fact : Fact) → slice_get facts n ≡ Some fact → holder_by fact.scope fact.what ≡ None → found ++ holders_of (drop n facts) ≡ found ++ holders_of (drop (n + 1) facts)
read_none found facts n fact at e = ap (λ xs. found ++ xs) (read_more facts n fact at ∙ ap (λ o. before o (holders_of (drop (n + 1) facts))) e)

pub read_some : (found : List Holder) (facts : List Fact) (n : ℕ) (fact : Fact) (holder : Holder) → slice_get facts n ≡ Some fact → holder_by fact.scope fact.what ≡ Some holder → found ++ holders_of (drop n facts) ≡ (found ++ holder ∷ []) ++ holders_of (drop (n + 1) facts)
read_some found facts n fact holder at e = ap (λ xs. found ++ xs) (read_more facts n fact at ∙ ap (λ o. before o (holders_of (drop (n + 1) facts))) e) ∙ sym (append_assoc found (holder ∷ []) (holders_of (drop (n + 1) facts)))

pub read_all : (found : List Holder) (facts : List Fact) (n : ℕ) → length facts ≤ n → found ++ holders_of (drop n facts) ≡ found
read_all found facts n le = at_drop_all (λ fs. found ++ holders_of fs) facts n le ∙ append-nil found
