-- The scope of an enumeration, by its number (7.2).
use Rattle.std.proofs.Common.{◌≡◌, ◌+◌, ℕ, zero, suc, Bool, true, false, cond, nat_eq, List, [], ◌∷◌, ◌++◌, Some, refl, sym, ap, subst, ◌∙◌, arith}
use Rattle.std.specs.List.{slice_get}
use Rattle.std.specs.Option.{option_to_list}
use Rattle.std.proofs.lemmas.Bool.{eqb-true, eq-eqb}
use Rattle.cxx_model.specs.declared.facts.Entity.{Entity}
use Rattle.cxx_model.specs.declared.facts.Entity.TheVariants as entity
use Rattle.cxx_model.specs.declared.facts.Fact.{Fact}
use Rattle.cxx_model.specs.Facts.Declarations.{fact_at, facts_at, graph_at}
use Rattle.cxx_model.specs.Facts.Graph.{Graph, EachMayFollow, InRange, IsEntityInRange, MayFollow, counted, enumerations, is_enumeration}
use Rattle.cxx_model.specs.Types.Trees.{CxxType}
use Rattle.cxx_meaning.specs.Lookups.Associated.{declares_enumeration, first_scope, scope_of_enumeration}
use Rattle.cxx_names.specs.Index.{enumeration_by, enumeration_scopes}

-- each enumeration has the number of those before it
abbrev IsNumbered : ℕ → Entity → Type 0
IsNumbered count (entity.Enumeration number) = number.0 ≡ count
IsNumbered count _ = Unit {0}

abbrev AreNumbered : ℕ → List Fact → Type 0
AreNumbered count [] = Unit {0}
AreNumbered count (fact ∷ facts) = IsNumbered count fact.what × AreNumbered (counted (is_enumeration fact.what) count) facts

numbered_one : (graph : Graph) (before : List Fact) (fact : Fact) → MayFollow (record graph { facts = before }) fact → IsNumbered (enumerations before) fact.what
numbered_one graph [] fact follows = subst (IsNumbered 0) (sym follows.0) tt
numbered_one graph (one ∷ others) fact follows = by fact.what follows.1
  where
    by : (what : Entity) → IsEntityInRange (record graph { facts = one ∷ others }) fact what → IsNumbered (enumerations (one ∷ others)) what
    by (entity.Enumeration number) is = is
    by (entity.Scope parent kind) is = tt
    by (entity.Object of member is_mutable value first) is = tt
    by (entity.Function of member flags defaults first) is = tt
    by (entity.Template template member defaults is_explicit first) is = tt
    by (entity.Parameter depth index of) is = tt
    by (entity.Injected class) is = tt
    by (entity.Class class is_union) is = tt
    by (entity.Complete class) is = tt
    by (entity.Passed class) is = tt
    by (entity.Ancestor class parent index access) is = tt
    by (entity.Enumerator number value) is = tt
    by (entity.Synonym of) is = tt
    by (entity.Namespace inner) is = tt
    by (entity.Directive nominated) is = tt
    by (entity.Using target) is = tt
    by (entity.Friend class target) is = tt

counted_more : (p q : Bool) (n : ℕ) → counted p (counted q n) ≡ counted q (counted p n)
counted_more true true n = refl
counted_more true false n = refl
counted_more false true n = refl
counted_more false false n = refl

count_more : (facts : List Fact) (fact : Fact) → enumerations (facts ++ fact ∷ []) ≡ counted (is_enumeration fact.what) (enumerations facts)
count_more [] fact = refl
count_more (one ∷ facts) fact = ap (counted (is_enumeration one.what)) (count_more facts fact) ∙ counted_more (is_enumeration one.what) (is_enumeration fact.what) (enumerations facts)

numbered_all : (graph : Graph) (before facts : List Fact) → EachMayFollow graph before facts → AreNumbered (enumerations before) facts
numbered_all graph before [] follow = tt
numbered_all graph before (fact ∷ facts) follow = (numbered_one graph before fact follow.0, subst (λ n. AreNumbered n facts) (count_more before fact) (numbered_all graph (before ++ fact ∷ []) facts follow.1))

-- the scope at a place is that of the first enumeration with the number
placed : (types : List CxxType) (count n : ℕ) (facts : List Fact) → AreNumbered count facts → slice_get (enumeration_scopes facts) n ≡ first_scope (declares_enumeration (count + n)) (facts_at types facts)
placed types count n [] are = refl
placed types count n (fact ∷ facts) are = by fact.what n are.0 (λ m. placed types (counted (is_enumeration fact.what) count) m facts are.1)
  where
    same : (m : ℕ) → m ≡ count → nat_eq m (count + 0) ≡ true
    same m e = eq-eqb m (count + 0) (omega (arith, e))

    apart : (m k : ℕ) → m ≡ count → nat_eq m (count + suc k) ≡ false
    apart m k e = other (nat_eq m (count + suc k)) refl
      where
        other : (b : Bool) → nat_eq m (count + suc k) ≡ b → b ≡ false
        other true is = (let bad : m ≡ count + suc k = eqb-true m (count + suc k) is in absurd (omega (arith, e)))
        other false is = refl

    by : (what : Entity) (n : ℕ) → IsNumbered count what → ((m : ℕ) → slice_get (enumeration_scopes facts) m ≡ first_scope (declares_enumeration (counted (is_enumeration what) count + m)) (facts_at types facts))
        → slice_get (option_to_list (enumeration_by fact.scope what) ++ enumeration_scopes facts) n ≡ first_scope (declares_enumeration (count + n)) (fact_at types (record fact { what = what }) ∷ facts_at types facts)
    by (entity.Enumeration number) zero is rest = sym (ap (λ b. cond b (Some fact.scope) (first_scope (declares_enumeration (count + 0)) (facts_at types facts))) (same number.0 is))
    by (entity.Enumeration number) (suc k) is rest =
        rest k
        ∙ (ap (λ m. first_scope (declares_enumeration m) (facts_at types facts)) (let e : count + 1 + k ≡ count + suc k = omega arith in e)
        ∙ sym (ap (λ b. cond b (Some fact.scope) (first_scope (declares_enumeration (count + suc k)) (facts_at types facts))) (apart number.0 k is)))
    by _ n is rest = rest n

pub scope_is : (types : List CxxType) (graph : Graph) (number : ℕ) → InRange graph → slice_get (enumeration_scopes graph.facts) number ≡ scope_of_enumeration (graph_at types graph) number
scope_is types graph number range = placed types 0 number graph.facts (numbered_all graph [] graph.facts range.facts) ∙ ap (λ m. first_scope (declares_enumeration m) (facts_at types graph.facts)) (let e : 0 + number ≡ number = omega arith in e)
