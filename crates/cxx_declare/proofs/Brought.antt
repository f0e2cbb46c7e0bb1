-- What a using-declaration brings are declarations that are there (7.3.3).
use Rattle.std.specs.Prelude.{ℕ, zero, suc, ◌≡◌, ◌<◌, ◌≤◌, ◌+◌, ◌++◌, Bool, true, false, not, ◌&&◌, nat_eq, nat_lt, if◌then◌else◌, List, [], ◌∷◌, length, map, Option, Some, None, Ok, refl}
use Rattle.std.specs.List.{slice_get}
use Rattle.std.proofs.Common.{sym, subst, arith, length-append}
use Rattle.cxx_model.specs.declared.facts.Entity.{Entity}
use Rattle.cxx_model.specs.declared.facts.Entity.TheVariants as entity
use Rattle.cxx_model.specs.declared.facts.Fact.{Fact}
use Rattle.cxx_model.specs.declared.lookup.Found.{Found}
use Rattle.cxx_model.specs.declared.lookup.Found.TheVariants as found
use Rattle.cxx_model.specs.declared.types.FactId.{FactId}
use Rattle.cxx_model.specs.declared.types.ScopeId.{ScopeId}
use Rattle.cxx_model.specs.Facts.Declarations as facts
use Rattle.cxx_model.specs.Facts.Declarations.{CxxFact, CxxGraph, CxxName, Declares, declares_at, facts_at, graph_at}
use Rattle.cxx_model.specs.Facts.Entities.{CxxEntity, entity_by, first_or, is_seen, meant_by, of_space, of_type, same_entity}
use Rattle.cxx_model.specs.Facts.Graph.{EachMayFollow, Graph, InRange, IsEntityInRange, MayFollow}
use Rattle.cxx_model.specs.Types.Trees.{CxxType}
use Rattle.cxx_meaning.specs.Lookups.Gathered.{before, gathered, with_fact, with_facts}
use Rattle.cxx_meaning.specs.Lookups.Qualified.{brought, brought_by, brought_in, searched, sightings_of, standing_in}
use Rattle.cxx_meaning.specs.Lookups.Sightings.{Sighting, entities, entity_meant, is_by_friend, is_named, least_of, looked_up, named_by, sighting_in, sighting_of, standing, when}
use Rattle.cxx_meaning.specs.Lookups.Wanted.{Wanted, any_name, is_wanted}
use Rattle.cxx_declare.specs.Brought.{AreFoundThere, AreThere, IsFoundThere}
use Rattle.cxx_tree.specs.Held.{Held}
use Rattle.cxx_tree.proofs.Graphs.{length_facts}

-- ---- what declarations name

abbrev IsFirstThere : ℕ → Option FactId → Type 0
IsFirstThere count None = Unit {0}
IsFirstThere count (Some first) = first.0 < count

abbrev NamesThere : ℕ → Declares → Type 0
NamesThere count (facts.object of member is_mutable value first) = IsFirstThere count first
NamesThere count (facts.function of member flags defaults first) = IsFirstThere count first
NamesThere count (facts.template template member defaults is_explicit first) = IsFirstThere count first
NamesThere count (facts.using target) = target.0 < count
NamesThere count _ = Unit {0}

abbrev AreNamesThere : ℕ → List CxxFact → Type 0
AreNamesThere count [] = Unit {0}
AreNamesThere count (fact ∷ others) = NamesThere count fact.what × AreNamesThere count others

get_within : {A : Type 0} (xs : List A) (n : ℕ) (x : A) → slice_get xs n ≡ Some x → n < length xs
get_within [] n x at = absurd (cc)
get_within (y ∷ ys) zero x at = omega arith
get_within (y ∷ ys) (suc n) x at = (let within : n < length ys = get_within ys n x at in omega arith)

first_within : (count : ℕ) (all : List Fact) (n : ℕ) (fact : Fact) → length all ≤ count → slice_get all n ≡ Some fact → n < count
first_within count all n fact le at = (let within : n < length all = get_within all n fact at in omega arith)

entity_names : (count : ℕ) (types : List CxxType) (graph : Graph) (fact : Fact) (what : Entity) → length graph.facts ≤ count → IsEntityInRange graph fact what → NamesThere count (declares_at types what)
entity_names count types graph fact (entity.Object of member is_mutable value None) le ok = tt
entity_names count types graph fact (entity.Object of member is_mutable value (Some first)) le ok = first_within count graph.facts first.0 ok.0 le ok.1
entity_names count types graph fact (entity.Function of member flags defaults None) le ok = tt
entity_names count types graph fact (entity.Function of member flags defaults (Some first)) le ok = first_within count graph.facts first.0 ok.0 le ok.1
entity_names count types graph fact (entity.Template number member defaults is_explicit None) le ok = tt
entity_names count types graph fact (entity.Template number member defaults is_explicit (Some first)) le ok = first_within count graph.facts first.0 ok.1.0 le ok.1.1
entity_names count types graph fact (entity.Using target) le ok = omega (arith, le, ok)
entity_names count types graph fact (entity.Scope parent kind) le ok = tt
entity_names count types graph fact (entity.Parameter depth index of) le ok = tt
entity_names count types graph fact (entity.Injected number) le ok = tt
entity_names count types graph fact (entity.Class number is_union) le ok = tt
entity_names count types graph fact (entity.Complete number) le ok = tt
entity_names count types graph fact (entity.Passed number) le ok = tt
entity_names count types graph fact (entity.Ancestor number parent index access) le ok = tt
entity_names count types graph fact (entity.Enumeration number) le ok = tt
entity_names count types graph fact (entity.Enumerator number value) le ok = tt
entity_names count types graph fact (entity.Synonym of) le ok = tt
entity_names count types graph fact (entity.Namespace inner) le ok = tt
entity_names count types graph fact (entity.Directive nominated) le ok = tt
entity_names count types graph fact (entity.Friend number target) le ok = tt

fact_names : (count : ℕ) (types : List CxxType) (graph : Graph) (earlier : List Fact) (fact : Fact) → length earlier ≤ count → MayFollow (record graph { facts = earlier }) fact → NamesThere count (declares_at types fact.what)
fact_names count types graph [] fact le ok = subst (λ w. NamesThere count (declares_at types w)) (sym ok.0) tt
fact_names count types graph (one ∷ earlier) fact le ok = entity_names count types (record graph { facts = one ∷ earlier }) fact fact.what le ok.1

facts_name : (count : ℕ) (types : List CxxType) (graph : Graph) (earlier all : List Fact) → length earlier + length all ≤ count → EachMayFollow graph earlier all → AreNamesThere count (facts_at types all)
facts_name count types graph earlier [] le ok = tt
facts_name count types graph earlier (one ∷ others) le ok =
    let next : length (earlier ++ one ∷ []) ≡ length earlier + 1 = length-append earlier (one ∷ []) in
    (fact_names count types graph earlier one (omega (arith, le)) ok.0, facts_name count types graph (earlier ++ one ∷ []) others (omega (arith, le, next)) ok.1)

abbrev IsNameThere : ℕ → Option CxxFact → Type 0
IsNameThere count None = Unit {0}
IsNameThere count (Some fact) = NamesThere count fact.what

name_at : (count : ℕ) (all : List CxxFact) (n : ℕ) → AreNamesThere count all → IsNameThere count (slice_get all n)
name_at count [] n ok = tt
name_at count (one ∷ others) zero ok = ok.0
name_at count (one ∷ others) (suc n) ok = name_at count others n ok.1

-- ---- what a lookup sees

abbrev IsSeenThere : ℕ → Sighting → Type 0
IsSeenThere count one = (one.meant.0 < count) × NamesThere count one.what

abbrev AreSeenThere : ℕ → List Sighting → Type 0
AreSeenThere count [] = Unit {0}
AreSeenThere count (one ∷ others) = IsSeenThere count one × AreSeenThere count others

abbrev IsMeantThere : ℕ → List CxxFact → ℕ → Declares → Type 0
IsMeantThere count all number what = ((meant_by all number what).number < count) × NamesThere count (meant_by all number what).what

meant_there : (count : ℕ) (all : List CxxFact) (number : ℕ) (what : Declares) → AreNamesThere count all → number < count → NamesThere count what → IsMeantThere count all number what
meant_there count all number (facts.using target) ok within names = by (slice_get all target.0) refl (name_at count all target.0 ok)
  where
    by : (o : Option CxxFact) → slice_get all target.0 ≡ o → IsNameThere count o → IsMeantThere count all number (facts.using target)
    by None at it = rw at ((names, names))
    by (Some fact) at it = rw at ((names, it))
meant_there count all number (facts.object of member is_mutable value first) ok within names = (within, names)
meant_there count all number (facts.function of member flags defaults first) ok within names = (within, names)
meant_there count all number (facts.template template member defaults is_explicit first) ok within names = (within, names)
meant_there count all number (facts.scope parent kind) ok within names = (within, names)
meant_there count all number (facts.value_parameter depth index of) ok within names = (within, names)
meant_there count all number (facts.injected class) ok within names = (within, names)
meant_there count all number (facts.class class is_union) ok within names = (within, names)
meant_there count all number (facts.complete class) ok within names = (within, names)
meant_there count all number (facts.passed class) ok within names = (within, names)
meant_there count all number (facts.ancestor class parent index access) ok within names = (within, names)
meant_there count all number (facts.enumeration n) ok within names = (within, names)
meant_there count all number (facts.enumerator n value) ok within names = (within, names)
meant_there count all number (facts.synonym of) ok within names = (within, names)
meant_there count all number (facts.namespace inner) ok within names = (within, names)
meant_there count all number (facts.directive nominated) ok within names = (within, names)
meant_there count all number (facts.friend class target) ok within names = (within, names)

sighting_there : (count : ℕ) (all : List CxxFact) (number : ℕ) (fact : CxxFact) → AreNamesThere count all → number < count → NamesThere count fact.what → IsSeenThere count (sighting_of all number fact)
sighting_there count all number fact ok within names = meant_there count all number fact.what ok within names

abbrev IsOneSeenThere : ℕ → Option Sighting → Type 0
IsOneSeenThere count None = Unit {0}
IsOneSeenThere count (Some one) = IsSeenThere count one

one_there : (count : ℕ) (graph : CxxGraph) (wanted : Wanted) (name : CxxName) (scope : ScopeId) (cut number : ℕ) (fact : CxxFact) → AreNamesThere count graph.facts → number < count → NamesThere count fact.what → IsOneSeenThere count (sighting_in graph cut wanted name scope number fact)
unfolding sighting_in
one_there count graph wanted name scope cut number fact ok within names =
    by (nat_eq fact.scope scope.0 && (is_named name fact && (is_seen graph.facts cut number fact && not (is_by_friend graph.facts number fact)))) (is_wanted graph wanted (sighting_of graph.facts number fact).what)
  where
    by : (b c : Bool) → IsOneSeenThere count (if b then when c (sighting_of graph.facts number fact) else None)
    by true true = sighting_there count graph.facts number fact ok within names
    by true false = tt
    by false c = tt

before_there : (count : ℕ) (one : Option Sighting) (others : List Sighting) → IsOneSeenThere count one → AreSeenThere count others → AreSeenThere count (before one others)
before_there count None others it ok = ok
before_there count (Some one) others it ok = (it, ok)

gathered_there : (count : ℕ) (graph : CxxGraph) (wanted : Wanted) (name : CxxName) (scope : ScopeId) (cut number : ℕ) (all : List CxxFact) → AreNamesThere count graph.facts → number + length all ≤ count → AreNamesThere count all → AreSeenThere count (gathered (sighting_in graph cut wanted name scope) number all)
gathered_there count graph wanted name scope cut number [] ok le names = tt
gathered_there count graph wanted name scope cut number (fact ∷ others) ok le names =
    before_there count (sighting_in graph cut wanted name scope number fact) (gathered (sighting_in graph cut wanted name scope) (number + 1) others)
    (one_there count graph wanted name scope cut number fact ok (omega (arith, le)) names.0)
    (gathered_there count graph wanted name scope cut (number + 1) others ok (omega (arith, le)) names.1)

standing_there : (count : ℕ) (graph : CxxGraph) (wanted : Wanted) (name : CxxName) (scope : ScopeId) (cut : ℕ) → length graph.facts ≤ count → AreNamesThere count graph.facts → AreSeenThere count (standing graph cut wanted name scope)
unfolding standing
standing_there count graph wanted name scope cut le ok = gathered_there count graph wanted name scope cut 0 graph.facts ok (omega (arith, le)) ok

both_there : (count : ℕ) (one two : List Sighting) → AreSeenThere count one → AreSeenThere count two → AreSeenThere count (one ++ two)
both_there count [] two p q = q
both_there count (x ∷ one) two p q = (p.0, both_there count one two p.1 q)

spaces_there : (count : ℕ) (graph : CxxGraph) (wanted : Wanted) (name : CxxName) (cut : ℕ) (spaces : List ScopeId) → length graph.facts ≤ count → AreNamesThere count graph.facts → AreSeenThere count (standing_in graph cut wanted name spaces)
unfolding standing_in
spaces_there count graph wanted name cut [] le ok = tt
spaces_there count graph wanted name cut (space ∷ others) le ok = both_there count (standing graph cut wanted name space) (standing_in graph cut wanted name others) (standing_there count graph wanted name space cut le ok) (spaces_there count graph wanted name cut others le ok)

-- ---- entities

least_there : (count : ℕ) (it : CxxEntity) (least : FactId) (all : List Sighting) → least.0 < count → AreSeenThere count all → (least_of it least all).0 < count
unfolding least_of
least_there count it least [] within ok = within
least_there count it least (one ∷ others) within ok = by (same_entity it (entity_meant one) && nat_lt one.meant.0 least.0) (least_there count it one.meant others ok.0.0 ok.1) (least_there count it least others within ok.1)
  where
    by : (b : Bool) → (least_of it one.meant others).0 < count → (least_of it least others).0 < count → (least_of it (if b then one.meant else least) others).0 < count
    by true lower same = lower
    by false lower same = same

first_there : (count number : ℕ) (first : Option FactId) → number < count → IsFirstThere count first → first_or number first < count
first_there count number None within ok = within
first_there count number (Some first) within ok = ok

named_there : (count : ℕ) (all : List Sighting) (scope : ScopeId) (itself meant : FactId) (what : Declares) → AreSeenThere count all → meant.0 < count → NamesThere count what → (named_by all (record { scope = scope; itself = itself; meant = meant; what = what })).0 < count
unfolding named_by
named_there count all scope itself meant (facts.object of member is_mutable value first) ok within names = first_there count meant.0 first within names
named_there count all scope itself meant (facts.function of member flags defaults first) ok within names = first_there count meant.0 first within names
named_there count all scope itself meant (facts.template template member defaults is_explicit first) ok within names = first_there count meant.0 first within names
named_there count all scope itself meant (facts.injected class) ok within names = least_there count (entity_by meant.0 (facts.injected class)) meant all within ok
named_there count all scope itself meant (facts.class class is_union) ok within names = least_there count (entity_by meant.0 (facts.class class is_union)) meant all within ok
named_there count all scope itself meant (facts.enumeration n) ok within names = least_there count (entity_by meant.0 (facts.enumeration n)) meant all within ok
named_there count all scope itself meant (facts.synonym of) ok within names = least_there count (of_type of) meant all within ok
named_there count all scope itself meant (facts.namespace inner) ok within names = least_there count (of_space inner.0) meant all within ok
named_there count all scope itself meant (facts.scope parent kind) ok within names = within
named_there count all scope itself meant (facts.value_parameter depth index of) ok within names = within
named_there count all scope itself meant (facts.complete class) ok within names = within
named_there count all scope itself meant (facts.passed class) ok within names = within
named_there count all scope itself meant (facts.ancestor class parent index access) ok within names = within
named_there count all scope itself meant (facts.enumerator n value) ok within names = within
named_there count all scope itself meant (facts.directive nominated) ok within names = within
named_there count all scope itself meant (facts.using target) ok within names = within
named_there count all scope itself meant (facts.friend class target) ok within names = within

each_named : (count : ℕ) (all some : List Sighting) → AreSeenThere count all → AreSeenThere count some → AreThere count (map (named_by all) some)
each_named count all [] ok it = tt
each_named count all (one ∷ others) ok it = (named_there count all one.scope one.itself one.meant one.what ok it.0.0 it.0.1, each_named count all others ok it.1)

with_one : (count : ℕ) (fact : FactId) (all : List FactId) → fact.0 < count → AreThere count all → AreThere count (with_fact fact all)
with_one count fact [] within ok = (within, tt)
with_one count fact (x ∷ xs) within ok = by (nat_lt x.0 fact.0) (nat_eq x.0 fact.0) (with_one count fact xs within ok.1)
  where
    by : (b c : Bool) → AreThere count (with_fact fact xs) → AreThere count (if b then x ∷ with_fact fact xs else if c then x ∷ xs else fact ∷ x ∷ xs)
    by true c later = (ok.0, later)
    by false true later = ok
    by false false later = (within, ok)

with_all : (count : ℕ) (done all : List FactId) → AreThere count done → AreThere count all → AreThere count (with_facts done all)
unfolding with_facts
with_all count done [] ok it = ok
with_all count done (x ∷ xs) ok it = with_all count (with_fact x done) xs (with_one count x done it.0 ok) it.1

entities_there : (count : ℕ) (all : List Sighting) → AreSeenThere count all → AreThere count (entities all)
unfolding entities
entities_there count all ok = with_all count [] (map (named_by all) all) tt (each_named count all all ok ok)

-- ---- what is brought

brought_there : (count : ℕ) (one : Found) (all : List Sighting) → AreSeenThere count all → IsFoundThere count (brought_by one all)
brought_there count (found.Set some) all ok = entities_there count all ok
brought_there count (found.Member class of) all ok = tt
brought_there count (found.Ambiguous one two) all ok = tt
brought_there count found.Empty all ok = tt

graph_names : (types : List CxxType) (graph : Graph) → InRange graph → AreNamesThere (length graph.facts) (facts_at types graph.facts)
graph_names types graph ok = facts_name (length graph.facts) types graph [] graph.facts (omega arith) ok.facts

pub found_there : (held : Held) (graph : Graph) (types : List CxxType) (space : ScopeId) (name : CxxName) (cut : ℕ) (one : Found) → graph ≡ held.graph → InRange graph → brought (graph_at types graph) space name cut ≡ Ok one → AreFoundThere held one
found_there held graph types space name cut one same ok is =
    let counted : length (facts_at types graph.facts) ≡ length graph.facts = length_facts types graph.facts in
    let brings : brought_in (graph_at types graph) (sightings_of (graph_at types graph) cut any_name name space) ≡ one = cc in
    subst (λ (g : Graph). IsFoundThere (length g.facts) one) same
    (subst (λ f. IsFoundThere (length graph.facts) f) brings
    (brought_there (length graph.facts) (looked_up (graph_at types graph) (sightings_of (graph_at types graph) cut any_name name space)) (sightings_of (graph_at types graph) cut any_name name space)
    (spaces_there (length graph.facts) (graph_at types graph) any_name name cut (searched (graph_at types graph) cut any_name name space) (omega (arith, counted)) (graph_names types graph ok))))
