-- What a graph is after one more fact, and what its facts name.
use Rattle.std.specs.Prelude.{ℕ, zero, suc, ◌≡◌, ◌<◌, ◌+◌, Bool, true, false, List, [], ◌∷◌, ◌++◌, length, Option, Some, None, option_map, refl}
use Rattle.std.specs.List.{slice_get}
use Rattle.std.proofs.Common.{ap, sym, subst, ◌∙◌, arith, append_assoc}
use Rattle.cxx_model.specs.declared.facts.Entity.{Entity}
use Rattle.cxx_model.specs.declared.facts.Entity.TheVariants as entity
use Rattle.cxx_model.specs.declared.facts.Fact.{Fact}
use Rattle.cxx_model.specs.declared.place.Place.{Place}
use Rattle.cxx_model.specs.declared.types.ScopeId.{ScopeId}
use Rattle.cxx_model.specs.Facts.Conflicts.{scope_facts}
use Rattle.cxx_model.specs.Facts.Declarations as facts
use Rattle.cxx_model.specs.Facts.Declarations.{CxxFact, Declares, classes_at, declares_at, fact_at, facts_at, graph_at}
use Rattle.cxx_model.specs.Facts.Fitted.{AreFactsBelow, Fitted, IsEntityBelow}
use Rattle.cxx_model.specs.Facts.Graph.{EachMayFollow, Graph, InRange, IsEntityInRange, IsTypeInRange, IsUnitScope, MayFollow, count, counted, enumerations, scopes}
use Rattle.cxx_model.specs.declared.facts.Specialisation.{Specialisation}
use Rattle.cxx_model.specs.Types.Trees.{CxxType}
use Rattle.cxx_model.specs.Types.Numbers.{type_at}
use Rattle.cxx_reading.specs.Declaring.{enumeration_in, place_of_scope}
use Rattle.cxx_reading.specs.Paths.{place_in}
use Rattle.cxx_reading.specs.Seen.{Numbered, numbered_at, numbered_by, or_next, parent_of, scope_of_option, type_in, type_named_by}
use Rattle.cxx_tree.specs.Whole.{place_by, scope_places}

-- ---- one more fact

pub facts_more : (types : List CxxType) (facts : List Fact) (fact : Fact) → facts_at types (facts ++ fact ∷ []) ≡ facts_at types facts ++ fact_at types fact ∷ []
facts_more types [] fact = refl
facts_more types (one ∷ others) fact = ap (λ fs. fact_at types one ∷ fs) (facts_more types others fact)

pub length_facts : (types : List CxxType) (facts : List Fact) → length (facts_at types facts) ≡ length facts
length_facts types [] = refl
length_facts types (one ∷ others) = let e : length (facts_at types others) ≡ length others = length_facts types others in omega arith

pub length_classes : (types : List CxxType) (classes : List (Option Specialisation)) → length (classes_at types classes) ≡ length classes
length_classes types [] = refl
length_classes types (one ∷ others) = let e : length (classes_at types others) ≡ length others = length_classes types others in omega arith

-- ---- counts

counted_plus : (b : Bool) (m n : ℕ) → counted b (m + n) ≡ counted b m + n
counted_plus true m n = omega arith
counted_plus false m n = refl

count_append : (test : Entity → Bool) (one two : List Fact) → count test (one ++ two) ≡ count test one + count test two
count_append test [] two = (let e : count test two ≡ 0 + count test two = omega arith in e)
count_append test (x ∷ xs) two = ap (counted (test x.what)) (count_append test xs two) ∙ counted_plus (test x.what) (count test xs) (count test two)

pub scopes_append : (one two : List Fact) → scopes (one ++ two) ≡ scopes one + scopes two
scopes_append one two = count_append _ one two

pub enumerations_append : (one two : List Fact) → enumerations (one ++ two) ≡ enumerations one + enumerations two
enumerations_append one two = count_append _ one two

pub scopes_later : (one two : List Fact) (n : ℕ) → n < scopes one → n < scopes (one ++ two)
scopes_later one two n within = (let e : scopes (one ++ two) ≡ scopes one + scopes two = scopes_append one two in omega arith)

pub scope_next : (facts : List Fact) (fact : Fact) (parent : Option ScopeId) (k : _) → fact.what ≡ entity.Scope parent k → scopes facts < scopes (facts ++ fact ∷ [])
scope_next facts fact parent k is = (let e : scopes (facts ++ fact ∷ []) ≡ scopes facts + scopes (fact ∷ []) = scopes_append facts (fact ∷ []) in let f : scopes (fact ∷ []) ≡ 1 = rw is (refl) in omega arith)

pub enumeration_next : (facts : List Fact) (fact : Fact) (number : _) → fact.what ≡ entity.Enumeration number → enumerations facts < enumerations (facts ++ fact ∷ [])
enumeration_next facts fact number is = (let e : enumerations (facts ++ fact ∷ []) ≡ enumerations facts + enumerations (fact ∷ []) = enumerations_append facts (fact ∷ []) in let f : enumerations (fact ∷ []) ≡ 1 = rw is (refl) in omega arith)

-- ---- where scopes stand

pub places_more : (facts : List Fact) (fact : Fact) → scope_places (facts ++ fact ∷ []) ≡ scope_places facts ++ place_by fact.place fact.what
places_more [] fact = by (place_by fact.place fact.what)
  where
    by : (ps : List Place) → ps ++ [] ≡ ps
    by [] = refl
    by (p ∷ ps) = ap (λ qs. p ∷ qs) (by ps)
places_more (one ∷ others) fact = ap (λ ps. place_by one.place one.what ++ ps) (places_more others fact) ∙ sym (append_assoc (place_by one.place one.what) (scope_places others) (place_by fact.place fact.what))

abbrev place_of : CxxFact → Place
place_of fact = fact.place

places_seen : (types : List CxxType) (facts : List Fact) (n : ℕ) → option_map place_of (slice_get (scope_facts (facts_at types facts)) n) ≡ slice_get (scope_places facts) n
places_seen types [] n = refl
places_seen types (one ∷ others) n = by (λ m. places_seen types others m) one.what n
  where
    by : ((m : ℕ) → option_map place_of (slice_get (scope_facts (facts_at types others)) m) ≡ slice_get (scope_places others) m) → (what : Entity) (m : ℕ) → option_map place_of (slice_get (scope_facts (record (fact_at types one) { what = declares_at types what } ∷ facts_at types others)) m) ≡ slice_get (place_by one.place what ++ scope_places others) m
    by later (entity.Scope parent kind) zero = refl
    by later (entity.Scope parent kind) (suc m) = later m
    by later (entity.Object of member is_mutable value first) m = later m
    by later (entity.Function of member flags defaults first) m = later m
    by later (entity.Template number member defaults is_explicit first) m = later m
    by later (entity.Parameter depth index of) m = later m
    by later (entity.Injected number) m = later m
    by later (entity.Class number is_union) m = later m
    by later (entity.Complete number) m = later m
    by later (entity.Passed number) m = later m
    by later (entity.Ancestor number parent index access) m = later m
    by later (entity.Enumeration number) m = later m
    by later (entity.Enumerator number value) m = later m
    by later (entity.Synonym of) m = later m
    by later (entity.Namespace inner) m = later m
    by later (entity.Directive nominated) m = later m
    by later (entity.Using target) m = later m
    by later (entity.Friend number target) m = later m

-- ---- what facts name

abbrev pub IsNamedThere : Graph → Entity → Type 0
IsNamedThere graph (entity.Injected class) = class.0 < length graph.classes
IsNamedThere graph (entity.Class class is_union) = class.0 < length graph.classes
IsNamedThere graph (entity.Enumeration number) = number.0 < enumerations graph.facts
IsNamedThere graph _ = Unit {0}

-- A fact stands in a scope that is there, and names a class or an enumeration that is.
pub record IsThere (graph : Graph) (fact : Fact) : Type 0 where
  pub scope : fact.scope.0 < scopes graph.facts
  pub named : IsNamedThere graph fact.what

abbrev pub AreThere : Graph → List Fact → Type 0
AreThere graph [] = Unit {0}
AreThere graph (fact ∷ others) = IsThere graph fact × AreThere graph others

unit_there : (graph : Graph) (fact : Fact) (others : List Fact) → graph.facts ≡ fact ∷ others → IsUnitScope fact → IsThere graph fact
unit_there graph fact others is unit = record {
  scope = (
      let first : fact.scope.0 ≡ 0 = ap (λ (s : ScopeId). s.0) unit.1 in
      let whole : scopes graph.facts ≡ scopes (fact ∷ []) + scopes others = ap scopes is ∙ scopes_append (fact ∷ []) others in
      let one : scopes (fact ∷ []) ≡ 1 = rw unit.0 (refl) in
      omega arith);
  named = subst (λ w. IsNamedThere graph w) (sym unit.0) tt;
}

named_there : (graph : Graph) (before others : List Fact) (fact : Fact) (what : Entity) → fact.what ≡ what → graph.facts ≡ before ++ fact ∷ others → IsEntityInRange (record graph { facts = before }) fact what → IsNamedThere graph what
named_there graph before others fact (entity.Scope parent kind) same is ok = tt
named_there graph before others fact (entity.Object of member is_mutable value first) same is ok = tt
named_there graph before others fact (entity.Function of member flags defaults first) same is ok = tt
named_there graph before others fact (entity.Template number member defaults is_explicit first) same is ok = tt
named_there graph before others fact (entity.Parameter depth index of) same is ok = tt
named_there graph before others fact (entity.Injected number) same is ok = ok
named_there graph before others fact (entity.Class number is_union) same is ok = ok
named_there graph before others fact (entity.Complete number) same is ok = tt
named_there graph before others fact (entity.Passed number) same is ok = tt
named_there graph before others fact (entity.Ancestor number parent index access) same is ok = tt
named_there graph before others fact (entity.Enumeration number) same is ok =
    let whole : enumerations graph.facts ≡ enumerations before + enumerations (fact ∷ others) = ap enumerations is ∙ enumerations_append before (fact ∷ others) in
    let rest : enumerations (fact ∷ others) ≡ enumerations (fact ∷ []) + enumerations others = enumerations_append (fact ∷ []) others in
    let one : enumerations (fact ∷ []) ≡ 1 = rw same (refl) in
    let at : number.0 ≡ enumerations before = ok in
    omega arith
named_there graph before others fact (entity.Enumerator number value) same is ok = tt
named_there graph before others fact (entity.Synonym of) same is ok = tt
named_there graph before others fact (entity.Namespace inner) same is ok = tt
named_there graph before others fact (entity.Directive nominated) same is ok = tt
named_there graph before others fact (entity.Using target) same is ok = tt
named_there graph before others fact (entity.Friend number target) same is ok = tt

fact_there : (graph : Graph) (before others : List Fact) (fact : Fact) → graph.facts ≡ before ++ fact ∷ others → MayFollow (record graph { facts = before }) fact → IsThere graph fact
fact_there graph [] others fact is ok = unit_there graph fact others is ok
fact_there graph (one ∷ before) others fact is ok = record {
  scope = (
      let whole : scopes graph.facts ≡ scopes (one ∷ before) + scopes (fact ∷ others) = ap scopes is ∙ scopes_append (one ∷ before) (fact ∷ others) in
      let at : fact.scope.0 < scopes (one ∷ before) = ok.0 in
      omega arith);
  named = named_there graph (one ∷ before) others fact fact.what refl is ok.1;
}

all_there : (graph : Graph) (before facts : List Fact) → graph.facts ≡ before ++ facts → EachMayFollow graph before facts → AreThere graph facts
all_there graph before [] is ok = tt
all_there graph before (one ∷ others) is ok = (fact_there graph before others one is ok.0, all_there graph (before ++ one ∷ []) others (is ∙ sym (append_assoc before (one ∷ []) others)) ok.1)

pub are_there : (graph : Graph) → InRange graph → AreThere graph graph.facts
are_there graph ok = all_there graph [] graph.facts refl ok.facts

-- ---- the scope round a scope

abbrev IsInside : ℕ → Option CxxFact → Type 0
IsInside count None = Unit {0}
IsInside count (Some fact) = fact.scope < count

scopes_inside : (graph : Graph) (types : List CxxType) (facts : List Fact) (n : ℕ) → AreThere graph facts → IsInside (scopes graph.facts) (slice_get (scope_facts (facts_at types facts)) n)
scopes_inside graph types [] n all = tt
scopes_inside graph types (one ∷ others) n all = by (λ m. scopes_inside graph types others m all.1) one.what n
  where
    by : ((m : ℕ) → IsInside (scopes graph.facts) (slice_get (scope_facts (facts_at types others)) m)) → (what : Entity) (m : ℕ) → IsInside (scopes graph.facts) (slice_get (scope_facts (record (fact_at types one) { what = declares_at types what } ∷ facts_at types others)) m)
    by later (entity.Scope parent kind) zero = all.0.scope
    by later (entity.Scope parent kind) (suc m) = later m
    by later (entity.Object of member is_mutable value first) m = later m
    by later (entity.Function of member flags defaults first) m = later m
    by later (entity.Template number member defaults is_explicit first) m = later m
    by later (entity.Parameter depth index of) m = later m
    by later (entity.Injected number) m = later m
    by later (entity.Class number is_union) m = later m
    by later (entity.Complete number) m = later m
    by later (entity.Passed number) m = later m
    by later (entity.Ancestor number parent index access) m = later m
    by later (entity.Enumeration number) m = later m
    by later (entity.Enumerator number value) m = later m
    by later (entity.Synonym of) m = later m
    by later (entity.Namespace inner) m = later m
    by later (entity.Directive nominated) m = later m
    by later (entity.Using target) m = later m
    by later (entity.Friend number target) m = later m

inside_by : (count scope : ℕ) (o : Option CxxFact) → scope < count → IsInside count o → scope_of_option scope o < count
inside_by count scope None within ok = within
inside_by count scope (Some fact) within ok = ok

pub parent_there : (graph : Graph) (types : List CxxType) (scope : ℕ) → InRange graph → scope < scopes graph.facts → parent_of (graph_at types graph) scope < scopes graph.facts
parent_there graph types scope ok within = inside_by (scopes graph.facts) scope (slice_get (scope_facts (facts_at types graph.facts)) scope) within (scopes_inside graph types graph.facts scope (are_there graph ok))

-- ---- the types that names mean

abbrev IsNamed : Graph → Declares → Type 0
IsNamed graph (facts.injected class) = class.0 < length graph.classes
IsNamed graph (facts.class class is_union) = class.0 < length graph.classes
IsNamed graph (facts.enumeration n) = n < enumerations graph.facts
IsNamed graph (facts.synonym of) = IsTypeInRange graph of
IsNamed graph _ = Unit {0}

abbrev AreNamed : Graph → List Numbered → Type 0
AreNamed graph [] = Unit {0}
AreNamed graph (one ∷ others) = IsNamed graph one.fact.what × AreNamed graph others

fact_named : (graph : Graph) (types : List CxxType) (what : Entity) → ((i : ℕ) → i < length types → IsTypeInRange graph (type_at types i)) → IsEntityBelow (length types) what → IsNamedThere graph what → IsNamed graph (declares_at types what)
fact_named graph types (entity.Scope parent kind) names below there = tt
fact_named graph types (entity.Object of member is_mutable value first) names below there = tt
fact_named graph types (entity.Function of member flags defaults first) names below there = tt
fact_named graph types (entity.Template number member defaults is_explicit first) names below there = tt
fact_named graph types (entity.Parameter depth index of) names below there = tt
fact_named graph types (entity.Injected number) names below there = there
fact_named graph types (entity.Class number is_union) names below there = there
fact_named graph types (entity.Complete number) names below there = tt
fact_named graph types (entity.Passed number) names below there = tt
fact_named graph types (entity.Ancestor number parent index access) names below there = tt
fact_named graph types (entity.Enumeration number) names below there = there
fact_named graph types (entity.Enumerator number value) names below there = tt
fact_named graph types (entity.Synonym of) names below there = names of.0 below
fact_named graph types (entity.Namespace inner) names below there = tt
fact_named graph types (entity.Directive nominated) names below there = tt
fact_named graph types (entity.Using target) names below there = tt
fact_named graph types (entity.Friend number target) names below there = tt

abbrev IsNamedAt : Graph → Option CxxFact → Type 0
IsNamedAt graph None = Unit {0}
IsNamedAt graph (Some fact) = IsNamed graph fact.what

stored_named : (graph : Graph) (types : List CxxType) (facts : List Fact) (n : ℕ) → ((i : ℕ) → i < length types → IsTypeInRange graph (type_at types i)) → AreFactsBelow (length types) facts → AreThere graph facts → IsNamedAt graph (slice_get (facts_at types facts) n)
stored_named graph types [] n names below there = tt
stored_named graph types (one ∷ others) zero names below there = fact_named graph types one.what names below.0.what there.0.named
stored_named graph types (one ∷ others) (suc n) names below there = stored_named graph types others n names below.1 there.1

numbered_named : (graph : Graph) (types : List CxxType) (numbers : List ℕ) → Fitted graph types → AreThere graph graph.facts → AreNamed graph (numbered_at (graph_at types graph) numbers)
numbered_named graph types [] fitted there = tt
numbered_named graph types (number ∷ others) fitted there = by (slice_get (facts_at types graph.facts) number) (stored_named graph types graph.facts number fitted.names fitted.numbers.facts there) (numbered_named graph types others fitted there)
  where
    by : (o : Option CxxFact) → IsNamedAt graph o → AreNamed graph (numbered_at (graph_at types graph) others) → AreNamed graph (numbered_by number o (numbered_at (graph_at types graph) others))
    by None one later = later
    by (Some fact) one later = (one, later)

named_range : (graph : Graph) (what : Declares) (later : CxxType) → IsNamed graph what → IsTypeInRange graph later → IsTypeInRange graph (or_next (type_named_by what) later)
named_range graph (facts.scope parent kind) later ok rest = rest
named_range graph (facts.object of member is_mutable value first) later ok rest = rest
named_range graph (facts.function of member flags defaults first) later ok rest = rest
named_range graph (facts.template number member defaults is_explicit first) later ok rest = rest
named_range graph (facts.value_parameter depth index of) later ok rest = rest
named_range graph (facts.injected class) later ok rest = ok
named_range graph (facts.class class is_union) later ok rest = ok
named_range graph (facts.complete class) later ok rest = rest
named_range graph (facts.passed class) later ok rest = rest
named_range graph (facts.ancestor class parent index access) later ok rest = rest
named_range graph (facts.enumeration n) later ok rest = ok
named_range graph (facts.enumerator n value) later ok rest = rest
named_range graph (facts.synonym of) later ok rest = ok
named_range graph (facts.namespace inner) later ok rest = rest
named_range graph (facts.directive nominated) later ok rest = rest
named_range graph (facts.using target) later ok rest = rest
named_range graph (facts.friend class target) later ok rest = rest

type_in_range : (graph : Graph) (all : List Numbered) → AreNamed graph all → IsTypeInRange graph (type_in all)
type_in_range graph [] ok = tt
type_in_range graph (one ∷ others) ok = named_range graph one.fact.what (type_in others) ok.0 (type_in_range graph others ok.1)

pub numbered_range : (graph : Graph) (types : List CxxType) (numbers : List ℕ) → Fitted graph types → InRange graph → IsTypeInRange graph (type_in (numbered_at (graph_at types graph) numbers))
numbered_range graph types numbers fitted ok = type_in_range graph (numbered_at (graph_at types graph) numbers) (numbered_named graph types numbers fitted (are_there graph ok))

enumeration_there : (graph : Graph) (all : List Numbered) (n : ℕ) → AreNamed graph all → enumeration_in all ≡ Some n → n < enumerations graph.facts
enumeration_there graph [] n ok is = absurd (cc)
enumeration_there graph (one ∷ others) n ok is = by one.fact.what ok.0 is (λ later. enumeration_there graph others n ok.1 later)
  where
    by : (what : Declares) → IsNamed graph what → enumeration_in (record { number = one.number; fact = record one.fact { what = what } } ∷ others) ≡ Some n → (enumeration_in others ≡ Some n → n < enumerations graph.facts) → n < enumerations graph.facts
    by (facts.enumeration m) ok is later = (let same : m ≡ n = cc in subst (λ k. k < enumerations graph.facts) same ok)
    by (facts.scope parent kind) ok is later = later is
    by (facts.object of member is_mutable value first) ok is later = later is
    by (facts.function of member flags defaults first) ok is later = later is
    by (facts.template template member defaults is_explicit first) ok is later = later is
    by (facts.value_parameter depth index of) ok is later = later is
    by (facts.injected class) ok is later = later is
    by (facts.class class is_union) ok is later = later is
    by (facts.complete class) ok is later = later is
    by (facts.passed class) ok is later = later is
    by (facts.ancestor class parent index access) ok is later = later is
    by (facts.enumerator m value) ok is later = later is
    by (facts.synonym of) ok is later = later is
    by (facts.namespace inner) ok is later = later is
    by (facts.directive nominated) ok is later = later is
    by (facts.using target) ok is later = later is
    by (facts.friend class target) ok is later = later is

-- 7.2: an enumeration among declarations that were found is there
pub enumeration_found : (graph : Graph) (types : List CxxType) (numbers : List ℕ) (n : ℕ) → Fitted graph types → InRange graph → enumeration_in (numbered_at (graph_at types graph) numbers) ≡ Some n → n < enumerations graph.facts
enumeration_found graph types numbers n fitted ok is = enumeration_there graph (numbered_at (graph_at types graph) numbers) n (numbered_named graph types numbers fitted (are_there graph ok)) is

-- ---- a place by the places of scopes

place_found : (o : Option CxxFact) (place : Place) → option_map place_of o ≡ Some place → place ≡ place_in o
place_found None place e = absurd (cc)
place_found (Some fact) place e = sym (ap (λ p. or_there p place) e)
  where
    or_there : Option Place → Place → Place
    or_there None q = q
    or_there (Some p) q = p

place_missing : (o : Option CxxFact) → option_map place_of o ≡ None → record { line = 0; column = 0 } ≡ place_in o
place_missing None e = refl
place_missing (Some fact) e = absurd (cc)

pub opened_at : (graph : Graph) (types : List CxxType) (n : ℕ) (place : Place) → slice_get (scope_places graph.facts) n ≡ Some place → place ≡ place_of_scope (graph_at types graph) n
opened_at graph types n place at = place_found (slice_get (scope_facts (facts_at types graph.facts)) n) place (places_seen types graph.facts n ∙ at)

pub opened_nowhere : (graph : Graph) (types : List CxxType) (n : ℕ) → slice_get (scope_places graph.facts) n ≡ None → record { line = 0; column = 0 } ≡ place_of_scope (graph_at types graph) n
opened_nowhere graph types n at = place_missing (slice_get (scope_facts (facts_at types graph.facts)) n) (places_seen types graph.facts n ∙ at)
