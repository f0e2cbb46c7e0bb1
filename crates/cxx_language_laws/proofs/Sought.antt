-- What a lookup finds where the reader stands: nothing where no scope outward declares the name, and else declarations that
-- there are (3.4).
use Rattle.std.proofs.Common.{arith, ◌≡◌, inl, inr, ℕ, zero, suc, ◌<◌, ◌+◌, Bool, true, false, cond, not, List, [], ◌∷◌, ◌++◌, length, Option, Some, None, Result, Ok, Err, refl, sym, ap, subst, ◌∙◌}
use Rattle.std.proofs.lemmas.List.Elements.{Contains-append_left}
use Rattle.std.proofs.lemmas.Option.{slice_get_within}
use Rattle.std.specs.List.{AllByRecursion, Contains, find, slice_get}
use Rattle.cxx_model.specs.declared.lookup.Associated.{Associated}
use Rattle.cxx_model.specs.declared.lookup.Found.{Found}
use Rattle.cxx_model.specs.declared.lookup.Found.TheVariants as found
use Rattle.cxx_model.specs.declared.lookup.Hit.{Hit}
use Rattle.cxx_model.specs.declared.lookup.MemberFound.{MemberFound}
use Rattle.cxx_model.specs.declared.lookup.MemberFound.TheVariants as member_found
use Rattle.cxx_model.specs.declared.types.ClassId.{ClassId}
use Rattle.cxx_model.specs.declared.types.FactId.{FactId}
use Rattle.cxx_model.specs.declared.types.ScopeId.{ScopeId}
use Rattle.cxx_model.proofs.Champion.{first_of, first_or_later}
use Rattle.cxx_model.specs.Facts.Conflicts.{scope_facts}
use Rattle.cxx_model.specs.Facts.Declarations as facts
use Rattle.cxx_model.specs.Facts.Declarations.{CxxFact, CxxGraph, CxxName, Declares, spelled}
use Rattle.cxx_model.specs.Facts.Entities.{entity_by, first_or, of_fact}
use Rattle.cxx_meaning.specs.Conversions.Standard.{CxxOperand}
use Rattle.cxx_meaning.specs.Lookups.Associated.{adl, associated, befriended, functions_among, is_target, space_id, standing_in_each, target_by, target_named, target_of}
use Rattle.cxx_meaning.specs.Lookups.Directives.{Shown, shows}
use Rattle.cxx_meaning.specs.Lookups.Gathered.{gathered, holds_scope, spread, with_facts, with_scope, with_scopes}
use Rattle.cxx_meaning.specs.Lookups.Member.{class_of_scope, member}
use Rattle.cxx_meaning.specs.Lookups.Ordinary.{Here, IsFirst, Nowhere, Outside, found_in_scope, found_in_sightings, or_outside, ordinary, ordinary_in, sightings_at}
use Rattle.cxx_meaning.specs.Lookups.Pending.{Asked}
use Rattle.cxx_meaning.specs.Lookups.Qualified.{leads_to, searched, sightings_of, standing_in}
use Rattle.cxx_meaning.specs.Lookups.Scopes.{chain, unit_scope}
use Rattle.cxx_meaning.specs.Lookups.Sightings.{Sighting, both_functions, entities, found_of, odd_pair, looked_up, sighting_of, standing, unhidden}
use Rattle.cxx_meaning.specs.Lookups.Wanted.{Wanted, any_name, is_function, names_space, namespaces_only}
use Rattle.cxx_meaning.proofs.Nearest.{first_is_found}
use Rattle.cxx_reading.specs.declared.region.Region.{Region}
use Rattle.cxx_reading.specs.declared.region.Region.TheVariants as region
use Rattle.cxx_reading.specs.Paths.{first_space, member_or_none, or_later, sought_in, space_in}
use Rattle.cxx_reading.specs.Seen.{fact_numbers, found_or_none, numbered_at, numbered_by, set_in, sought_from}
use Rattle.cxx_reading.specs.State.{CxxState}
use Rattle.cxx_answers.specs.Answers.{associated_functions, found_in_sets, fresh_among, types_of_operands}
use Rattle.cxx_language_laws.specs.Best.{IsClear}
use Rattle.cxx_language_laws.specs.Told.{AreApart, IsNotAround, IsNotInside, IsNotThere, nothing_in}
use Rattle.cxx_language_laws.proofs.Outward.{ClassAnswers, HasNone, HasNothing, IsLooked, IsOne, IsSo, IsTwo, OfNumber, Outward, ScopeAnswers, all_of, beside_all, clash_looked, class_apart, class_looked, class_with, class_without, each_seen, entities_so, filtered_all, gathered_all, if_some, in_class, looked_so, member_looked, none_left, none_outward, one_wanted, outward, scope_answers, scope_apart, scope_finds, set_looked, some_outward, two_looked}
use Rattle.cxx_language_laws.proofs.Shown.{reached_none, right_none, unit_in}
use Rattle.cxx_language_laws.proofs.Scopes.{AreHeld, AreSound, InScopes, IsFirstThere, IsSound, UnitIsSpace, none_is_past}

-- ---- the scopes outward

-- in which the declarations are as they should be
pub record AreFitting (graph : CxxGraph) : Type 0 where
  pub sound : AreSound graph.facts
  pub held : AreHeld (scope_facts graph.facts)
  pub unit : UnitIsSpace graph.facts
  pub patterns : graph.patterns ≡ []

pub fitting : (state : CxxState) → InScopes state → AreFitting state.graph
fitting state is = record { sound = is.sound; held = is.held; unit = is.unit; patterns = is.patterns }

-- from a scope that there is
abbrev pub IsStanding : CxxGraph → ScopeId → Type 0
IsStanding graph scope = scope.0 < length (scope_facts graph.facts)

not_around : (graph : CxxGraph) → AreFitting graph → (wanted : Wanted) (scope : ScopeId) (name : CxxName) → IsStanding graph scope → AllByRecursion (HasNothing graph wanted name (length graph.facts)) (chain graph.facts scope) → IsFirst graph wanted name (length graph.facts) [] (chain graph.facts scope) found.Empty
    → IsNotAround graph wanted scope name
not_around graph is wanted scope name within each first = record {
  outward = λ one m. (all_of nothing (chain graph.facts scope) each one m).none;
  in_classes = λ one class m so. (all_of nothing (chain graph.facts scope) each one m).no_member class so;
  by_directives = λ one space m there. reached_none graph wanted name (length graph.facts) is.sound is.unit is.held scope.0 scope (omega arith) within [] first one space m there;
  in_unit = (all_of nothing (chain graph.facts scope) each unit_scope (unit_in graph.facts is.held scope.0 scope (omega arith) within)).none;
}
  where
    nothing : ScopeId → Type 0
    nothing = HasNothing graph wanted name (length graph.facts)

-- ---- the namespaces that are searched (3.4.3.2)

with_scope_keeps : (scopes : List ScopeId) (scope one : ScopeId) → Contains scopes one → Contains (with_scope scopes scope) one
with_scope_keeps scopes scope one m = by (holds_scope scopes scope)
  where
    by : (b : Bool) → Contains (cond b scopes (scopes ++ scope ∷ [])) one
    by true = m
    by false = Contains-append_left scopes (scope ∷ []) one m

with_scopes_keep : (scopes others : List ScopeId) (one : ScopeId) → Contains scopes one → Contains (with_scopes scopes others) one
unfolding with_scopes
with_scopes_keep scopes [] one m = m
with_scopes_keep scopes (scope ∷ others) one m = with_scopes_keep (with_scope scopes scope) others one (with_scope_keeps scopes scope one m)

spread_keeps : (next : ScopeId → List ScopeId) (room place : ℕ) (scopes : List ScopeId) (one : ScopeId) → Contains scopes one → Contains (spread next room place scopes) one
unfolding spread
spread_keeps next zero place scopes one m = m
spread_keeps next (suc room) place scopes one m = by (slice_get scopes place) refl (λ scope. spread_keeps next room (place + 1) (with_scopes scopes (next scope)) one (with_scopes_keep scopes (next scope) one m))
  where
    by : (o : Option ScopeId) → slice_get scopes place ≡ o → ((scope : ScopeId) → Contains (spread next room (place + 1) (with_scopes scopes (next scope))) one) → Contains (spread next (suc room) place scopes) one
    by None e later = rw e m
    by (Some scope) e later = rw e (later scope)

itself_searched : (graph : CxxGraph) (cut : ℕ) (wanted : Wanted) (name : CxxName) (space : ScopeId) → Contains (searched graph cut wanted name space) space
unfolding searched
itself_searched graph cut wanted name space = spread_keeps (leads_to graph cut wanted name) (length graph.facts) 0 (space ∷ []) space (first_of space [])

each_none : (graph : CxxGraph) (cut : ℕ) (wanted : Wanted) (name : CxxName) (spaces : List ScopeId) → standing_in graph cut wanted name spaces ≡ [] → (one : ScopeId) → Contains spaces one → HasNone graph wanted name cut one
unfolding standing_in
each_none graph cut wanted name [] e one m = absurd (omega (arith, m.1))
each_none graph cut wanted name (space ∷ others) e one m = elim (first_or_later space others one m) [
  | inl here ↦ subst (HasNone graph wanted name cut) here (none_left (standing graph cut wanted name space) (standing_in graph cut wanted name others) e)
  | inr there ↦ each_none graph cut wanted name others (right_none (standing graph cut wanted name space) (standing_in graph cut wanted name others) e) one there
]

not_inside : (graph : CxxGraph) (wanted : Wanted) (space : ScopeId) (name : CxxName) → sightings_of graph (length graph.facts) wanted name space ≡ [] → IsNotInside graph wanted space name
not_inside graph wanted space name e = record {
  itself = each_none graph (length graph.facts) wanted name (searched graph (length graph.facts) wanted name space) e space (itself_searched graph (length graph.facts) wanted name space);
  by_directives = each_none graph (length graph.facts) wanted name (searched graph (length graph.facts) wanted name space) e;
}

spaces_seen : (graph : CxxGraph) (cut : ℕ) (wanted : Wanted) (name : CxxName) (spaces : List ScopeId) → AreSound graph.facts → AllByRecursion (IsOne graph wanted) (standing_in graph cut wanted name spaces)
unfolding standing_in
spaces_seen graph cut wanted name [] sound = tt
spaces_seen graph cut wanted name (space ∷ others) sound = beside_all (IsOne graph wanted) (standing graph cut wanted name space) (standing_in graph cut wanted name others) (each_seen graph cut wanted name space sound) (spaces_seen graph cut wanted name others sound)

-- ---- the lookup where the reader stands

abbrev FoundAnswers : Asked Found → Asked Found → Type 0
FoundAnswers one two = one ≡ two

never_asks : (graph : CxxGraph) (wanted : Wanted) (name : CxxName) (cut : ℕ) → AreSound graph.facts → (scopes : List ScopeId) (shown : List Shown) (class : ClassId) → ordinary_in graph wanted name cut shown scopes ≡ Err class → ⊥
unfolding ordinary_in
never_asks graph wanted name cut sound [] shown class e = no_stop e
  where
    no_stop : FoundAnswers (Ok found.Empty) (Err class) → ⊥
    no_stop e = cc
never_asks graph wanted name cut sound (scope ∷ outer) shown class e = by (found_in_scope graph wanted name cut (shown ++ shows graph.facts cut scope) scope) refl e (never_asks graph wanted name cut sound outer (shown ++ shows graph.facts cut scope) class)
  where
    outside : Asked Found
    outside = ordinary_in graph wanted name cut (shown ++ shows graph.facts cut scope) outer

    no_stop : (x : Found) → FoundAnswers (Ok x) (Err class) → ⊥
    no_stop x e = cc

    no_class_asked : (one : Option Found) (other : ClassId) → ScopeAnswers (Ok one) (Err other) → ⊥
    no_class_asked one other e = cc

    by : (o : Asked (Option Found)) → found_in_scope graph wanted name cut (shown ++ shows graph.facts cut scope) scope ≡ o → FoundAnswers (or_outside o outside) (Err class) → (outside ≡ Err class → ⊥) → ⊥
    by (Ok (Some x)) is e further = no_stop x e
    by (Ok None) is e further = further e
    by (Err other) is e further = let answer = scope_answers graph wanted name cut (shown ++ shows graph.facts cut scope) scope sound in no_class_asked answer.0 other (sym answer.1 ∙ is)

-- what is sought in a region: nothing, and then nothing there has it, or something
pub data IsSoughtSo (P : ℕ → Type 0) (graph : CxxGraph) (wanted : Wanted) (where_ : Region) (name : CxxName) : Found → Type 0 where
  nothing_there : IsNotThere graph wanted where_ name → IsSoughtSo P graph wanted where_ name (nothing_in where_)
  some_there : (x : Found) → IsLooked P graph x → IsSoughtSo P graph wanted where_ name x

-- a region that there is
abbrev pub IsRegion : CxxGraph → Region → Type 0
IsRegion graph (region.Outward scope) = IsStanding graph scope
IsRegion graph (region.Inside space) = Unit {0}
IsRegion graph (region.Class class) = Unit {0}

outward_so : (P : ℕ → Type 0) (graph : CxxGraph) (wanted : Wanted) (scope : ScopeId) (name : CxxName) → AreFitting graph → IsStanding graph scope → ((one : Sighting) → IsOne graph wanted one → IsSo P one) → IsSoughtSo P graph wanted (region.Outward scope) name (sought_from graph wanted scope.0 name)
unfolding sought_from
outward_so P graph wanted scope name is within each = by (ordinary graph wanted scope name (length graph.facts)) refl
  where
    of_outward : (x : Found) → IsFirst graph wanted name (length graph.facts) [] (chain graph.facts scope) x → Outward P graph wanted name (length graph.facts) (chain graph.facts scope) x → IsSoughtSo P graph wanted (region.Outward scope) name x
    of_outward _ first (none_outward are) = nothing_there (not_around graph is wanted scope name within are first)
    of_outward x first (some_outward _ so) = some_there x so

    by : (o : Asked Found) → ordinary graph wanted scope name (length graph.facts) ≡ o → IsSoughtSo P graph wanted (region.Outward scope) name (found_or_none o)
    by (Ok x) e = let first = first_is_found graph wanted scope name (length graph.facts) x e in of_outward x first (outward P graph wanted name (length graph.facts) is.sound each [] (chain graph.facts scope) x first)
    by (Err class) e = absurd (never_asks graph wanted name (length graph.facts) is.sound (chain graph.facts scope) [] class e)

nothing_looked : (graph : CxxGraph) → looked_up graph [] ≡ found.Empty
unfolding found_of entities unhidden with_facts
nothing_looked graph = refl

each_of_all : (P : ℕ → Type 0) (graph : CxxGraph) (wanted : Wanted) → ((one : Sighting) → IsOne graph wanted one → IsSo P one) → (all : List Sighting) → AllByRecursion (IsOne graph wanted) all → AllByRecursion (IsSo P) all
each_of_all P graph wanted each [] are = tt
each_of_all P graph wanted each (one ∷ others) are = (each one are.0, each_of_all P graph wanted each others are.1)

inside_so : (P : ℕ → Type 0) (graph : CxxGraph) (wanted : Wanted) (space : ScopeId) (name : CxxName) → AreFitting graph → ((one : Sighting) → IsOne graph wanted one → IsSo P one) → IsSoughtSo P graph wanted (region.Inside space) name (looked_up graph (sightings_of graph (length graph.facts) wanted name space))
inside_so P graph wanted space name is each = by (sightings_of graph (length graph.facts) wanted name space) refl (each_of_all P graph wanted each (sightings_of graph (length graph.facts) wanted name space) (spaces_seen graph (length graph.facts) wanted name (searched graph (length graph.facts) wanted name space) is.sound))
  where
    by : (all : List Sighting) → sightings_of graph (length graph.facts) wanted name space ≡ all → AllByRecursion (IsSo P) all → IsSoughtSo P graph wanted (region.Inside space) name (looked_up graph all)
    by [] e are = subst (IsSoughtSo P graph wanted (region.Inside space) name) (sym (nothing_looked graph)) (nothing_there (not_inside graph wanted space name e))
    by (one ∷ others) e are = some_there (looked_up graph (one ∷ others)) (looked_so P graph (one ∷ others) tt are)

class_so : (P : ℕ → Type 0) (graph : CxxGraph) (wanted : Wanted) (class : ClassId) (name : CxxName) → AreFitting graph → ((one : Sighting) → IsOne graph wanted one → IsSo P one) → IsSoughtSo P graph wanted (region.Class class) name (member_or_none class (member graph wanted class name))
class_so P graph wanted class name is each = by (class_looked P graph wanted name class is.sound is.patterns each)
  where
    answered : Asked MemberFound → Type 0
    answered x = IsSoughtSo P graph wanted (region.Class class) name (member_or_none class x)

    by : ClassAnswers P graph wanted name class → answered (member graph wanted class name)
    by (class_without e) = subst answered (sym e) (nothing_there e)
    by (class_with of e looked) = subst answered (sym e) (some_there (found.Member class of) looked)

pub sought_so : (P : ℕ → Type 0) (graph : CxxGraph) (wanted : Wanted) (where_ : Region) (name : CxxName) → AreFitting graph → IsRegion graph where_ → ((one : Sighting) → IsOne graph wanted one → IsSo P one) → IsSoughtSo P graph wanted where_ name (sought_in graph wanted where_ name)
unfolding sought_in
sought_so P graph wanted (region.Outward scope) name is there each = outward_so P graph wanted scope name is there each
sought_so P graph wanted (region.Inside space) name is there each = inside_so P graph wanted space name is each
sought_so P graph wanted (region.Class class) name is there each = class_so P graph wanted class name is each

-- 3.4.3.2: no member of a class is found in a namespace
no_member_found : (graph : CxxGraph) (all : List FactId) (class : ClassId) (of : MemberFound) → found_of graph all ≡ found.Member class of → ⊥
unfolding found_of odd_pair
no_member_found graph [] class of e = cc
no_member_found graph (one ∷ others) class of e = by (find (λ two. not (both_functions graph one two)) others) refl
  where
    by : (o : Option FactId) → find (λ two. not (both_functions graph one two)) others ≡ o → ⊥
    by None is = apart (sym set ∙ e)
      where
        set : found_of graph (one ∷ others) ≡ found.Set (one ∷ others)
        set = rw is refl

        apart : found.Set (one ∷ others) ≡ found.Member class of → ⊥
        apart e = cc
    by (Some two) is = apart (sym both ∙ e)
      where
        both : found_of graph (one ∷ others) ≡ found.Ambiguous one two
        both = rw is refl

        apart : found.Ambiguous one two ≡ found.Member class of → ⊥
        apart e = cc

pub no_member_inside : (graph : CxxGraph) (wanted : Wanted) (space : ScopeId) (name : CxxName) (class : ClassId) (of : MemberFound) → sought_in graph wanted (region.Inside space) name ≡ found.Member class of → ⊥
unfolding sought_in
no_member_inside graph wanted space name class of e = no_member_found graph (entities (unhidden graph (sightings_of graph (length graph.facts) wanted name space))) class of e

-- 3.4.1, 10.2: two members that are found do not go together
first_apart : (graph : CxxGraph) (wanted : Wanted) (name : CxxName) (cut : ℕ) → AreSound graph.facts → (shown : List Shown) (scopes : List ScopeId) (x : Found) (class : ClassId) (one two : Hit) → x ≡ found.Member class (member_found.Ambiguous one two) → IsFirst graph wanted name cut shown scopes x → AreApart graph wanted name class one two
first_apart graph wanted name cut sound shown scopes x class one two e (Here _ scope outer _ is) = by (class_of_scope graph.facts scope) refl
  where
    now : List Shown
    now = shown ++ shows graph.facts cut scope

    found_here : found_in_scope graph wanted name cut now scope ≡ Ok (Some (found.Member class (member_found.Ambiguous one two)))
    found_here = is ∙ ap (λ (y : Found). Ok (Some y)) e

    seen : (all : List Sighting) → ScopeAnswers (Ok (found_in_sightings graph all)) (Ok (Some (found.Member class (member_found.Ambiguous one two)))) → ⊥
    seen [] e = absurd cc
    seen (sighting ∷ others) e = no_member_found graph (entities (unhidden graph (sighting ∷ others))) class (member_found.Ambiguous one two) (it_is e)
      where
        it_is : ScopeAnswers (Ok (Some (looked_up graph (sighting ∷ others)))) (Ok (Some (found.Member class (member_found.Ambiguous one two)))) → looked_up graph (sighting ∷ others) ≡ found.Member class (member_found.Ambiguous one two)
        it_is e = cc

    by : (o : Option ClassId) → class_of_scope graph.facts scope ≡ o → AreApart graph wanted name class one two
    by None none = absurd (seen (sightings_at graph cut wanted name now scope) (sym (scope_finds graph wanted name cut now scope none) ∙ found_here))
    by (Some other) so = scope_apart graph wanted name cut now scope other class one two sound so found_here
first_apart graph wanted name cut sound shown scopes x class one two e (Outside _ scope outer _ none further) = first_apart graph wanted name cut sound (shown ++ shows graph.facts cut scope) outer x class one two e further
first_apart graph wanted name cut sound shown scopes _ class one two e (Nowhere _) = absurd cc

pub members_sought : (graph : CxxGraph) (wanted : Wanted) (where_ : Region) (name : CxxName) (class : ClassId) (one two : Hit) → AreSound graph.facts → sought_in graph wanted where_ name ≡ found.Member class (member_found.Ambiguous one two) → AreApart graph wanted name class one two
unfolding sought_in sought_from
members_sought graph wanted (region.Outward scope) name class one two sound e = by (ordinary graph wanted scope name (length graph.facts)) refl e
  where
    by : (o : Asked Found) → ordinary graph wanted scope name (length graph.facts) ≡ o → found_or_none o ≡ found.Member class (member_found.Ambiguous one two) → AreApart graph wanted name class one two
    by (Ok x) is e = first_apart graph wanted name (length graph.facts) sound [] (chain graph.facts scope) x class one two e (first_is_found graph wanted scope name (length graph.facts) x is)
    by (Err pending) is e = absurd cc
members_sought graph wanted (region.Inside space) name class one two sound e = absurd (no_member_inside graph wanted space name class (member_found.Ambiguous one two) e)
members_sought graph wanted (region.Class other) name class one two sound e = by (member graph wanted other name) refl e
  where
    same : (of : MemberFound) → member graph wanted other name ≡ Ok of → found.Member other of ≡ found.Member class (member_found.Ambiguous one two) → AreApart graph wanted name class one two
    same of is e = subst (λ (c : ClassId). AreApart graph wanted name c one two) (ap class_in e) (class_apart graph wanted name other one two sound (is ∙ ap (λ (x : MemberFound). Ok x) (ap member_in_found e)))
      where
        class_in : Found → ClassId
        class_in (found.Member one of) = one
        class_in _ = other

        member_in_found : Found → MemberFound
        member_in_found (found.Member one of) = of
        member_in_found _ = of

    by : (o : Asked MemberFound) → member graph wanted other name ≡ o → member_or_none other o ≡ found.Member class (member_found.Ambiguous one two) → AreApart graph wanted name class one two
    by (Ok of) is e = same of is e
    by (Err pending) is e = absurd cc

-- 3.4.3.1: only members are found in a class
abbrev pub IsOfClass : Found → Type 0
IsOfClass (found.Set all) = ⊥
IsOfClass (found.Ambiguous one two) = ⊥
IsOfClass _ = Unit {0}

pub member_inside : (graph : CxxGraph) (wanted : Wanted) (class : ClassId) (name : CxxName) → IsOfClass (sought_in graph wanted (region.Class class) name)
unfolding sought_in
member_inside graph wanted class name = by (member graph wanted class name)
  where
    by : (o : Asked MemberFound) → IsOfClass (member_or_none class o)
    by (Ok of) = tt
    by (Err pending) = tt

-- ---- declarations that there are

abbrev pub IsThere : CxxGraph → ℕ → Type 0
IsThere graph n = n < length graph.facts

first_there : (count number n : ℕ) (first : Option FactId) → number < count → IsFirstThere count first → of_fact (first_or number first) ≡ of_fact n → n < count
first_there count number n None below is e = subst (λ (m : ℕ). m < count) (by e) below
  where
    by : of_fact number ≡ of_fact n → number ≡ n
    by e = cc
first_there count number n (Some first) below is e = subst (λ (m : ℕ). m < count) (by e) is
  where
    by : of_fact first.0 ≡ of_fact n → first.0 ≡ n
    by e = cc

entity_there : (all : List CxxFact) (number n : ℕ) (what : Declares) → number < length all → IsSound all what → entity_by number what ≡ of_fact n → n < length all
entity_there all number n (facts.object _ _ _ _ first) below is e = first_there (length all) number n first below is e
entity_there all number n (facts.function _ _ _ _ first) below is e = first_there (length all) number n first below is e
entity_there all number n (facts.scope _ _) below is e = first_there (length all) number n None below tt e
entity_there all number n (facts.enumerator _ _) below is e = first_there (length all) number n None below tt e
entity_there all number n (facts.using _) below is e = first_there (length all) number n None below tt e
entity_there all number n (facts.directive _) below is e = first_there (length all) number n None below tt e
entity_there all number n (facts.class _ _) below is e = absurd cc
entity_there all number n (facts.enumeration _) below is e = absurd cc
entity_there all number n (facts.synonym _) below is e = absurd cc
entity_there all number n (facts.namespace _) below is e = absurd cc
entity_there all number n (facts.template _ _ _ _ _) below is e = absurd is
entity_there all number n (facts.value_parameter _ _ _) below is e = absurd is
entity_there all number n (facts.injected _) below is e = absurd cc
entity_there all number n (facts.complete _) below is e = first_there (length all) number n None below tt e
entity_there all number n (facts.passed _) below is e = absurd is
entity_there all number n (facts.ancestor _ _ _ _) below is e = first_there (length all) number n None below tt e
entity_there all number n (facts.friend _ _) below is e = first_there (length all) number n None below tt e

pub one_there : (graph : CxxGraph) (wanted : Wanted) → AreSound graph.facts → (one : Sighting) → IsOne graph wanted one → IsSo (IsThere graph) one
one_there graph wanted sound one is = record {
  meant = subst (IsThere graph) (sym is.meant) below;
  first = λ n e. entity_there graph.facts is.number n is.fact.what below (sound is.number is.fact is.stands) (ap (λ (m : ℕ). entity_by m is.fact.what) (sym is.meant) ∙ (ap (entity_by one.meant.0) (sym is.what) ∙ e));
}
  where
    below : is.number < length graph.facts
    below = slice_get_within graph.facts is.number is.fact is.stands

some_numbered : (graph : CxxGraph) (n : ℕ) (others : List ℕ) → IsThere graph n → numbered_at graph (n ∷ others) ≡ [] → ⊥
some_numbered graph n others there e = by (slice_get graph.facts n) refl e
  where
    by : (o : Option CxxFact) → slice_get graph.facts n ≡ o → numbered_by n o (numbered_at graph others) ≡ [] → ⊥
    by None is e = none_is_past graph.facts n there is
    by (Some fact) is e = cc

-- 3.4: what is no ambiguity and has no declarations is nothing
pub nothing_sought : (graph : CxxGraph) (wanted : Wanted) (where_ : Region) (name : CxxName) → AreFitting graph → IsRegion graph where_ → (x : Found) → sought_in graph wanted where_ name ≡ x → IsClear x → set_in graph x ≡ [] → (sought_in graph wanted where_ name ≡ nothing_in where_) × IsNotThere graph wanted where_ name
nothing_sought graph wanted where_ name is there x e clear none = by x (subst (IsSoughtSo (IsThere graph) graph wanted where_ name) e (sought_so (IsThere graph) graph wanted where_ name is there (one_there graph wanted is.sound))) e clear none
  where
    by : (x : Found) → IsSoughtSo (IsThere graph) graph wanted where_ name x → sought_in graph wanted where_ name ≡ x → IsClear x → set_in graph x ≡ [] → (sought_in graph wanted where_ name ≡ nothing_in where_) × IsNotThere graph wanted where_ name
    by _ (nothing_there none_there) e clear none = (e, none_there)
    by _ (some_there _ (set_looked one others there)) e clear none = absurd (some_numbered graph one.0 (fact_numbers others) there none)
    by _ (some_there _ (two_looked one two so)) e clear none = absurd clear
    by _ (some_there _ (member_looked class one others path there)) e clear none = absurd (some_numbered graph one.0 (fact_numbers others) there none)
    by _ (some_there _ (clash_looked class one two)) e clear none = absurd clear

-- 5.2.5, 10.2: the same of a member of a class
some_looked : (graph : CxxGraph) (x : Found) → IsLooked (IsThere graph) graph x → IsClear x → set_in graph x ≡ [] → ⊥
some_looked graph _ (set_looked one others there) clear none = some_numbered graph one.0 (fact_numbers others) there none
some_looked graph _ (two_looked one two so) clear none = absurd clear
some_looked graph _ (member_looked class one others path there) clear none = some_numbered graph one.0 (fact_numbers others) there none
some_looked graph _ (clash_looked class one two) clear none = absurd clear

pub some_member : (graph : CxxGraph) (class : ClassId) (name : CxxName) → AreSound graph.facts → (all : List FactId) (path : List ℕ) → member graph any_name class name ≡ Ok (member_found.Set all path) → numbered_at graph (fact_numbers all) ≡ [] → ⊥
some_member graph class name sound all path e none = some_looked graph (found.Member class (member_found.Set all path)) (in_class (IsThere graph) graph any_name name class sound (one_there graph any_name sound) all path e) tt none

-- 3.4: two that are found are declared
pub two_looked_so : (P : ℕ → Type 0) (graph : CxxGraph) (x : Found) (one two : FactId) → x ≡ found.Ambiguous one two → IsLooked P graph x → IsTwo P graph one two
two_looked_so P graph _ one two e (set_looked m others there) = absurd cc
two_looked_so P graph _ one two e (member_looked class m others path there) = absurd cc
two_looked_so P graph _ one two e (clash_looked class m n) = absurd cc
two_looked_so P graph _ one two e (two_looked m n so) = subst (λ (x : FactId). IsTwo P graph x two) (ap first_in e) (subst (λ (y : FactId). IsTwo P graph m y) (ap second_in e) so)
  where
    first_in : Found → FactId
    first_in (found.Ambiguous m n) = m
    first_in _ = one

    second_in : Found → FactId
    second_in (found.Ambiguous m n) = n
    second_in _ = two

pub two_sought : (graph : CxxGraph) (wanted : Wanted) (where_ : Region) (name : CxxName) (one two : FactId) → AreFitting graph → IsRegion graph where_ → sought_in graph wanted where_ name ≡ found.Ambiguous one two → IsTwo (IsThere graph) graph one two
two_sought graph wanted where_ name one two is there e = by (sought_in graph wanted where_ name) (sought_so (IsThere graph) graph wanted where_ name is there (one_there graph wanted is.sound)) e
  where
    by : (x : Found) → IsSoughtSo (IsThere graph) graph wanted where_ name x → x ≡ found.Ambiguous one two → IsTwo (IsThere graph) graph one two
    by _ (nothing_there none_there) e = absurd (nothing where_ e)
      where
        nothing : (where_ : Region) → nothing_in where_ ≡ found.Ambiguous one two → ⊥
        nothing (region.Outward scope) e = cc
        nothing (region.Inside space) e = cc
        nothing (region.Class class) e = cc
    by x (some_there _ so) e = two_looked_so (IsThere graph) graph x one two e so

-- ---- namespaces

abbrev IsSpaceThere : CxxGraph → ℕ → Type 0
IsSpaceThere graph n = (fact : CxxFact) × (slice_get graph.facts n ≡ Some fact) × (names_space fact.what ≡ true)

space_is_none : (number n : ℕ) (what : Declares) → names_space what ≡ true → entity_by number what ≡ of_fact n → ⊥
space_is_none number n (facts.namespace _) e f = cc
space_is_none number n (facts.scope _ _) e f = cc
space_is_none number n (facts.object _ _ _ _ _) e f = cc
space_is_none number n (facts.function _ _ _ _ _) e f = cc
space_is_none number n (facts.enumeration _) e f = cc
space_is_none number n (facts.enumerator _ _) e f = cc
space_is_none number n (facts.synonym _) e f = cc
space_is_none number n (facts.directive _) e f = cc
space_is_none number n _ e f = cc

one_space : (graph : CxxGraph) (one : Sighting) → IsOne graph namespaces_only one → IsSo (IsSpaceThere graph) one
one_space graph one is = record {
  meant = subst (IsSpaceThere graph) (sym is.meant) (is.fact, is.stands, subst (λ (w : Declares). names_space w ≡ true) is.what is.is_wanted_so);
  first = λ n e. absurd (space_is_none one.meant.0 n one.what is.is_wanted_so e);
}

first_there_space : (graph : CxxGraph) (n : ℕ) (others : List ℕ) → IsSpaceThere graph n → first_space (numbered_at graph (n ∷ others)) ≡ None → ⊥
first_there_space graph n others there e = by there.0.what there.2 (ap (λ (o : Option CxxFact). first_space (numbered_by n o (numbered_at graph others))) (sym there.1) ∙ e)
  where
    by : (what : Declares) → names_space what ≡ true → or_later (space_in what) (first_space (numbered_at graph others)) ≡ None → ⊥
    by (facts.namespace _) is e = cc
    by _ is e = cc

-- 3.4.6: the same of namespaces
pub no_space_sought : (graph : CxxGraph) (where_ : Region) (name : CxxName) → AreFitting graph → IsRegion graph where_ → (x : Found) → sought_in graph namespaces_only where_ name ≡ x → IsClear x → first_space (set_in graph x) ≡ None
    → (sought_in graph namespaces_only where_ name ≡ nothing_in where_) × IsNotThere graph namespaces_only where_ name
no_space_sought graph where_ name is there x e clear none = by x (subst (IsSoughtSo (IsSpaceThere graph) graph namespaces_only where_ name) e (sought_so (IsSpaceThere graph) graph namespaces_only where_ name is there (one_space graph))) e clear none
  where
    by : (x : Found) → IsSoughtSo (IsSpaceThere graph) graph namespaces_only where_ name x → sought_in graph namespaces_only where_ name ≡ x → IsClear x → first_space (set_in graph x) ≡ None → (sought_in graph namespaces_only where_ name ≡ nothing_in where_) × IsNotThere graph namespaces_only where_ name
    by _ (nothing_there none_there) e clear none = (e, none_there)
    by _ (some_there _ (set_looked one others there)) e clear none = absurd (first_there_space graph one.0 (fact_numbers others) there none)
    by _ (some_there _ (two_looked one two so)) e clear none = absurd clear
    by _ (some_there _ (member_looked class one others path there)) e clear none = absurd (first_there_space graph one.0 (fact_numbers others) there none)
    by _ (some_there _ (clash_looked class one two)) e clear none = absurd clear

-- 7.3.3: what a using-declaration brings is declared
pub brought_there : (graph : CxxGraph) (space : ScopeId) (name : CxxName) → AreFitting graph → AllByRecursion (OfNumber (IsThere graph)) (entities (sightings_of graph (length graph.facts) any_name name space))
brought_there graph space name is =
    let sightings = sightings_of graph (length graph.facts) any_name name space in
    entities_so (IsThere graph) sightings (each_of_all (IsThere graph) graph any_name (one_there graph any_name is.sound) sightings (spaces_seen graph (length graph.facts) any_name name (searched graph (length graph.facts) any_name name space) is.sound))

-- ---- what the types of arguments find (3.4.2)

each_standing : (graph : CxxGraph) (cut : ℕ) (name : CxxName) (spaces : List ℕ) → AreSound graph.facts → AllByRecursion (IsOne graph any_name) (standing_in_each graph cut name spaces)
unfolding standing_in_each
each_standing graph cut name [] sound = tt
each_standing graph cut name (space ∷ others) sound = beside_all (IsOne graph any_name) (standing graph cut any_name name (space_id space)) (standing_in_each graph cut name others) (each_seen graph cut any_name name (space_id space) sound) (each_standing graph cut name others sound)

-- 11.4: what a friend declaration declares is a declaration that there is
target_one : (graph : CxxGraph) (name : CxxName) (target : FactId) (found_there : Option CxxFact) (one : Sighting) → AreSound graph.facts → slice_get graph.facts target.0 ≡ found_there → target_named graph name target found_there ≡ Some one → IsOne graph any_name one
target_one graph name target None one sound at e = absurd cc
target_one graph name target (Some fact) one sound at e = one_wanted graph any_name target.0 fact one sound at (if_some (is_target graph name fact) (Some (sighting_of graph.facts target.0 fact)) one e)

befriended_one : (graph : CxxGraph) (name : CxxName) (classes : List ℕ) (number : ℕ) (fact : CxxFact) (one : Sighting) → AreSound graph.facts → befriended graph name classes number fact ≡ Some one → IsOne graph any_name one
unfolding befriended
befriended_one graph name classes number fact one sound e = by (target_of classes fact.what) e
  where
    by : (o : Option FactId) → target_by graph name o ≡ Some one → IsOne graph any_name one
    by None e = absurd cc
    by (Some target) e = target_one graph name target (slice_get graph.facts target.0) one sound refl e

each_by_types : (graph : CxxGraph) (sets : Associated) (name : CxxName) → AreSound graph.facts → AllByRecursion (OfNumber (IsThere graph)) (adl graph sets name (length graph.facts))
unfolding adl
each_by_types graph sets name sound = entities_so (IsThere graph) (functions_among graph seen) (filtered_all (IsSo (IsThere graph)) (λ one. is_function graph one.what) seen (each_of seen (beside_all (IsOne graph any_name) (standing_in_each graph (length graph.facts) name sets.spaces) (gathered (befriended graph name sets.classes) 0 graph.facts) (each_standing graph (length graph.facts) name sets.spaces sound) friends)))
  where
    seen : List Sighting
    seen = standing_in_each graph (length graph.facts) name sets.spaces ++ gathered (befriended graph name sets.classes) 0 graph.facts

    friends : AllByRecursion (IsOne graph any_name) (gathered (befriended graph name sets.classes) 0 graph.facts)
    friends = gathered_all (IsOne graph any_name) (befriended graph name sets.classes) graph.facts 0 (λ i fact one there is. befriended_one graph name sets.classes (0 + i) fact one sound is)

    each_of : (all : List Sighting) → AllByRecursion (IsOne graph any_name) all → AllByRecursion (IsSo (IsThere graph)) all
    each_of [] are = tt
    each_of (one ∷ others) are = (one_there graph any_name sound one are.0, each_of others are.1)

none_fresh : (graph : CxxGraph) (all : List FactId) → AllByRecursion (OfNumber (IsThere graph)) all → numbered_at graph (fresh_among [] all) ≡ [] → all ≡ []
none_fresh graph [] each e = refl
none_fresh graph (one ∷ others) each e = absurd (some_numbered graph one.0 (fresh_among [] others) each.0 e)

-- where nothing new is declared of what they find, they find nothing
pub none_by_types : (graph : CxxGraph) (word : Option (List ℕ)) (operands : List CxxOperand) → AreSound graph.facts → numbered_at graph (fresh_among [] (associated_functions graph word operands)) ≡ [] → associated_functions graph word operands ≡ []
none_by_types graph None operands sound e = refl
none_by_types graph (Some word) operands sound e = by (associated graph (types_of_operands operands)) e
  where
    by : (sets : Result Associated ClassId) → numbered_at graph (fresh_among [] (found_in_sets graph word sets)) ≡ [] → found_in_sets graph word sets ≡ []
    by (Ok sets) e = none_fresh graph (adl graph sets (spelled word) (length graph.facts)) (each_by_types graph sets (spelled word) sound) e
    by (Err class) e = refl
