-- Where types lead to no class and to no enumeration, no function is found by them (3.4.2).
use Rattle.std.specs.Prelude.{ℕ, zero, suc, ◌≡◌, ◌<◌, ◌+◌, Bool, true, false, ◌&&◌, if◌then◌else◌, List, [], ◌∷◌, ◌++◌, length, map, find, Option, Some, None, Ok, refl}
use Rattle.std.proofs.Common.{ap, sym, subst, ◌∙◌, arith, get_or}
use Rattle.std.specs.List.{slice_get}
use Rattle.cxx_model.specs.declared.lookup.Associated.{Associated}
use Rattle.cxx_model.specs.declared.types.TypeId.{TypeId}
use Rattle.cxx_model.specs.Facts.Declarations as facts
use Rattle.cxx_model.specs.Facts.Declarations.{CxxFact, CxxGraph, CxxName, Declares}
use Rattle.cxx_model.specs.Facts.Pending.{is_pending}
use Rattle.cxx_model.specs.Types.Numbers.{AreTypesBelow}
use Rattle.cxx_model.specs.Types.Trees.{CxxType, CxxTypes, fundamental, class_type, enumeration, pointer_to, reference_to, array_of, function_of, qualified, type_parameter, specialisation, nested_in, no_types, type_then}
use Rattle.cxx_meaning.specs.Lookups.Associated.{Part, adl, associated, befriended, class_at_scope, class_of, collected, each_of, everything, followed, functions_among, holds_part, leads_to, member_scope_of, of_base, of_type, own_classes, parts, scope_of, sets_of, space_at_scope, spaces_of, standing_in_each, target_of, template_scope_of, unless_pending, with_member_classes, with_option, with_part, with_parts, with_spaces}
use Rattle.cxx_meaning.specs.Lookups.Gathered.{before, gathered, with_facts}
use Rattle.cxx_meaning.specs.Lookups.Sightings.{entities}
use Rattle.cxx_found.specs.Associated.{AreFoundBy, found_in_sets}
use Rattle.cxx_found.specs.Nowhere.{are_simple, is_simple, lead_nowhere, leads_nowhere}

-- ---- what such types lead to

abbrev IsNowhere : Part → Type 0
IsNowhere (of_type t) = leads_nowhere t ≡ true
IsNowhere (of_base n) = ⊥

abbrev AreNowhere : List Part → Type 0
AreNowhere [] = Unit {0}
AreNowhere (part ∷ others) = IsNowhere part × AreNowhere others

both_one : (a b : Bool) → (a && b) ≡ true → a ≡ true
both_one true b is = refl
both_one false b is = is

both_two : (a b : Bool) → (a && b) ≡ true → b ≡ true
both_two true b is = is
both_two false b is = absurd cc

simple_leads : (t : CxxType) → is_simple t ≡ true → leads_nowhere t ≡ true
simple_leads (fundamental base) is = refl
simple_leads (pointer_to t) is = simple_leads t is
simple_leads (reference_to t) is = simple_leads t is
simple_leads (array_of t bound) is = simple_leads t is
simple_leads (qualified cv t) is = simple_leads t is
simple_leads (class_type n) is = is
simple_leads (enumeration n) is = is
simple_leads (function_of r ts ellipsis cv) is = absurd cc
simple_leads (type_parameter depth index) is = is
simple_leads (specialisation n _) is = is
simple_leads (nested_in t word) is = is

each_nowhere : (ts : CxxTypes) → are_simple ts ≡ true → AreNowhere (each_of ts)
each_nowhere no_types are = tt
each_nowhere (type_then t ts) are = (simple_leads t (both_one (is_simple t) (are_simple ts) are), each_nowhere ts (both_two (is_simple t) (are_simple ts) are))

next_nowhere : (graph : CxxGraph) (part : Part) → IsNowhere part → AreNowhere (leads_to graph part)
next_nowhere graph (of_base n) is = elim is [ ]
next_nowhere graph (of_type (fundamental base)) is = tt
next_nowhere graph (of_type (pointer_to t)) is = (is, tt)
next_nowhere graph (of_type (reference_to t)) is = (is, tt)
next_nowhere graph (of_type (array_of t bound)) is = (is, tt)
next_nowhere graph (of_type (qualified cv t)) is = (is, tt)
next_nowhere graph (of_type (function_of r ts ellipsis cv)) is = (simple_leads r (both_one (is_simple r) (are_simple ts) is), each_nowhere ts (both_two (is_simple r) (are_simple ts) is))
next_nowhere graph (of_type (class_type n)) is = absurd cc
next_nowhere graph (of_type (enumeration n)) is = absurd cc
next_nowhere graph (of_type (type_parameter depth index)) is = absurd cc
next_nowhere graph (of_type (specialisation n _)) is = absurd cc
next_nowhere graph (of_type (nested_in t word)) is = absurd cc

-- ---- all that they lead to

more_nowhere : (found : List Part) (part : Part) → AreNowhere found → IsNowhere part → AreNowhere (found ++ part ∷ [])
more_nowhere [] part all is = (is, tt)
more_nowhere (one ∷ found) part all is = (all.0, more_nowhere found part all.1 is)

with_nowhere : (found : List Part) (part : Part) → AreNowhere found → IsNowhere part → AreNowhere (with_part found part)
with_nowhere found part all is = by (holds_part found part)
  where
    by : (b : Bool) → AreNowhere (if b then found else found ++ part ∷ [])
    by true = all
    by false = more_nowhere found part all is

withs_nowhere : (found others : List Part) → AreNowhere found → AreNowhere others → AreNowhere (with_parts found others)
unfolding with_parts
withs_nowhere found [] all more = all
withs_nowhere found (part ∷ others) all more = withs_nowhere (with_part found part) others (with_nowhere found part all more.0) more.1

at_nowhere : (found : List Part) (place : ℕ) (part : Part) → AreNowhere found → slice_get found place ≡ Some part → IsNowhere part
at_nowhere [] place part all at = absurd cc
at_nowhere (one ∷ found) zero part all at = (let same : one ≡ part = cc in subst (λ (p : Part). IsNowhere p) same all.0)
at_nowhere (one ∷ found) (suc place) part all at = at_nowhere found place part all.1 at

turned : (next : Part → List Part) (room place : ℕ) (found : List Part) (part : Part) → slice_get found place ≡ Some part → followed next (suc room) place found ≡ followed next room (place + 1) (with_parts found (next part))
unfolding followed
turned next room place found part at = rw at refl

ended : (next : Part → List Part) (room place : ℕ) (found : List Part) → slice_get found place ≡ None → followed next (suc room) place found ≡ found
unfolding followed
ended next room place found at = rw at refl

spent : (next : Part → List Part) (place : ℕ) (found : List Part) → followed next zero place found ≡ found
unfolding followed
spent next place found = refl

turn_nowhere : (graph : CxxGraph) (room place : ℕ) (found : List Part) (o : Option Part) → slice_get found place ≡ o → AreNowhere found → ((more : List Part) → AreNowhere more → AreNowhere (followed (leads_to graph) room (place + 1) more)) → AreNowhere (followed (leads_to graph) (suc room) place found)
turn_nowhere graph room place found None at all further = subst AreNowhere (sym (ended (leads_to graph) room place found at)) all
turn_nowhere graph room place found (Some part) at all further =
    subst AreNowhere (sym (turned (leads_to graph) room place found part at))
    (further (with_parts found (leads_to graph part)) (withs_nowhere found (leads_to graph part) all (next_nowhere graph part (at_nowhere found place part all at))))

followed_nowhere : (graph : CxxGraph) (room place : ℕ) (found : List Part) → AreNowhere found → AreNowhere (followed (leads_to graph) room place found)
followed_nowhere graph zero place found all = subst AreNowhere (sym (spent (leads_to graph) place found)) all
followed_nowhere graph (suc room) place found all = turn_nowhere graph room place found (slice_get found place) refl all (λ more. followed_nowhere graph room (place + 1) more)

given_nowhere : (ts : List CxxType) → lead_nowhere ts ≡ true → AreNowhere (map of_type ts)
given_nowhere [] are = tt
given_nowhere (t ∷ ts) are = (both_one (leads_nowhere t) (lead_nowhere ts) are, given_nowhere ts (both_two (leads_nowhere t) (lead_nowhere ts) are))

parts_nowhere : (graph : CxxGraph) (ts : List CxxType) → lead_nowhere ts ≡ true → AreNowhere (parts graph ts)
unfolding parts
parts_nowhere graph ts are = followed_nowhere graph (length (everything graph ts)) 0 (with_parts [] (map of_type ts)) (withs_nowhere [] (map of_type ts) tt (given_nowhere ts are))

-- ---- what they give

abbrev GivesNothing : (Part → Option ℕ) → Type 0
GivesNothing give = (part : Part) → IsNowhere part → give part ≡ None

collected_nothing : (give : Part → Option ℕ) (found : List ℕ) (all : List Part) → GivesNothing give → AreNowhere all → collected give found all ≡ found
unfolding collected
collected_nothing give found [] nothing are = refl
collected_nothing give found (part ∷ all) nothing are = ap (λ o. collected give (with_option o found) all) (nothing part are.0) ∙ collected_nothing give found all nothing are.1

no_class : GivesNothing class_of
no_class (of_base n) is = elim is [ ]
no_class (of_type (fundamental base)) is = refl
no_class (of_type (pointer_to t)) is = refl
no_class (of_type (reference_to t)) is = refl
no_class (of_type (array_of t bound)) is = refl
no_class (of_type (qualified cv t)) is = refl
no_class (of_type (function_of r ts ellipsis cv)) is = refl
no_class (of_type (class_type n)) is = absurd cc
no_class (of_type (enumeration n)) is = refl
no_class (of_type (type_parameter depth index)) is = refl
no_class (of_type (specialisation n _)) is = refl
no_class (of_type (nested_in t word)) is = refl

no_scope : (graph : CxxGraph) (part : Part) → IsNowhere part → scope_of graph part ≡ None
no_scope graph (of_base n) is = elim is [ ]
no_scope graph (of_type (fundamental base)) is = refl
no_scope graph (of_type (pointer_to t)) is = refl
no_scope graph (of_type (reference_to t)) is = refl
no_scope graph (of_type (array_of t bound)) is = refl
no_scope graph (of_type (qualified cv t)) is = refl
no_scope graph (of_type (function_of r ts ellipsis cv)) is = refl
no_scope graph (of_type (class_type n)) is = absurd cc
no_scope graph (of_type (enumeration n)) is = absurd cc
no_scope graph (of_type (type_parameter depth index)) is = refl
no_scope graph (of_type (specialisation n _)) is = refl
no_scope graph (of_type (nested_in t word)) is = refl

no_template_scope : (graph : CxxGraph) (part : Part) → IsNowhere part → template_scope_of graph part ≡ None
no_template_scope graph (of_base n) is = elim is [ ]
no_template_scope graph (of_type (fundamental base)) is = refl
no_template_scope graph (of_type (pointer_to t)) is = refl
no_template_scope graph (of_type (reference_to t)) is = refl
no_template_scope graph (of_type (array_of t bound)) is = refl
no_template_scope graph (of_type (qualified cv t)) is = refl
no_template_scope graph (of_type (function_of r ts ellipsis cv)) is = refl
no_template_scope graph (of_type (class_type n)) is = absurd cc
no_template_scope graph (of_type (enumeration n)) is = refl
no_template_scope graph (of_type (type_parameter depth index)) is = refl
no_template_scope graph (of_type (specialisation n _)) is = absurd cc
no_template_scope graph (of_type (nested_in t word)) is = refl

no_member_scope : (graph : CxxGraph) (part : Part) → IsNowhere part → member_scope_of graph part ≡ None
no_member_scope graph (of_base n) is = elim is [ ]
no_member_scope graph (of_type (fundamental base)) is = refl
no_member_scope graph (of_type (pointer_to t)) is = refl
no_member_scope graph (of_type (reference_to t)) is = refl
no_member_scope graph (of_type (array_of t bound)) is = refl
no_member_scope graph (of_type (qualified cv t)) is = refl
no_member_scope graph (of_type (function_of r ts ellipsis cv)) is = refl
no_member_scope graph (of_type (class_type n)) is = absurd cc
no_member_scope graph (of_type (enumeration n)) is = absurd cc
no_member_scope graph (of_type (type_parameter depth index)) is = refl
no_member_scope graph (of_type (specialisation n _)) is = absurd cc
no_member_scope graph (of_type (nested_in t word)) is = refl

no_sets : Associated
no_sets = record { classes = []; spaces = [] }

own_nothing : (all : List Part) → AreNowhere all → own_classes all ≡ []
own_nothing all are = collected_nothing class_of [] all no_class are

classes_nothing : (graph : CxxGraph) (all : List Part) → AreNowhere all → with_member_classes graph all (own_classes all) ≡ []
classes_nothing graph all are =
    collected_nothing (λ part. class_at_scope graph (member_scope_of graph part)) (own_classes all) all (λ part is. ap (class_at_scope graph) (no_member_scope graph part is)) are
    ∙ own_nothing all are

spaces_nothing : (graph : CxxGraph) (all : List Part) → AreNowhere all → spaces_of graph all ≡ []
spaces_nothing graph all are =
    collected_nothing (λ part. space_at_scope graph (template_scope_of graph part)) (with_spaces graph all []) all (λ part is. ap (space_at_scope graph) (no_template_scope graph part is)) are
    ∙ collected_nothing (λ part. space_at_scope graph (scope_of graph part)) [] all (λ part is. ap (space_at_scope graph) (no_scope graph part is)) are

sets_nothing : (graph : CxxGraph) (all : List Part) → AreNowhere all → sets_of graph all ≡ no_sets
unfolding no_sets
sets_nothing graph all are =
    let make : List ℕ → List ℕ → Associated = λ cs ss. record { classes = cs; spaces = ss } in
    ap (λ cs. make cs (spaces_of graph all)) (classes_nothing graph all are) ∙ ap (make []) (spaces_nothing graph all are)

associated_nothing : (graph : CxxGraph) (ts : List CxxType) → lead_nowhere ts ≡ true → associated graph ts ≡ Ok no_sets
unfolding associated
associated_nothing graph ts are =
    let all : List Part = parts graph ts in
    ap (λ own. unless_pending (find (is_pending graph) own) (sets_of graph all)) (own_nothing all (parts_nowhere graph ts are))
    ∙ ap (λ (sets : Associated). Ok sets) (sets_nothing graph all (parts_nowhere graph ts are))

-- ---- what is found in no namespaces

no_target : (what : Declares) → target_of [] what ≡ None
no_target (facts.friend class target) = refl
no_target (facts.scope parent kind) = refl
no_target (facts.object of member is_mutable value first) = refl
no_target (facts.function of member flags defaults first) = refl
no_target (facts.template template member defaults is_explicit first) = refl
no_target (facts.value_parameter depth index of) = refl
no_target (facts.injected class) = refl
no_target (facts.class class is_union) = refl
no_target (facts.complete class) = refl
no_target (facts.passed class) = refl
no_target (facts.ancestor class parent index access) = refl
no_target (facts.enumeration n) = refl
no_target (facts.enumerator n value) = refl
no_target (facts.synonym of) = refl
no_target (facts.namespace inner) = refl
no_target (facts.directive nominated) = refl
no_target (facts.using target) = refl

befriended_nothing : (graph : CxxGraph) (word : CxxName) (number : ℕ) (fact : CxxFact) → befriended graph word [] number fact ≡ None
unfolding befriended
befriended_nothing graph word number fact = rw (no_target fact.what) refl

pub gathered_nothing : (graph : CxxGraph) (word : CxxName) (number : ℕ) (all : List CxxFact) → gathered (befriended graph word []) number all ≡ []
gathered_nothing graph word number [] = refl
gathered_nothing graph word number (fact ∷ all) =
    ap (λ o. before o (gathered (befriended graph word []) (number + 1) all)) (befriended_nothing graph word number fact)
    ∙ gathered_nothing graph word (number + 1) all

no_entities : entities [] ≡ []
unfolding entities with_facts
no_entities = refl

none_standing : (graph : CxxGraph) (cut : ℕ) (word : CxxName) → standing_in_each graph cut word [] ≡ []
unfolding standing_in_each
none_standing graph cut word = refl

adl_nothing : (graph : CxxGraph) (word : CxxName) (cut : ℕ) → adl graph no_sets word cut ≡ []
unfolding adl no_sets
adl_nothing graph word cut =
    ap (λ one. entities (functions_among graph (one ++ gathered (befriended graph word []) 0 graph.facts))) (none_standing graph cut word)
    ∙ ap (λ two. entities (functions_among graph two)) (gathered_nothing graph word 0 graph.facts)
    ∙ no_entities

pub found_nothing : (graph : CxxGraph) (name : CxxName) (ts : List CxxType) → lead_nowhere ts ≡ true → AreFoundBy graph ts name []
found_nothing graph name ts are = sym (ap (found_in_sets graph name) (associated_nothing graph ts are) ∙ adl_nothing graph name (length graph.facts))

-- ---- by their numbers

pub below_at : (count : ℕ) (numbers : List TypeId) (i : ℕ) (d : TypeId) → AreTypesBelow count numbers → i < length numbers → (get_or numbers i d).0 < count
below_at count [] i d ok within = absurd (omega (arith, within))
below_at count (n ∷ numbers) zero d ok within = ok.0
below_at count (n ∷ numbers) (suc i) d ok within = below_at count numbers i d ok.1 (omega (arith, within))

pub below_all : (number count : ℕ) (numbers : List TypeId) → AreTypesBelow number numbers → number < count → AreTypesBelow count numbers
below_all number count [] ok less = tt
below_all number count (n ∷ numbers) ok less = (let first : n.0 < number = ok.0 in omega (arith, less), below_all number count numbers ok.1 less)
