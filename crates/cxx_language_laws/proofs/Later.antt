-- What stops a question about declarations says nothing of them, and each answer keeps them, and the calls so far.
use Rattle.std.proofs.Common.{arith, ◌≡◌, ℕ, suc, ◌+◌, ◌<◌, ◌≤◌, Bool, true, false, List, [], ◌∷◌, ◌++◌, length, Option, Some, None, Ok, Err, refl, sym, ap, subst, ◌∙◌}
use Rattle.std.specs.Prelude.{if◌then◌else◌, ℤ, nat_eq, nat_lt}
use Rattle.std.specs.List.{AllByRecursion, slice_get}
use Rattle.std.proofs.lemmas.List.{append-nil, append_assoc, length-append}
use Rattle.std.proofs.lemmas.Option.{same_Some, slice_get_within}
use Rattle.cxx_model.specs.declared.place.Place.{Place}
use Rattle.cxx_model.specs.declared.stop.LimitKind.TheVariants.{Facts}
use Rattle.cxx_model.specs.declared.types.ClassId.{ClassId}
use Rattle.cxx_model.specs.declared.types.Cv.{Cv}
use Rattle.cxx_model.specs.declared.types.FactId.{FactId}
use Rattle.cxx_model.specs.Facts.Conflicts.{scope_facts}
use Rattle.cxx_model.specs.Facts.Declarations.{CxxFact, CxxGraph, CxxName, spelled}
use Rattle.cxx_model.specs.Facts.Declarations as facts
use Rattle.cxx_model.specs.Stops.{Answer, Stopped, Limited, ◌>>=◌}
use Rattle.cxx_model.specs.Text.Lexemes.{Lexeme}
use Rattle.cxx_model.specs.Types.Integral.{one_holds}
use Rattle.cxx_model.specs.Types.Trees.{CxxType}
use Rattle.cxx_meaning.specs.Conversions.Enumerations.{values_in}
use Rattle.cxx_reading.specs.Declaring.{class_of_here, free_in_class, free_object, with_fact, added, free, free_by, free_linked, declare, declare_linked_object, declare_synonym, declared_here, first_function, first_member_function, first_member_object, first_object, first_object_here, home_here, is_object, is_same_function, linked_as, linked_object_here, name_of, number_id, parameter_object, with_linked, word_of, declare_object, define_object, define_declared, undefined, undefined_by, defined_as, with_definition, declare_parameter, declare_enumeration, begun_as, declare_enumerator, declare_value, held, end_enumeration, kind_here, type_here, most_facts, fact_here, object_here, enumeration_count}
use Rattle.cxx_reading.specs.Linked.{is_linked_as, is_space_at, linked_among, linked_in, sooner_fact}
use Rattle.cxx_reading.specs.Paths.{space_in}
use Rattle.cxx_reading.specs.Reads.{Ahead, Asks}
use Rattle.cxx_reading.specs.Seen.{Numbered, declared_from, declared_in, declares_in, numbered_at, numbered_by}
use Rattle.cxx_reading.specs.State.{CxxState, CxxCall, CxxGiven, CxxOffered}
use Rattle.cxx_reading.specs.Trees.{CxxPath}
use Rattle.cxx_reading.proofs.Keeps.{IsKept}
use Rattle.cxx_tree.specs.Defaults.{with_given, without_offers}
use Rattle.cxx_declare.specs.Outside.{again_among, again_fact, again_here, again_what, declare_again, declared_again, is_again, members_here}
use Rattle.cxx_declare.specs.Functions.{declare_function, declare_unread, declare_unread_with, declare_with, free_if, function_by, given_as, is_linked_here, linked_if, given_before, not_given, not_given_by, offered_by, with_all_given}
use Rattle.cxx_language_laws.specs.Best.{IsBestCall, AreBestCalls}
use Rattle.cxx_language_laws.specs.Told.{IsGrown}
use Rattle.cxx_language_laws.proofs.Scopes.{InScopes, IsFirstThere, IsSound, MayStand, may_stand, scopes_beside_it, scopes_put, scopes_same}
use Rattle.cxx_language_laws.proofs.Tells.{IsQuiet, Quietly, quiet_is_told, IsTold, ToldBy, tells_answer, tells_refusal, Answers}

-- ---- what a state keeps

abbrev with_facts : List CxxFact → CxxGraph → CxxGraph
with_facts own graph = record graph { facts = graph.facts ++ own }

-- a state keeps what is declared, how its scopes stand in one another and with that the scope in which it stands, and that
-- each call is the best
pub record IsLater (old new : CxxState) : Type 0 where
  pub grown : IsGrown old new
  pub scopes : InScopes old → InScopes new
  pub best : AreBestCalls old → AreBestCalls new
  pub here : InScopes old → new.here.scope ≡ old.here.scope

pub grown_by : (old new : CxxState) (own : List CxxFact) → new.graph ≡ with_facts own old.graph → IsGrown old new
grown_by old new own declared = record {
  own = own;
  reserved = [];
  declared = ap (λ (g : CxxGraph). g.facts) declared;
  classes = ap (λ (g : CxxGraph). g.classes) declared ∙ sym (append-nil old.graph.classes);
  patterns = ap (λ (g : CxxGraph). g.patterns) declared;
}

-- nothing more is declared
pub grown_same : (old new : CxxState) → new.graph ≡ old.graph → IsGrown old new
grown_same old new same = grown_by old new [] (same ∙ ap (λ fs. record old.graph { facts = fs }) (sym (append-nil old.graph.facts)))

pub grown_later : (s t u : CxxState) → IsGrown s t → IsGrown t u → IsGrown s u
grown_later s t u one two = record {
  own = one.own ++ two.own;
  reserved = one.reserved ++ two.reserved;
  declared = two.declared ∙ (ap (λ fs. fs ++ two.own) one.declared ∙ append_assoc s.graph.facts one.own two.own);
  classes = two.classes ∙ (ap (λ cs. cs ++ two.reserved) one.classes ∙ append_assoc s.graph.classes one.reserved two.reserved);
  patterns = two.patterns ∙ one.patterns;
}

-- more declarations behind a call make no difference to it
widened : (old new : CxxState) → IsGrown old new → (call : CxxCall) → IsBestCall old call → IsBestCall new call
widened old new grown call best = record {
  before = best.before;
  later = best.later ++ grown.own;
  stands = grown.declared ∙ (ap (λ fs. fs ++ grown.own) best.stands ∙ append_assoc best.before.facts best.later grown.own);
  object = best.object;
  operands = best.operands;
  functions = best.functions;
  may_mean = best.may_mean;
  all = best.all;
  rated_so = best.rated_so;
  reasons = best.reasons;
  meant = best.meant;
  best = best.best;
  keeps = best.keeps;
}

pub each_widened : (old new : CxxState) → IsGrown old new → (calls : List CxxCall) → AllByRecursion (IsBestCall old) calls → AllByRecursion (IsBestCall new) calls
each_widened old new grown [] all = all
each_widened old new grown (call ∷ calls) all = (widened old new grown call all.0, each_widened old new grown calls all.1)

pub same_calls : (old new : CxxState) → IsGrown old new → new.calls ≡ old.calls → AreBestCalls old → AreBestCalls new
same_calls old new grown calls all = subst (λ cs. AllByRecursion (IsBestCall new) cs) (sym calls) (each_widened old new grown old.calls all)

pub later_by : (old new : CxxState) → IsGrown old new → (InScopes old → InScopes new) → new.calls ≡ old.calls → new.here.scope ≡ old.here.scope → IsLater old new
later_by old new grown scopes calls here = record { grown = grown; scopes = scopes; best = same_calls old new grown calls; here = λ is. here }

pub later_same : (old new : CxxState) → new.graph ≡ old.graph → new.here.scope ≡ old.here.scope → new.calls ≡ old.calls → IsLater old new
later_same old new same here calls = later_by old new (grown_same old new same) (scopes_same old new same here) calls here

pub later_is_kept : IsKept IsLater
later_is_kept = record {
  same = λ s. later_same s s refl refl refl;
  later = λ s t u one two. record { grown = grown_later s t u one.grown two.grown; scopes = λ is. two.scopes (one.scopes is); best = λ is. two.best (one.best is); here = λ is. two.here (one.scopes is) ∙ one.here is };
}

pub later_is_quiet : IsTold IsLater Quietly
later_is_quiet = quiet_is_told later_is_kept

-- ---- answers

quietly : {A : Type 0} (state : CxxState) (ahead : Ahead) (why : Stopped) → IsQuiet why → ToldBy {A = A} IsLater Quietly state ahead (Err why)
quietly state ahead why quiet = tells_refusal why quiet

-- an answer without a state, whose refusals say nothing of declarations
pub data QuietBy {A : Type 0} : Answer A → Type 0 where
  quiet_answer : (one : A) → QuietBy (Ok one)
  quiet_refusal : (why : Stopped) → IsQuiet why → QuietBy (Err why)

pub by_then : {A B : Type 0} (state : CxxState) (ahead : Ahead) {first : Answer A} (go : A → Answer (B × CxxState)) → QuietBy first → ((x : A) → ToldBy IsLater Quietly state ahead (go x)) → ToldBy IsLater Quietly state ahead (first >>= go)
by_then state ahead go (quiet_answer one) tells = tells one
by_then state ahead go (quiet_refusal why quiet) tells = quietly state ahead why quiet

quiet_then : {A B : Type 0} {first : Answer A} (go : A → Answer B) → QuietBy first → ((x : A) → QuietBy (go x)) → QuietBy (first >>= go)
quiet_then go (quiet_answer one) more = more one
quiet_then go (quiet_refusal why quiet) more = quiet_refusal why quiet

pub by_answer : {A B : Type 0} (state : CxxState) (ahead : Ahead) {first : Answer (A × CxxState)} (go : A × CxxState → Answer (B × CxxState)) → ToldBy IsLater Quietly state ahead first → ((x : A × CxxState) → IsLater state x.1 → ToldBy IsLater Quietly state ahead (go x)) → ToldBy IsLater Quietly state ahead (first >>= go)
by_answer state ahead go (tells_answer one keeps) tells = tells one keeps
by_answer state ahead go (tells_refusal why true_of) tells = tells_refusal why true_of

free_by_quiet : (state : CxxState) (fact : CxxFact) (word : List ℕ) (conflict : Option ℕ) → QuietBy (free_by state fact word conflict)
free_by_quiet state fact word None = quiet_answer tt
free_by_quiet state fact word (Some number) = quiet_refusal _ refl

pub free_quiet : (state : CxxState) (fact : CxxFact) (word : List ℕ) → QuietBy (free state fact word)
unfolding free
free_quiet state fact word = free_by_quiet state fact word _

free_in_class_quiet : (state : CxxState) (fact : CxxFact) (word : List ℕ) (class : Option ClassId) → QuietBy (free_in_class state fact word class)
free_in_class_quiet state fact word None = free_quiet state fact word
free_in_class_quiet state fact word (Some class) = quiet_answer tt

free_object_quiet : (state : CxxState) (fact : CxxFact) (word : List ℕ) → QuietBy (free_object state fact word)
unfolding free_object
free_object_quiet state fact word = free_in_class_quiet state fact word (class_of_here state)

free_linked_quiet : (state : CxxState) (fact : CxxFact) (word : List ℕ) → QuietBy (free_linked state fact word)
unfolding free_linked
free_linked_quiet state fact word = free_by_quiet state fact word _

undefined_by_quiet : (state : CxxState) (place : Place) (word : List ℕ) (number : Option ℕ) → QuietBy (undefined_by state place word number)
undefined_by_quiet state place word None = quiet_answer tt
undefined_by_quiet state place word (Some number) = quiet_refusal _ refl

pub undefined_quiet : (state : CxxState) (place : Place) (word : List ℕ) (number : ℕ) (what : facts.Declares) → QuietBy (undefined state place word number what)
unfolding undefined
undefined_quiet state place word number what = undefined_by_quiet state place word _

held_quiet : (place : Place) (is_held : Bool) → QuietBy (held place is_held)
held_quiet place true = quiet_answer tt
held_quiet place false = quiet_refusal _ refl

-- a fact may be added where its state is as it should be
abbrev pub MayBeAdded : CxxState → CxxFact → Type 0
MayBeAdded state fact = InScopes state → MayStand state.graph.facts fact

-- of what is no namespace
pub may_be_added : (state : CxxState) (fact : CxxFact) → space_in fact.what ≡ None → IsSound state.graph.facts fact.what → MayBeAdded state fact
may_be_added state fact none is scopes = may_stand state.graph.facts fact none is

-- a fact behind a state, with which its scopes are as they should be
added_so : (s t : CxxState) (ahead : Ahead) (fact : CxxFact) → IsLater s t → (InScopes s → InScopes (with_fact fact t)) → ToldBy IsLater Quietly s ahead (added fact t)
unfolding added
added_so s t ahead fact later so = by (nat_eq (length t.graph.facts + length t.graph.classes) most_facts)
  where
    behind_it : IsLater s (with_fact fact t)
    behind_it = record {
      grown = grown_later s t (with_fact fact t) later.grown (grown_by t (with_fact fact t) (fact ∷ []) refl);
      scopes = so;
      best = λ all. same_calls t (with_fact fact t) (grown_by t (with_fact fact t) (fact ∷ []) refl) refl (later.best all);
      here = λ is. later.here is;
    }

    by : (b : Bool) → ToldBy IsLater Quietly s ahead (if b then Err (Limited Facts) else Ok (length t.graph.facts, with_fact fact t))
    by true = quietly s ahead (Limited Facts) refl
    by false = tells_answer (length t.graph.facts, with_fact fact t) behind_it

-- one in a scope that there is
pub added_behind : (s t : CxxState) (ahead : Ahead) (fact : CxxFact) → IsLater s t → (InScopes s → fact.scope < length (scope_facts t.graph.facts)) → (InScopes s → MayStand t.graph.facts fact) → ToldBy IsLater Quietly s ahead (added fact t)
added_behind s t ahead fact later there may = added_so s t ahead fact later (λ is. scopes_put t fact (there is) (may is) (later.scopes is))

-- one with which no scope begins
pub added_beside : (s t : CxxState) (ahead : Ahead) (fact : CxxFact) → IsLater s t → scope_facts (fact ∷ []) ≡ [] → (InScopes s → MayStand t.graph.facts fact) → ToldBy IsLater Quietly s ahead (added fact t)
added_beside s t ahead fact later none may = added_so s t ahead fact later (λ is. scopes_beside_it t fact none (may is) (later.scopes is))

-- a fact in the scope where the reader stands
pub added_tells : (fact : CxxFact) (state : CxxState) (ahead : Ahead) → fact.scope ≡ state.here.scope → MayBeAdded state fact → ToldBy IsLater Quietly state ahead (added fact state)
added_tells fact state ahead here may = added_behind state state ahead fact (later_same state state refl refl refl) (λ is. subst (λ (n : ℕ). n < length (scope_facts state.graph.facts)) (sym here) is.within) may

pub declare_tells : (fact : CxxFact) (word : List ℕ) (state : CxxState) (ahead : Ahead) → fact.scope ≡ state.here.scope → MayBeAdded state fact → ToldBy IsLater Quietly state ahead (declare fact word state)
unfolding declare
declare_tells fact word state ahead here may = by_then state ahead (λ is_free. added fact state) (free_quiet state fact word) (λ is_free. added_tells fact state ahead here may)

pub synonym_tells : (name : Lexeme) (of : CxxType) → Answers IsLater Quietly (declare_synonym name of)
unfolding declare_synonym
synonym_tells name of state ahead = declare_tells (fact_here state (spelled name.spelling) name.place (facts.synonym of)) name.spelling state ahead refl (may_be_added state (fact_here state (spelled name.spelling) name.place (facts.synonym of)) refl tt)

-- ---- first declarations

abbrev AreThere : ℕ → List Numbered → Type 0
AreThere count all = AllByRecursion (λ one. one.number < count) all

from_there : (scope : ℕ) (name : CxxName) (number : ℕ) (all : List CxxFact) (count : ℕ) → number + length all ≤ count → AreThere count (declared_from scope name number all)
from_there scope name number [] count le = tt
from_there scope name number (fact ∷ others) count le = by (declares_in scope name fact) (from_there scope name (suc number) others count (omega (arith, le)))
  where
    by : (b : Bool) → AreThere count (declared_from scope name (suc number) others) → AreThere count (if b then record { number = number; fact = fact } ∷ declared_from scope name (suc number) others else declared_from scope name (suc number) others)
    by true later = (omega (arith, le), later)
    by false later = later

declared_there : (graph : CxxGraph) (scope : ℕ) (name : CxxName) → AreThere (length graph.facts) (declared_in graph scope name)
unfolding declared_in
declared_there graph scope name = from_there scope name 0 graph.facts (length graph.facts) (omega arith)

numbered_there : (graph : CxxGraph) (all : List ℕ) → AreThere (length graph.facts) (numbered_at graph all)
numbered_there graph [] = tt
numbered_there graph (number ∷ others) = by (slice_get graph.facts number) refl (numbered_there graph others)
  where
    by : (o : Option CxxFact) → slice_get graph.facts number ≡ o → AreThere (length graph.facts) (numbered_at graph others) → AreThere (length graph.facts) (numbered_by number o (numbered_at graph others))
    by None is later = later
    by (Some fact) is later = (slice_get_within graph.facts number fact is, later)

among_there : (graph : CxxGraph) (space : ℕ) (name : CxxName) (count : ℕ) (all : List Numbered) → AreThere count all → AreThere count (linked_among graph space name all)
among_there graph space name count [] are = tt
among_there graph space name count (one ∷ others) are = by (is_linked_as graph space name one) (among_there graph space name count others are.1)
  where
    by : (b : Bool) → AreThere count (linked_among graph space name others) → AreThere count (if b then one ∷ linked_among graph space name others else linked_among graph space name others)
    by true later = (are.0, later)
    by false later = later

linked_there : (state : CxxState) (space : ℕ) (name : CxxName) → AreThere (length state.graph.facts) (linked_in state space name)
unfolding linked_in
linked_there state space name = among_there state.graph space name (length state.graph.facts) (numbered_at state.graph state.linked) (numbered_there state.graph state.linked)

object_there : (count : ℕ) (all : List Numbered) → AreThere count all → IsFirstThere count (first_object all)
object_there count [] are = tt
object_there count (one ∷ others) are = by (is_object one.fact.what) (object_there count others are.1)
  where
    by : (b : Bool) → IsFirstThere count (first_object others) → IsFirstThere count (if b then Some (number_id one.number) else first_object others)
    by true later = are.0
    by false later = later

function_there : (count : ℕ) (of : CxxType) (all : List Numbered) → AreThere count all → IsFirstThere count (first_function of all)
function_there count of [] are = tt
function_there count of (one ∷ others) are = by (is_same_function of one.fact.what) (function_there count of others are.1)
  where
    by : (b : Bool) → IsFirstThere count (first_function of others) → IsFirstThere count (if b then Some (number_id one.number) else first_function of others)
    by true later = are.0
    by false later = later

sooner_there : (count : ℕ) (one two : Option FactId) → IsFirstThere count one → IsFirstThere count two → IsFirstThere count (sooner_fact one two)
sooner_there count None two first second = second
sooner_there count (Some m) None first second = first
sooner_there count (Some m) (Some n) first second = by (nat_lt n.0 m.0)
  where
    by : (b : Bool) → IsFirstThere count (if b then Some n else Some m)
    by true = second
    by false = first

member_object_there : (state : CxxState) (space : ℕ) (name : CxxName) → IsFirstThere (length state.graph.facts) (first_member_object state space name)
unfolding first_member_object
member_object_there state space name = sooner_there (length state.graph.facts) (first_object (declared_in state.graph space name)) (first_object (linked_in state space name)) (object_there (length state.graph.facts) (declared_in state.graph space name) (declared_there state.graph space name)) (object_there (length state.graph.facts) (linked_in state space name) (linked_there state space name))

member_function_there : (state : CxxState) (space : ℕ) (name : CxxName) (of : CxxType) → IsFirstThere (length state.graph.facts) (first_member_function state space name of)
unfolding first_member_function
member_function_there state space name of = sooner_there (length state.graph.facts) (first_function of (declared_in state.graph space name)) (first_function of (linked_in state space name)) (function_there (length state.graph.facts) of (declared_in state.graph space name) (declared_there state.graph space name)) (function_there (length state.graph.facts) of (linked_in state space name) (linked_there state space name))

object_here_there : (state : CxxState) (name : CxxName) → IsFirstThere (length state.graph.facts) (first_object_here state name)
object_here_there state name = by (is_space_at state.graph state.here.scope)
  where
    by : (b : Bool) → IsFirstThere (length state.graph.facts) (if b then first_member_object state state.here.scope name else first_object (declared_here state name))
    by true = member_object_there state state.here.scope name
    by false = object_there (length state.graph.facts) (declared_here state name) (declared_there state.graph state.here.scope name)

-- ---- objects

abbrev object_fact : CxxState → Lexeme → CxxType → CxxFact
object_fact state name of = fact_here state (spelled name.spelling) name.place (object_here state (spelled name.spelling) of)

object_may : (state : CxxState) (name : Lexeme) (of : CxxType) → MayBeAdded state (object_fact state name of)
object_may state name of = may_be_added state (object_fact state name of) refl (object_here_there state (spelled name.spelling))

pub object_tells : (name : Lexeme) (of : CxxType) → Answers IsLater Quietly (declare_object name of)
unfolding declare_object
object_tells name of state ahead = by_then state ahead _ (free_object_quiet state (object_fact state name of) name.spelling) (λ is_free. added_tells (object_fact state name of) state ahead refl (object_may state name of))

-- what else an answer changes
pub turned : (state old new : CxxState) → IsLater state old → new.graph ≡ old.graph → new.here.scope ≡ old.here.scope → new.calls ≡ old.calls → IsLater state new
turned state old new later same here calls = later_is_kept.later state old new later (later_same old new same here calls)

pub define_tells : (name : Lexeme) (of : CxxType) → Answers IsLater Quietly (define_object name of)
unfolding define_object
define_tells name of state ahead =
    let fact = object_fact state name of in
    by_then state ahead _ (free_object_quiet state fact name.spelling) (λ is_free. by_then state ahead _ (undefined_quiet state name.place name.spelling (length state.graph.facts) fact.what) (λ is_first. by_answer state ahead _ (added_tells fact state ahead refl (object_may state name of)) (λ answer later. tells_answer (defined_as answer) (turned state answer.1 (with_definition answer.0 answer.1) later refl refl refl))))

-- 3.5: one that a block declares with `extern`
pub linked_object_tells : (name : Lexeme) (of : CxxType) → Answers IsLater Quietly (declare_linked_object name of)
unfolding declare_linked_object
linked_object_tells name of state ahead =
    let fact = fact_here state (spelled name.spelling) name.place (linked_object_here state (spelled name.spelling) of) in
    by_then state ahead _ (free_linked_quiet state fact name.spelling) (λ is_free. by_answer state ahead _ (added_tells fact state ahead refl (may_be_added state fact refl (member_object_there state (home_here state) (spelled name.spelling)))) (λ answer later. tells_answer (linked_as answer) (turned state answer.1 (with_linked answer.0 answer.1) later refl refl refl)))

-- what is added has a number that there is
pub added_there : (fact : CxxFact) (state : CxxState) (answer : ℕ × CxxState) → added fact state ≡ Ok answer → answer.0 < length answer.1.graph.facts
unfolding added
added_there fact state answer e = by (nat_eq (length state.graph.facts + length state.graph.classes) most_facts) e
  where
    same : Answer (ℕ × CxxState) → Answer (ℕ × CxxState) → Type 0
    same one two = one ≡ two

    is_it : same (Ok (length state.graph.facts, with_fact fact state)) (Ok answer) → (length state.graph.facts, with_fact fact state) ≡ answer
    is_it e = cc

    more : length state.graph.facts < length (state.graph.facts ++ fact ∷ [])
    more = let count = length-append state.graph.facts (fact ∷ []) in omega (arith, count)

    by : (b : Bool) → same (if b then Err (Limited Facts) else Ok (length state.graph.facts, with_fact fact state)) (Ok answer) → answer.0 < length answer.1.graph.facts
    by true e = absurd cc
    by false e = subst (λ (a : ℕ × CxxState). a.0 < length a.1.graph.facts) (is_it e) more

-- an answer that comes behind others
pub behind_answer : {A B : Type 0} (first : Answer A) (go : A → Answer B) (answer : B) → (first >>= go) ≡ Ok answer → (one : A) × (go one ≡ Ok answer)
behind_answer (Ok one) go answer e = (one, e)
behind_answer (Err why) go answer e = absurd cc

pub declared_is_there : (name : Lexeme) (of : CxxType) (state : CxxState) (answer : ℕ × CxxState) → declare_object name of state ≡ Ok answer → answer.0 < length answer.1.graph.facts
unfolding declare_object
declared_is_there name of state answer e = let one = behind_answer (free_object state (object_fact state name of) name.spelling) (λ is_free. added (object_fact state name of) state) answer e in added_there (object_fact state name of) state answer one.1

pub defined_is_there : (name : Lexeme) (of : CxxType) (state : CxxState) (answer : ℕ × CxxState) → define_object name of state ≡ Ok answer → answer.0 < length answer.1.graph.facts
unfolding define_object
defined_is_there name of state answer e =
    let fact = object_fact state name of in
    let one = behind_answer (free_object state fact name.spelling) (λ is_free. undefined state name.place name.spelling (length state.graph.facts) fact.what >>= λ is_first. added fact state >>= λ answer. Ok (defined_as answer)) answer e in
    let two = behind_answer (undefined state name.place name.spelling (length state.graph.facts) fact.what) (λ is_first. added fact state >>= λ answer. Ok (defined_as answer)) answer one.1 in
    by (added fact state) refl two.1
  where
    same : Answer (ℕ × CxxState) → Answer (ℕ × CxxState) → Type 0
    same one two = one ≡ two

    is_it : (one : ℕ × CxxState) → same (Ok (defined_as one)) (Ok answer) → defined_as one ≡ answer
    is_it one e = cc

    by : (o : Answer (ℕ × CxxState)) → added (object_fact state name of) state ≡ o → same (o >>= λ answer. Ok (defined_as answer)) (Ok answer) → answer.0 < length answer.1.graph.facts
    by (Ok one) is e = subst (λ (a : ℕ × CxxState). a.0 < length a.1.graph.facts) (is_it one e) (added_there (object_fact state name of) state one is)
    by (Err why) is e = absurd cc

pub define_later_tells : (name : Lexeme) (number : ℕ) → Answers IsLater Quietly (define_declared name number)
unfolding define_declared
define_later_tells name number state ahead = by_then state ahead _ (undefined_quiet state name.place name.spelling number _) (λ is_first. tells_answer (tt, with_definition number state) (later_same state (with_definition number state) refl refl refl))

-- ---- functions (8.3.5, 8.3.6)

not_given_by_quiet : (state : CxxState) (place : Place) (word : List ℕ) (given : Option CxxGiven) → QuietBy (not_given_by state place word given)
not_given_by_quiet state place word None = quiet_answer tt
not_given_by_quiet state place word (Some given) = quiet_refusal _ refl

not_given_quiet : (state : CxxState) (place : Place) (word : List ℕ) (first : Option FactId) (offers : List CxxOffered) → QuietBy (not_given state place word first offers)
not_given_quiet state place word first [] = quiet_answer tt
not_given_quiet state place word first (one ∷ others) = quiet_then _ (not_given_by_quiet state place word (given_before state first one.index)) (λ is_fresh. not_given_quiet state place word first others)

all_given : (number : ℕ) (offers : List CxxOffered) (old state : CxxState) → IsLater old state → IsLater old (with_all_given number offers state)
all_given number [] old state later = later
all_given number (one ∷ others) old state later = all_given number others old (with_given number one.index one.tree state) (turned old state (with_given number one.index one.tree state) later refl refl refl)

given_later : (state : CxxState) (offers : List CxxOffered) (answer : ℕ × CxxState) → IsLater state answer.1 → IsLater state (given_as offers answer).1
given_later state offers answer later = turned state (with_all_given answer.0 offers answer.1) (without_offers (with_all_given answer.0 offers answer.1)) (all_given answer.0 offers state answer.1 later) refl refl refl

free_if_quiet : (linked : Bool) (state : CxxState) (fact : CxxFact) (word : List ℕ) → QuietBy (free_if linked state fact word)
free_if_quiet true state fact word = free_linked_quiet state fact word
free_if_quiet false state fact word = free_quiet state fact word

linked_later : (linked : Bool) (state : CxxState) (answer : ℕ × CxxState) → IsLater state answer.1 → IsLater state (linked_if linked answer).1
linked_later true state answer later = turned state answer.1 (with_linked answer.0 answer.1) later refl refl refl
linked_later false state answer later = later

declare_with_tells : (linked : Bool) (name : Lexeme) (of : CxxType) (first : Option FactId) (offers : List CxxOffered) (state : CxxState) (ahead : Ahead) → IsFirstThere (length state.graph.facts) first → ToldBy IsLater Quietly state ahead (declare_with linked name of first offers state)
declare_with_tells linked name of first offers state ahead there =
    let fact = function_by state name of first offers in
    by_then state ahead _ (free_if_quiet linked state fact name.spelling) (λ is_free. by_then state ahead _ (not_given_quiet state name.place name.spelling first offers) (λ is_fresh. by_answer state ahead _ (added_tells fact state ahead refl (may_be_added state fact refl there)) (λ answer later. tells_answer (linked_if linked (given_as offers answer)) (linked_later linked state (given_as offers answer) (given_later state offers answer later)))))

pub function_answer_tells : (list : Option ℕ) (name : Lexeme) (of : CxxType) → Answers IsLater Quietly (declare_function list name of)
unfolding declare_function
function_answer_tells list name of state ahead = declare_with_tells (is_linked_here state) name of (first_member_function state (home_here state) (spelled name.spelling) of) (offered_by list state.offered) state ahead (member_function_there state (home_here state) (spelled name.spelling) of)

-- 11.4: a function that is a friend, the default arguments of which are read later
unread_with_tells : (name : Lexeme) (of : CxxType) (first : Option FactId) (offers : List CxxOffered) (state : CxxState) (ahead : Ahead) → IsFirstThere (length state.graph.facts) first → ToldBy IsLater Quietly state ahead (declare_unread_with name of first offers state)
unread_with_tells name of first offers state ahead there =
    let fact = function_by state name of first offers in
    by_then state ahead _ (free_if_quiet false state fact name.spelling) (λ is_free. by_then state ahead _ (not_given_quiet state name.place name.spelling first offers) (λ is_fresh. added_tells fact state ahead refl (may_be_added state fact refl there)))

pub unread_tells : (list : Option ℕ) (name : Lexeme) (of : CxxType) → Answers IsLater Quietly (declare_unread list name of)
unfolding declare_unread
unread_tells list name of state ahead = unread_with_tells name of (first_member_function state (home_here state) (spelled name.spelling) of) (offered_by list state.offered) state ahead (member_function_there state (home_here state) (spelled name.spelling) of)

-- ---- functions of a class that are declared again (9.3)

-- what is declared again is a function with an earlier declaration
record IsAgain (state : CxxState) (what : facts.Declares) : Type 0 where
  no_space : space_in what ≡ None
  sound : IsSound state.graph.facts what

again_so : (state : CxxState) (cv : Cv) (of : CxxType) (number : ℕ) (what : facts.Declares) → number < length state.graph.facts → is_again cv of what ≡ true → IsAgain state (again_what number what)
again_so state cv of number (facts.function other kind flags defaults first) there is = record { no_space = refl; sound = there }
again_so state cv of number _ there is = absurd cc

again_one : (state : CxxState) (cv : Cv) (of : CxxType) (all : List Numbered) → AreThere (length state.graph.facts) all → (what : facts.Declares) → again_among cv of all ≡ Some what → IsAgain state what
again_one state cv of [] are what e = absurd cc
again_one state cv of (first ∷ others) are what e = by (is_again cv of first.fact.what) refl e (λ later. again_one state cv of others are.1 what later)
  where
    by : (b : Bool) → is_again cv of first.fact.what ≡ b → (if b then Some (again_what first.number first.fact.what) else again_among cv of others) ≡ Some what → (again_among cv of others ≡ Some what → IsAgain state what) → IsAgain state what
    by true is e later = subst (IsAgain state) (same_Some (again_what first.number first.fact.what) what e) (again_so state cv of first.number first.fact.what are.0 is)
    by false is e later = later e

declared_again_tells : (name : Lexeme) (all : List Numbered) (found : Option facts.Declares) (state : CxxState) (ahead : Ahead) → ((what : facts.Declares) → found ≡ Some what → IsAgain state what) → ToldBy IsLater Quietly state ahead (declared_again name all found state)
declared_again_tells name all (Some what) state ahead again = let is = again what refl in added_tells (again_fact state name what) state ahead refl (may_be_added state (again_fact state name what) is.no_space is.sound)
declared_again_tells name [] None state ahead again = quietly state ahead _ refl
declared_again_tells name (one ∷ others) None state ahead again = quietly state ahead _ refl

pub again_tells : (name : Lexeme) (cv : Cv) (of : CxxType) → Answers IsLater Quietly (declare_again name cv of)
unfolding declare_again
again_tells name cv of state ahead =
    declared_again_tells name (members_here state name) (again_here state name cv of) state ahead
    (again_one state cv of (declared_in state.graph state.here.scope (spelled name.spelling)) (declared_there state.graph state.here.scope (spelled name.spelling)))

pub parameter_answer_tells : (name : Option Lexeme) (place : Place) (of : CxxType) → Answers IsLater Quietly (declare_parameter name place of)
unfolding declare_parameter
parameter_answer_tells name place of state ahead = by_answer state ahead _ (declare_tells (fact_here state (name_of name) place (parameter_object of)) (word_of name) state ahead refl (may_be_added state (fact_here state (name_of name) place (parameter_object of)) refl tt)) (λ answer later. tells_answer (tt, answer.1) later)

pub enumeration_answer_tells : (name : Option Lexeme) (place : Place) → Answers IsLater Quietly (declare_enumeration name place)
unfolding declare_enumeration
enumeration_answer_tells name place state ahead = by_answer state ahead _ (declare_tells (fact_here state (name_of name) place (facts.enumeration (enumeration_count state.graph.facts))) (word_of name) state ahead refl (may_be_added state (fact_here state (name_of name) place (facts.enumeration (enumeration_count state.graph.facts))) refl tt)) (λ answer later. tells_answer (begun_as (enumeration_count state.graph.facts) answer) (turned state answer.1 (begun_as (enumeration_count state.graph.facts) answer).1 later refl refl refl))

value_answer_tells : (number : ℕ) (name : Lexeme) (value : ℤ) → Answers IsLater Quietly (declare_value number name value)
unfolding declare_value
value_answer_tells number name value state ahead =
    let fact = fact_here state (spelled name.spelling) name.place (facts.enumerator number value) in
    by_then state ahead _ (free_quiet state fact name.spelling) (λ is_free. by_then state ahead _ (held_quiet name.place (one_holds (values_in number state.graph.facts ++ value ∷ []))) (λ is_held. by_answer state ahead _ (added_tells fact state ahead refl (may_be_added state fact refl tt)) (λ answer later. tells_answer (tt, answer.1) later)))

pub enumerator_answer_tells : (number : ℕ) (name : Lexeme) (value : Option ℤ) → Answers IsLater Quietly (declare_enumerator number name value)
unfolding declare_enumerator
enumerator_answer_tells number name value state ahead = value_answer_tells number name _ state ahead

pub enumerated_tells : (number : ℕ) → Answers IsLater Quietly (end_enumeration number)
unfolding end_enumeration
enumerated_tells number state ahead = tells_answer _ (later_same state _ refl refl refl)

pub kind_tells : (path : CxxPath) → Answers IsLater Quietly (kind_here path)
unfolding kind_here
kind_tells path state ahead = tells_answer _ (later_same state state refl refl refl)

pub type_tells : (path : CxxPath) → Answers IsLater Quietly (type_here path)
unfolding type_here
type_tells path state ahead = tells_answer _ (later_same state state refl refl refl)

-- ---- whatever else is told

pub calm_by : {A : Type 0} {told : CxxState → Ahead → Stopped → Type 0} → IsTold IsLater told → {state : CxxState} {ahead : Ahead} {r : Answer (A × CxxState)} → ToldBy IsLater Quietly state ahead r → ToldBy IsLater told state ahead r
calm_by is (tells_answer one later) = tells_answer one later
calm_by is {state = state} {ahead = ahead} (tells_refusal why quiet) = tells_refusal why (is.quiet state ahead why quiet)

pub calmly : {A : Type 0} {told : CxxState → Ahead → Stopped → Type 0} → IsTold IsLater told → {question : Asks CxxState A} → Answers IsLater Quietly question → Answers IsLater told question
calmly is tells state ahead = calm_by is (tells state ahead)
