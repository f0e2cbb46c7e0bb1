-- How a class begins and ends (9.2): the reader stands in its scope, and behind it in the one that holds it.
use Rattle.std.proofs.Common.{◌≡◌, refl, sym, subst}
use Rattle.std.specs.Prelude.{ℕ, Bool, true, false, length, List, [], ◌∷◌, Option, Some, None, Ok, ◌<◌}
use Rattle.std.specs.List.{AllByRecursion}
use Rattle.std.specs.Option.{option_to_list}
use Rattle.cxx_model.specs.declared.facts.Access.{Access}
use Rattle.cxx_model.specs.declared.facts.ScopeKind.TheVariants as scope_kind
use Rattle.cxx_model.specs.declared.place.Place.{Place}
use Rattle.cxx_model.specs.declared.types.Cv.{Cv}
use Rattle.cxx_model.specs.Facts.Declarations.{CxxFact, spelled, Declares}
use Rattle.cxx_model.specs.Text.Lexemes.{Lexeme}
use Rattle.cxx_model.specs.Types.Trees.{CxxType}
use Rattle.cxx_implicit.specs.Members.{copy_assignment, copy_constructor, default_constructor, implicit_members, implied}
use Rattle.cxx_reading.specs.Classes.{ClassNamed, class_count, class_id, first_class}
use Rattle.cxx_reading.specs.Declaring.{scope_count, with_definition, added, declare, free}
use Rattle.cxx_reading.specs.Paths.{space_in}
use Rattle.cxx_reading.specs.Reads.{Ahead}
use Rattle.cxx_reading.specs.Seen.{declared_in}
use Rattle.cxx_reading.specs.State.{CxxState}
use Rattle.cxx_declare.specs.declared.class_definitions.MemberWords.{MemberWords}
use Rattle.cxx_declare.specs.ClassDefinitions.{added_each, begin_class, begin_unnamed, begun_as, class_end, class_here, class_scope, declare_member, define_again, define_by, define_new, end_class, ended_as, enter_class, enter_unnamed, injected_name, member_defaults, member_here, unnamed_here, member_by}
use Rattle.cxx_language_laws.proofs.Classed.{reserved_tells, still_within}
use Rattle.cxx_language_laws.proofs.Later.{IsLater, added_behind, added_tells, declare_tells, free_quiet, later_is_kept, may_be_added, turned, undefined_quiet, added_there, behind_answer}
use Rattle.cxx_language_laws.proofs.Opened.{InSpace, IsRound, added_is, quiet_then, round_grown, scope_round, space_closed, stands_in, then_answer}
use Rattle.cxx_language_laws.proofs.Outward.{beside_all}
use Rattle.cxx_language_laws.proofs.Scopes.{IsSound, may_stand}
use Rattle.cxx_language_laws.proofs.Tells.{Quietly, ToldBy, tells_answer, tells_refusal}
use Rattle.cxx_reading.specs.Declarators.{is_function_type}

-- ---- it begins

-- in a state that is reached by its declaration
enter_tells : (old t : CxxState) (ahead : Ahead) (name : Lexeme) (n : ℕ) → IsLater old t → ToldBy InSpace Quietly old ahead (enter_class name n t)
unfolding enter_class
enter_tells old t ahead name n later =
    let scope = class_scope t name.place n in
    let inner = scope_count t.graph in
    let injected = injected_name inner name n in
    then_answer old t ahead _ (added_tells scope t ahead refl (may_be_added t scope refl tt)) (λ opened is first.
    let same = added_is scope t opened is in
    let round : IsRound t.here.scope opened.1.graph inner = subst (λ (u : CxxState). IsRound t.here.scope u.graph inner) (sym same) (scope_round (scope_kind.Class (class_id n)) t name.place) in
    then_answer old opened.1 ahead _ (added_behind opened.1 opened.1 ahead injected (later_is_kept.same opened.1) (λ is. round.within) (λ is. may_stand opened.1.graph.facts injected refl tt)) (λ named is_named second.
    tells_answer (begun_as n inner named) (stands_in old named.1 inner (later_is_kept.later old opened.1 named.1 (later_is_kept.later old t opened.1 later first) second) (λ is. subst (λ (one : ℕ). IsRound one named.1.graph inner) (later.here is) (round_grown t.here.scope opened.1 named.1 inner second.grown round)))))

define_again_tells : (name : Lexeme) (is_union : Bool) (n : ℕ) (state : CxxState) (ahead : Ahead) → ToldBy InSpace Quietly state ahead (define_again name is_union n state)
unfolding define_again
define_again_tells name is_union n state ahead =
    let fact = class_here state name n is_union in
    quiet_then state ahead _ (free_quiet state fact name.spelling) (λ is_free.
    quiet_then state ahead _ (undefined_quiet state name.place name.spelling (length state.graph.facts) fact.what) (λ is_first.
    then_answer state state ahead _ (added_tells fact state ahead refl (may_be_added state fact refl tt)) (λ answer is later.
    enter_tells state (with_definition answer.0 answer.1) ahead name n (turned state answer.1 (with_definition answer.0 answer.1) later refl refl refl))))

define_new_tells : (name : Lexeme) (is_union : Bool) (state : CxxState) (ahead : Ahead) → ToldBy InSpace Quietly state ahead (define_new name is_union state)
unfolding define_new
define_new_tells name is_union state ahead =
    let n = class_count state.graph in
    let fact = class_here state name n is_union in
    quiet_then state ahead _ (free_quiet state fact name.spelling) (λ is_free.
    then_answer state state ahead _ (reserved_tells state ahead) (λ answer is later.
    then_answer state state ahead _ (added_behind state answer.1 ahead fact later (λ scopes. still_within state answer.1 state.here.scope later.grown scopes.within) (λ scopes. may_stand answer.1.graph.facts fact refl tt)) (λ last is_last more.
    enter_tells state (with_definition last.0 last.1) ahead name n (turned state last.1 (with_definition last.0 last.1) more refl refl refl))))

pub begin_tells : (is_union : Bool) (name : Lexeme) (state : CxxState) (ahead : Ahead) → ToldBy InSpace Quietly state ahead (begin_class is_union name state)
unfolding begin_class
begin_tells is_union name state ahead = by (first_class (declared_in state.graph state.here.scope (spelled name.spelling)))
  where
    by : (o : Option ClassNamed) → ToldBy InSpace Quietly state ahead (define_by name is_union o state)
    by None = define_new_tells name is_union state ahead
    by (Some one) = define_again_tells name is_union one.number state ahead

-- without a name
enter_unnamed_tells : (old t : CxxState) (ahead : Ahead) (place : Place) (n : ℕ) → IsLater old t → ToldBy InSpace Quietly old ahead (enter_unnamed place n t)
unfolding enter_unnamed
enter_unnamed_tells old t ahead place n later =
    let scope = class_scope t place n in
    let inner = scope_count t.graph in
    then_answer old t ahead _ (added_tells scope t ahead refl (may_be_added t scope refl tt)) (λ opened is first.
    let same = added_is scope t opened is in
    let round : IsRound t.here.scope opened.1.graph inner = subst (λ (u : CxxState). IsRound t.here.scope u.graph inner) (sym same) (scope_round (scope_kind.Class (class_id n)) t place) in
    tells_answer (begun_as n inner opened) (stands_in old opened.1 inner (later_is_kept.later old t opened.1 later first) (λ is. subst (λ (one : ℕ). IsRound one opened.1.graph inner) (later.here is) round)))

pub unnamed_tells : (is_union : Bool) (place : Place) (state : CxxState) (ahead : Ahead) → ToldBy InSpace Quietly state ahead (begin_unnamed is_union place state)
unfolding begin_unnamed
unnamed_tells is_union place state ahead =
    let n = class_count state.graph in
    let fact = unnamed_here state place n is_union in
    then_answer state state ahead _ (reserved_tells state ahead) (λ answer is later.
    then_answer state state ahead _ (added_behind state answer.1 ahead fact later (λ scopes. still_within state answer.1 state.here.scope later.grown scopes.within) (λ scopes. may_stand answer.1.graph.facts fact refl tt)) (λ last is_last more.
    enter_unnamed_tells state (with_definition last.0 last.1) ahead place n (turned state last.1 (with_definition last.0 last.1) more refl refl refl)))

-- ---- its members

-- a function or a data member
abbrev member_with : CxxState → Access → Lexeme → Declares → CxxFact
member_with state access name what = record { place = name.place; scope = state.here.scope; name = spelled name.spelling; access = access; what = what }

member_by_tells : (is_function : Bool) (words : MemberWords) (name : Lexeme) (of : CxxType) (defaults : ℕ) (state : CxxState) (ahead : Ahead) → ToldBy IsLater Quietly state ahead (declare (member_with state words.access name (member_by is_function words of defaults)) name.spelling state)
member_by_tells true words name of defaults state ahead = let fact = member_with state words.access name (member_by true words of defaults) in declare_tells fact name.spelling state ahead refl (may_be_added state fact refl tt)
member_by_tells false words name of defaults state ahead = let fact = member_with state words.access name (member_by false words of defaults) in declare_tells fact name.spelling state ahead refl (may_be_added state fact refl tt)

pub member_tells : (words : MemberWords) (list : Option ℕ) (name : Lexeme) (of : CxxType) (state : CxxState) (ahead : Ahead) → ToldBy IsLater Quietly state ahead (declare_member words list name of state)
unfolding declare_member
member_tells words list name of state ahead = member_by_tells (is_function_type of) words name of (member_defaults state list of) state ahead

-- it has a number then
pub member_is_there : (words : MemberWords) (list : Option ℕ) (name : Lexeme) (of : CxxType) (state : CxxState) (answer : ℕ × CxxState) → declare_member words list name of state ≡ Ok answer → answer.0 < length answer.1.graph.facts
unfolding declare_member free declare
member_is_there words list name of state answer e =
    let fact = member_here state words name of (member_defaults state list of) in
    let one = behind_answer (free state fact name.spelling) (λ is_free. added fact state) answer e in
    added_there fact state answer one.1

-- ---- it ends

-- a declaration of a scope that names no first one
record IsOwn (scope : ℕ) (fact : CxxFact) : Type 0 where
  here : fact.scope ≡ scope
  no_space : space_in fact.what ≡ None
  sound : (all : List CxxFact) → IsSound all fact.what

implied_own : (scope : ℕ) (fact : Option CxxFact) → ((one : CxxFact) → fact ≡ Some one → IsOwn scope one) → AllByRecursion (IsOwn scope) (option_to_list fact)
implied_own scope None each = tt
implied_own scope (Some one) each = (each one refl, tt)

implicit_own : (state : CxxState) (n : ℕ) (place : Place) → AllByRecursion (IsOwn state.here.scope) (implicit_members state.graph n state.here.scope place)
unfolding implicit_members
implicit_own state n place = beside_all (IsOwn scope) _ _ (default (implied state.graph n).default_constructor) (beside_all (IsOwn scope) _ _ (copied (implied state.graph n).copy_constructor) (assigned (implied state.graph n).copy_assignment))
  where
    scope : ℕ
    scope = state.here.scope

    default : (b : Bool) → AllByRecursion (IsOwn scope) (option_to_list (default_constructor b scope place))
    default true = (record { here = refl; no_space = refl; sound = λ all. tt }, tt)
    default false = tt

    copied : (cv : Option Cv) → AllByRecursion (IsOwn scope) (option_to_list (copy_constructor cv n scope place))
    copied None = tt
    copied (Some cv) = (record { here = refl; no_space = refl; sound = λ all. tt }, tt)

    assigned : (cv : Option Cv) → AllByRecursion (IsOwn scope) (option_to_list (copy_assignment cv n scope place))
    assigned None = tt
    assigned (Some cv) = (record { here = refl; no_space = refl; sound = λ all. tt }, tt)

each_later : {A : Type 0} {s t : CxxState} {ahead : Ahead} {r : _} → IsLater s t → ToldBy {A = A} IsLater Quietly t ahead r → ToldBy IsLater Quietly s ahead r
each_later {s = s} {t = t} later (tells_answer one more) = tells_answer one (later_is_kept.later s t one.1 later more)
each_later later (tells_refusal why quiet) = tells_refusal why quiet

each_tells : (all : List CxxFact) (state : CxxState) (ahead : Ahead) → AllByRecursion (IsOwn state.here.scope) all → ToldBy IsLater Quietly state ahead (added_each all state)
unfolding added_each
each_tells [] state ahead own = tells_answer (tt, state) (later_is_kept.same state)
each_tells (fact ∷ others) state ahead own =
    then_answer state state ahead _ (added_tells fact state ahead own.0.here (may_be_added state fact own.0.no_space (own.0.sound state.graph.facts))) (λ answer is later.
    each_later later (each_tells others answer.1 ahead (subst (λ (t : CxxState). AllByRecursion (IsOwn t.here.scope) others) (sym (added_is fact state answer is)) own.1)))

-- behind its members
pub end_tells : (old new t : CxxState) (ahead : Ahead) (n : ℕ) (place : Place) → InSpace old new → IsLater new t → ToldBy IsLater Quietly old ahead (end_class n place t)
unfolding end_class
end_tells old new t ahead n place opened later =
    then_answer old t ahead _ (each_tells (implicit_members t.graph n t.here.scope place) t ahead (implicit_own t n place)) (λ implied is first.
    let fact = class_end implied.1 place n in
    then_answer old implied.1 ahead _ (added_tells fact implied.1 ahead refl (may_be_added implied.1 fact refl tt)) (λ answer is_ended second.
    tells_answer (ended_as answer) (space_closed old new answer.1 opened (later_is_kept.later new implied.1 answer.1 (later_is_kept.later new t implied.1 later first) second))))
