-- What is asked while a unit is read keeps the declarations and the calls so far, and what stops it is true.
use Rattle.std.proofs.Common.{arith, ◌≡◌, inl, inr, refl, sym, ap, subst, ◌∙◌}
use Rattle.std.specs.Prelude.{ℕ, Bool, true, false, ◌&&◌, if◌then◌else◌, List, [], ◌∷◌, Option, Some, None, ◌++◌, Ok, Err, suc, ◌-◌, length}
use Rattle.std.specs.List.{slice_get}
use Rattle.cxx_model.specs.declared.fault.FaultText.TheVariants as says
use Rattle.cxx_model.specs.declared.fault.LeftOut.TheVariants as form
use Rattle.cxx_model.specs.declared.lookup.Found.{Found}
use Rattle.cxx_model.specs.declared.lookup.Hit.{Hit}
use Rattle.cxx_model.specs.declared.lookup.MemberFound.{MemberFound}
use Rattle.cxx_model.specs.declared.lookup.MemberFound.TheVariants as member_found
use Rattle.cxx_model.specs.declared.place.Place.{Place}
use Rattle.cxx_model.specs.declared.stop.Fault.{Fault}
use Rattle.cxx_model.specs.declared.types.ClassId.{ClassId}
use Rattle.cxx_model.specs.declared.types.FactId.{FactId}
use Rattle.cxx_model.specs.Facts.Declarations.{CxxGraph}
use Rattle.cxx_model.specs.Stops.{Answer, Stopped, ◌>>=◌, fault, undeclared_at}
use Rattle.cxx_model.specs.Types.Trees.{CxxType}
use Rattle.cxx_meaning.specs.Conversions.Standard.{CxxOperand}
use Rattle.cxx_meaning.specs.Lookups.Member.{member}
use Rattle.cxx_meaning.specs.Lookups.Pending.{Asked}
use Rattle.cxx_meaning.specs.Lookups.Wanted.{any_name, types_only}
use Rattle.cxx_constant.specs.Constants.{CxxValue, not_constant, overflow, divide_by_zero, constant}
use Rattle.cxx_phrases.specs.Forms.{name_tree, call_tree, called_tree, member_tree}
use Rattle.cxx_phrases.specs.Productions as phrase
use Rattle.cxx_reading.specs.declared.region.Region.{Region}
use Rattle.cxx_reading.specs.Declaring.{elaborated_here, elaborated_by, elaborated_found, enumeration_in}
use Rattle.cxx_reading.specs.Givers.{giver, givers, with_givers}
use Rattle.cxx_reading.specs.Paths.{ambiguous_member_at, by_bases, first_region, name_in, region_by, region_of, scope_of_region, sought_in}
use Rattle.cxx_reading.specs.Reads.{Ahead, behind, place_ahead}
use Rattle.cxx_reading.specs.Seen.{Numbered, fact_numbers, numbered_at, set_in}
use Rattle.cxx_reading.specs.State.{CxxGiven, CxxState}
use Rattle.cxx_reading.specs.Tokens.{begins_name, behind_name, is_whole_name, path_ahead}
use Rattle.cxx_reading.specs.Trees.{CxxPath, CxxPathPart, CxxTree, children_of, each_tree, in_turn, is_plain_path, last_part, Label}
use Rattle.cxx_tree.specs.Defaults.{first_given, with_offer, within_default}
use Rattle.cxx_tree.specs.Uses.{with_use}
use Rattle.cxx_expr.specs.Calls.{bare_word, implied_type, is_bare, member_question, name_alone}
use Rattle.cxx_expr.specs.Implied.{object_for}
use Rattle.cxx_expr.specs.Members.{class_of_object}
use Rattle.cxx_expr.specs.Names.{is_none_left, part_or, path_in, values_among, word_in}
use Rattle.cxx_expr.specs.Operands.{object_operand}
use Rattle.cxx_expr.specs.Elaborating.{elaborate}
use Rattle.cxx_language.specs.Answers.{asking}
use Rattle.cxx_answers.specs.Answers.{associated_functions, bound_here, call_here, constant_by, constant_here, fallback_by, fallback_here, fresh_among, is_held, meant_in, name_here, name_in_region, name_meant, names_local, names_tested, questions, scope_of_giver, size_here, word_or_none}
use Rattle.cxx_answers.specs.Defaults.{begin_default, class_of_list, end_default, is_class_open, is_default_later, is_list_of_class, offer_default, offered_as}
use Rattle.cxx_answers.specs.Members.{has_begun, in_state, member_found as member_answered, member_here}
use Rattle.cxx_language.specs.Asked.{answers, asked, inner_at, phrases_at}
use Rattle.cxx_language_laws.specs.Best.{IsClear, asked_word, functions_by_types, values_besides, values_of}
use Rattle.cxx_language_laws.specs.Told.{AreImpliedCalled, HasNoValue, IsFoundClear, IsMemberCall, IsNamingClass, IsOfObject, behind_called, behind_selector, of_object, of_pointed, IsSelector, IsSoughtCalled, IsSoughtMember, IsUnitCall, IsUnitCallOf, IsUnitSelected, called, called_by_types, declared_then, member_part, nothing_in, operands, place_of_call, selected_part, twofold_called, twofold_member, unknown_call, unknown_called, unknown_member}
use Rattle.cxx_language_laws.proofs.Behind.{named_class, naming_so, naming_told}
use Rattle.cxx_language_laws.proofs.CallsTell.{NothingTold, asked_for, call_asked_tells, implied_asked_tells, member_asked_tells}
use Rattle.cxx_language_laws.proofs.Classed.{class_tells}
use Rattle.cxx_language_laws.proofs.Later.{IsLater, by_answer, later_same, later_is_kept, later_is_quiet, calmly, turned, parameter_answer_tells, enumeration_answer_tells, enumerator_answer_tells, enumerated_tells, kind_tells, type_tells}
use Rattle.cxx_language_laws.proofs.Lists.{listed_tells}
use Rattle.cxx_language_laws.proofs.PhrasesTell.{PhrasesTell, brackets_of}
use Rattle.cxx_language_laws.proofs.QuestionsTell.{DefaultsTell, QuestionsTell, if_by, quiet_by, same_by}
use Rattle.cxx_language_laws.proofs.Reached.{Told, ToldSince, IsManifold, IsUndeclared, reached_by_later, reached_here, later_is_told, later_is_told_since, told_sooner}
use Rattle.cxx_language_laws.proofs.Regions.{ClearOr, IsTwain, by_region, clear_or, is_clear, is_twain, last_ahead, last_sought, nothing_ahead, region_there, region_told, some_parts, twofold_ahead, unambiguous_tells, undeclared_fault}
use Rattle.cxx_language_laws.proofs.Scopes.{AreSound, InScopes}
use Rattle.cxx_language_laws.proofs.Outward.{class_apart, none_left}
use Rattle.cxx_language_laws.proofs.Sought.{fitting, none_by_types, nothing_sought, some_member}
use Rattle.cxx_language_laws.proofs.Tells.{IsQuiet, IsTold, KindsTell, Quietly, ReadersTell, ToldBy, tells_answer, tells_refusal, Answers}
use Rattle.cxx_language_laws.proofs.TellsConversions.{convert_tells}
use Rattle.cxx_language_laws.proofs.TellsDefaults.{OffersTell}
use Rattle.cxx_language_laws.proofs.TellsExpressions.{plain_tells, name_tells, call_tells, through_call_tells, member_tells, arrow_tells}
use Rattle.cxx_language_laws.proofs.TellsKnot.{type_id_tells}
use Rattle.cxx_language_laws.proofs.TellsMembers.{FunctionsTell, MemberTells, MembersTell, WithinTells}
use Rattle.cxx_language_laws.proofs.TellsNames.{AskedFor, AskedImplied, AskedOf, CalledTells, IsAskedSo, NameTells, UnknownUnasked}

-- ---- the types of names behind `enum`

elaborated_by_tells : (state : CxxState) (ahead : Ahead) (part : CxxPathPart) (all : List Numbered) → (all ≡ [] → Told state ahead (undeclared_at part.place part.word)) → (number : Option ℕ) → ToldBy IsLater Told state ahead (elaborated_by part all number state)
elaborated_by_tells state ahead part all unknown (Some n) = same_by later_is_told _ state _
elaborated_by_tells state ahead part [] unknown None = tells_refusal _ (unknown refl)
elaborated_by_tells state ahead part (one ∷ more) unknown None = quiet_by later_is_told refl

elaborated_found_tells : (state : CxxState) (ahead : Ahead) → begins_name ahead ≡ true → is_whole_name ahead ≡ true → (where_ : Region) → region_of state.graph state.here.scope (path_ahead ahead) ≡ Ok where_ → (x : Found) → sought_in state.graph types_only where_ (name_in (path_ahead ahead)) ≡ x
    → ToldBy IsLater Told state ahead (elaborated_found (last_ahead ahead) x state)
elaborated_found_tells state ahead begins whole where_ means x is =
    unambiguous_tells types_only tt state ahead begins whole where_ means x is (elaborated_by (last_ahead ahead) (set_in state.graph x) (enumeration_in (set_in state.graph x)) state) (λ clear.
    elaborated_by_tells state ahead (last_ahead ahead) (set_in state.graph x) (nothing_ahead types_only tt state ahead begins whole where_ means x is clear) (enumeration_in (set_in state.graph x)))

elaborated_tells : (state : CxxState) (ahead : Ahead) → begins_name ahead ≡ true → is_whole_name ahead ≡ true → ToldBy IsLater Told state ahead (elaborated_here (path_ahead ahead) state)
unfolding elaborated_here
elaborated_tells state ahead begins whole = by (region_of state.graph state.here.scope (path_ahead ahead)) refl
  where
    by : (o : Answer Region) → region_of state.graph state.here.scope (path_ahead ahead) ≡ o → ToldBy IsLater Told state ahead (o >>= λ where_. elaborated_found (last_ahead ahead) (sought_in state.graph types_only where_ (name_in (path_ahead ahead))) state)
    by (Ok where_) means = elaborated_found_tells state ahead begins whole where_ means (sought_in state.graph types_only where_ (name_in (path_ahead ahead))) refl
    by (Err why) e = tells_refusal why (region_told state ahead begins whole why e)

-- ---- declarations

constant_by_tells : {told : CxxState → Ahead → Stopped → Type 0} → IsTold IsLater told → (state : CxxState) (ahead : Ahead) (tree : CxxTree) (value : CxxValue) → ToldBy IsLater told state ahead (constant_by state tree value)
constant_by_tells is state ahead tree (Ok value) = if_by (is_held value) (same_by is value state ahead) (quiet_by is refl)
constant_by_tells is state ahead tree (Err (not_constant part)) = quiet_by is refl
constant_by_tells is state ahead tree (Err (overflow part)) = quiet_by is refl
constant_by_tells is state ahead tree (Err (divide_by_zero part)) = quiet_by is refl

pub constant_tells : {told : CxxState → Ahead → Stopped → Type 0} → IsTold IsLater told → (tree : CxxTree) → Answers IsLater told (constant_here tree)
unfolding constant_here
constant_tells is tree state ahead = constant_by_tells is state ahead tree (constant state.graph tree)

pub kinds_tell : (room : ℕ) → KindsTell IsLater Told (asked room).kinds
unfolding asking
kinds_tell room = record {
  kind = λ path. calmly later_is_told (kind_tells path);
  type_named = λ path. calmly later_is_told (type_tells path);
  elaborated = elaborated_tells;
  class_named = class_tells;
  enumeration = λ name place. calmly later_is_told (enumeration_answer_tells name place);
  enumerator = λ number name value. calmly later_is_told (enumerator_answer_tells number name value);
  enumerated = λ number. calmly later_is_told (enumerated_tells number);
  constant = constant_tells later_is_told;
  parameter = λ name place of. calmly later_is_told (parameter_answer_tells name place of);
  listed = listed_tells;
}

-- ---- expressions

fallback_by_tells : {told : CxxState → Ahead → Stopped → Type 0} → IsTold IsLater told → (place : Place) (state : CxxState) (given : Option CxxGiven) (ahead : Ahead) → ToldBy IsLater told state ahead (fallback_by place state given)
fallback_by_tells is place state None ahead = quiet_by is refl
fallback_by_tells is place state (Some given) ahead = same_by is given.tree state ahead

-- 8.3.6: a name alone is looked up where the reader stands
alone_tells : {told : CxxState → Ahead → Stopped → Type 0} → IsTold IsLater told → (part : CxxPathPart) (function index : ℕ) → Answers IsLater told (fallback_here (name_alone part) function index)
unfolding fallback_here region_of region_by
alone_tells is part function index state ahead = fallback_by_tells is part.place state (first_given state.graph.facts (scope_of_giver state.graph function (giver state.graph (scope_of_region (first_region state.here.scope false)) function)) function index state.given) ahead

questions_tell : {told : CxxState → Ahead → Stopped → Type 0} → IsTold IsLater told → QuestionsTell IsLater told answers
unfolding questions bound_here size_here
questions_tell is = record {
  bound = λ place target state ahead. tells_answer (tt, with_use place target state) (later_same state (with_use place target state) refl refl refl);
  size = λ of state ahead. same_by is _ state ahead;
  alone = alone_tells is;
}

-- ---- what a name means (3.4)

abbrev NameAnswers : Type 0
NameAnswers = Answer (List Numbered × CxxState)

abbrev AreNames : NameAnswers → NameAnswers → Type 0
AreNames one two = one ≡ two

-- where the last part of a name is looked up
abbrev MeansRegion : CxxPath → CxxState → Region → Type 0
MeansRegion path state where_ = region_of state.graph state.here.scope path ≡ Ok where_

-- what is sought of it there
abbrev sought_there : CxxPath → CxxState → Region → Found
sought_there path state where_ = sought_in state.graph any_name where_ (name_in path)

abbrev meant_there : CxxPath → CxxState → Region → List Numbered
meant_there path state where_ = meant_in state.graph where_ (name_in path)

-- What was found, where nothing refuses the name. A refusal says that it is ambiguous, or of a part before `::` why it
-- means no namespace, or nothing of declarations.
data NamedSo (path : CxxPath) (state : CxxState) : NameAnswers → Type 0 where
  named_so : (where_ : Region) → MeansRegion path state where_ → IsClear (sought_there path state where_) → NamedSo path state (Ok (meant_there path state where_, state))
  not_named : (why : Stopped) → IsQuiet why → NamedSo path state (Err why)
  named_twice : (where_ : Region) (x : Found) (why : Stopped) → MeansRegion path state where_ → sought_there path state where_ ≡ x → IsTwain state.graph (last_part path.parts) x why → NamedSo path state (Err why)
  named_nowhere : (why : Stopped) → region_of state.graph state.here.scope path ≡ Err why → NamedSo path state (Err why)

if_named : {path : CxxPath} {state : CxxState} (refused : Bool) {one two : NameAnswers} → NamedSo path state one → NamedSo path state two → NamedSo path state (if refused then one else two)
if_named true one two = one
if_named false one two = two

-- 6.5.3, 8.3.6: what a `for` does behind each turn, and a default argument, do not name everything
meant_so : (path : CxxPath) (state : CxxState) (where_ : Region) → MeansRegion path state where_ → IsClear (sought_there path state where_) → NamedSo path state (name_meant path (meant_there path state where_) state)
meant_so path state where_ means clear =
    if_named (state.in_default && names_local state.graph (meant_there path state where_)) (not_named (fault (last_part path.parts).place says.OperandsDoNotFit) refl) (
    if_named (state.in_step && names_tested state.tested state.here.scope (meant_there path state where_)) (not_named (fault (last_part path.parts).place (says.LeftOut form.ConditionNameInStep)) refl) (named_so where_ means clear))

region_so : (path : CxxPath) (state : CxxState) (where_ : Region) → MeansRegion path state where_ → NamedSo path state (name_in_region path where_ state)
region_so path state where_ means = by (sought_there path state where_) refl (clear_or state.graph (last_part path.parts) (sought_there path state where_))
  where
    by : (x : Found) → sought_there path state where_ ≡ x → {r : Answer (Unit {0})} → ClearOr state.graph (last_part path.parts) x r → NamedSo path state (r >>= λ is_one. name_meant path (meant_there path state where_) state)
    by x is (is_clear clear) = meant_so path state where_ means (subst IsClear (sym is) clear)
    by x is (is_twain why two) = named_twice where_ x why means is two

names_so : (path : CxxPath) (state : CxxState) → NamedSo path state (name_here path state)
unfolding name_here
names_so path state = by (region_of state.graph state.here.scope path) refl
  where
    by : (o : Answer Region) → region_of state.graph state.here.scope path ≡ o → NamedSo path state (o >>= λ where_. name_in_region path where_ state)
    by (Ok where_) means = region_so path state where_ means
    by (Err why) e = named_nowhere why e

-- what was found, by the answer
record FoundSo (path : CxxPath) (state : CxxState) (one : List Numbered × CxxState) : Type 0 where
  where_ : Region
  means : MeansRegion path state where_
  clear : IsClear (sought_there path state where_)
  is : (meant_there path state where_, state) ≡ one

one_is : (path : CxxPath) (state : CxxState) (one : List Numbered × CxxState) {answer : NameAnswers} → NamedSo path state answer → answer ≡ Ok one → FoundSo path state one
one_is path state one (named_so where_ means clear) e = record { where_ = where_; means = means; clear = clear; is = by e }
  where
    by : AreNames (Ok (meant_there path state where_, state)) (Ok one) → (meant_there path state where_, state) ≡ one
    by e = cc
one_is path state one (not_named why quiet) e = absurd cc
one_is path state one (named_twice where_ x why means is two) e = absurd cc
one_is path state one (named_nowhere why is) e = absurd cc

-- what is told where a name is refused
record RefusedTold (told : CxxState → Ahead → Stopped → Type 0) (path : CxxPath) (state : CxxState) (ahead : Ahead) : Type 0 where
  nowhere : (why : Stopped) → region_of state.graph state.here.scope path ≡ Err why → told state ahead why
  twofold : (where_ : Region) → MeansRegion path state where_ → (x : Found) (why : Stopped) → IsTwain state.graph (last_part path.parts) x why → sought_there path state where_ ≡ x → told state ahead why

named_tells : {told : CxxState → Ahead → Stopped → Type 0} → IsTold IsLater told → (path : CxxPath) (state : CxxState) (ahead : Ahead) → RefusedTold told path state ahead → {answer : NameAnswers} → NamedSo path state answer → ToldBy IsLater told state ahead answer
named_tells is path state ahead refused (named_so where_ means clear) = same_by is (meant_there path state where_) state ahead
named_tells is path state ahead refused (not_named why quiet) = quiet_by is quiet
named_tells is path state ahead refused (named_twice where_ x why means e two) = tells_refusal why (refused.twofold where_ means x why two e)
named_tells is path state ahead refused (named_nowhere why e) = tells_refusal why (refused.nowhere why e)

-- what is found, without what tells default arguments
found_none : (path : CxxPath) (state : CxxState) (where_ : Region) → meant_there path state where_ ≡ [] → set_in state.graph (sought_there path state where_) ≡ []
unfolding with_givers
found_none path state where_ e = none_left (set_in state.graph (sought_there path state where_)) (givers state.graph (scope_of_region where_) (set_in state.graph (sought_there path state where_))) e

-- what holds of the state in which a name is asked holds of the one that is answered
abbrev InAnswer : (List Numbered → CxxState → Type 0) → List Numbered × CxxState → Type 0
InAnswer P one = P one.0 one.1

-- it is told where nothing is found of it
abbrev NothingFound : (CxxState → Ahead → Stopped → Type 0) → Label → CxxState → Ahead → Type 0
NothingFound told label state ahead = (where_ : Region) → MeansRegion (path_in label) state where_ → IsClear (sought_there (path_in label) state where_) → set_in state.graph (sought_there (path_in label) state where_) ≡ [] → told state ahead (undeclared_at (word_in label).place (word_in label).word)

name_answers : {told : CxxState → Ahead → Stopped → Type 0} → IsTold IsLater told → (label : Label) (state : CxxState) (ahead : Ahead) → RefusedTold told (path_in label) state ahead → NothingFound told label state ahead → NameTells IsLater told answers label state ahead
unfolding questions
name_answers {told = told} is label state ahead refused unknown = record {
  answers = named_tells is (path_in label) state ahead refused (names_so (path_in label) state);
  unknown = λ one e. let so = one_is (path_in label) state one (names_so (path_in label) state) e in
      subst (InAnswer (λ all s. all ≡ [] → told s ahead (undeclared_at (word_in label).place (word_in label).word))) so.is (λ none. unknown so.where_ so.means so.clear (found_none (path_in label) state so.where_ none));
}

-- the same of a called name, of which it is told where the types of its arguments are not asked
called_answers : {told : CxxState → Ahead → Stopped → Type 0} → IsTold IsLater told → (label : Label) (state : CxxState) (ahead : Ahead) → RefusedTold told (path_in label) state ahead → (is_bare label ≡ false → NothingFound told label state ahead) → CalledTells IsLater told answers label state ahead
unfolding questions
called_answers {told = told} is label state ahead refused unknown = record {
  answers = named_tells is (path_in label) state ahead refused (names_so (path_in label) state);
  unknown = λ one e. let so = one_is (path_in label) state one (names_so (path_in label) state) e in
      subst (InAnswer (λ all s. UnknownUnasked told label all s ahead)) so.is (λ none unasked. unknown unasked so.where_ so.means so.clear (found_none (path_in label) state so.where_ none));
}

-- ---- a name that is ahead

-- the word of a tree is that of the last part of its name
word_is : (parts : List CxxPathPart) → part_or (slice_get parts (length parts - 1)) ≡ last_part parts
word_is [] = refl
word_is (part ∷ []) = refl
word_is (part ∷ next ∷ others) =
    let less : length (part ∷ next ∷ others) - 1 ≡ suc (length (next ∷ others) - 1) = omega arith in
    ap (λ (n : ℕ). part_or (slice_get (part ∷ next ∷ others) n)) less ∙ word_is (next ∷ others)

-- nothing is found of the last part of a name
abbrev IsUntold : CxxState → Ahead → CxxPathPart → Type 0
IsUntold state ahead part = Told state ahead (undeclared_at part.place part.word)

name_ahead_tells : (state : CxxState) (ahead : Ahead) → begins_name ahead ≡ true → is_whole_name ahead ≡ true → ToldBy IsLater Told state ahead (elaborate answers (name_tree (path_ahead ahead) ahead (behind_name ahead)) state)
name_ahead_tells state ahead begins whole =
    name_tells later_is_told (questions_tell later_is_told) (path_ahead ahead) ahead (behind_name ahead) state ahead
    (name_answers later_is_told (name_tree (path_ahead ahead) ahead (behind_name ahead)).label state ahead
    (record { nowhere = region_told state ahead begins whole; twofold = twofold_ahead any_name tt state ahead begins whole })
    (λ where_ means clear none. subst (IsUntold state ahead) (sym (word_is (path_ahead ahead).parts)) (nothing_ahead any_name tt state ahead begins whole where_ means (sought_there (path_ahead ahead) state where_) refl clear none)))

-- ---- a call that stands ahead

trees_same : (trees : List CxxTree) → each_tree (in_turn trees) ≡ trees
trees_same [] = refl
trees_same (tree ∷ others) = ap (λ more. tree ∷ more) (trees_same others)

-- the tree of a call that stands ahead
abbrev tree_of_call : {room : ℕ} {state : CxxState} {ahead : Ahead} → IsUnitCall room state ahead → Ahead → CxxTree
tree_of_call call from = call_tree (brackets_of call.is_open) (called call) call.arguments from call.rest

-- what is true of its name, in a state as late as that in which its arguments are read
name_of_call : (state : CxxState) (ahead : Ahead) (room : ℕ) (call : IsUnitCall room state ahead) (t : CxxState) → IsLater state t → (why : Stopped) → Told t call.named why → Told state ahead why
name_of_call state ahead room call t later why told = told_sooner state t ahead call.named why (reached_by_later state t later) call.stands told

call_refused : (state : CxxState) (ahead : Ahead) (room : ℕ) (call : IsUnitCall room state ahead) → RefusedTold (ToldSince state ahead) (called call) call.at ahead
call_refused state ahead room call = record {
  nowhere = λ why e later. name_of_call state ahead room call call.at later why (region_told call.at call.named call.begins call.whole why e);
  twofold = λ where_ means x why two is later. name_of_call state ahead room call call.at later why (twofold_ahead any_name tt call.at call.named call.begins call.whole where_ means x why two is);
}

-- where nothing is found of its name, nor by the types of its arguments
call_unknown : (state : CxxState) (ahead : Ahead) (room : ℕ) (call : IsUnitCall room state ahead) → IsLater state call.at → (where_ : Region) → MeansRegion (called call) call.at where_ → IsClear (sought_there (called call) call.at where_) → set_in call.at.graph (sought_there (called call) call.at where_) ≡ [] → (InScopes call.at → called_by_types call ≡ [])
    → Told state ahead (undeclared_at (last_ahead call.named).place (last_ahead call.named).word)
unfolding last_sought
call_unknown state ahead room call later where_ means clear none by_types =
    reached_here state ahead (IsUndeclared (undeclared_fault (last_ahead call.named)) (last_ahead call.named).word) (record {
      is = λ is. let found = nothing_sought call.at.graph any_name where_ (name_in (called call)) (fitting call.at (later.scopes is)) (region_there call.at (called call) where_ (later.scopes is) means) (sought_there (called call) call.at where_) refl clear none in (
        unknown_call any_name (record {
          room = room;
          call = call;
          finds = nothing_in where_;
          is_sought = last_sought call.at.graph call.at.here.scope (called call) any_name (nothing_in where_) (undeclared_fault (last_ahead call.named)) where_ (some_parts call.named call.begins call.whole) tt refl (by_region call.at.graph call.at.here.scope (called call) where_ means) found.0;
          nothing = refl;
          by_types = by_types (later.scopes is);
        }),
        found.1,
      );
      bare = refl;
    })

-- 3.4.2: whether the types of its arguments are asked
word_asked : (is_open : Bool) (path : CxxPath) → bare_word (is_none_left (brackets_of is_open) && is_plain_path path) (last_part path.parts).word ≡ asked_word is_open path
word_asked true path = by (is_plain_path path)
  where
    by : (b : Bool) → bare_word b (last_part path.parts).word ≡ (if b then Some (last_part path.parts).word else None)
    by true = refl
    by false = refl
word_asked false path = refl

-- they are not
unasked_none : (graph : CxxGraph) (is_open : Bool) (path : CxxPath) (operands : List CxxOperand) → (is_none_left (brackets_of is_open) && is_plain_path path) ≡ false → functions_by_types graph path is_open operands ≡ []
unasked_none graph is_open path operands unasked = ap (λ (word : Option (List ℕ)). associated_functions graph word operands) (sym (word_asked is_open path) ∙ ap (λ (b : Bool). bare_word b (last_part path.parts).word) unasked)

-- whether the name of the tree of a call is bare
open_or_not : {room : ℕ} {state : CxxState} {ahead : Ahead} (call : IsUnitCall room state ahead) (from : Ahead) → is_bare (tree_of_call call from).label ≡ (is_none_left (brackets_of call.is_open) && is_plain_path (called call))
open_or_not call from = refl

call_unasked : (state : CxxState) (ahead : Ahead) (room : ℕ) (call : IsUnitCall room state ahead) (from : Ahead) → is_bare (tree_of_call call from).label ≡ false → NothingFound (ToldSince state ahead) (tree_of_call call from).label call.at ahead
call_unasked state ahead room call from unasked where_ means clear none later = subst (IsUntold state ahead) (sym (word_is (called call).parts)) (call_unknown state ahead room call later where_ means clear none (λ is. unasked_none call.at.graph call.is_open (called call) (operands call) (sym (open_or_not call from) ∙ unasked)))

-- where the question of its name is answered
abbrev AreDeclared : {room : ℕ} {state : CxxState} {ahead : Ahead} → IsUnitCall room state ahead → Label → List Numbered × CxxState → Type 0
AreDeclared call label one = AreNames (name_here (path_in label) call.at) (Ok one)

-- a name that has no brackets round it, no qualifiers, and no declarations
bare_call : (label : Label) (all values : List Numbered) → IsAskedSo label all values → values ≡ [] → (all ≡ []) × (is_bare label ≡ true)
bare_call label [] [] asked none = (refl, asked)
bare_call label (one ∷ others) [] asked none = absurd cc
bare_call label all (one ∷ others) asked none = absurd cc

besides_none : (graph : CxxGraph) (scope : ℕ) (where_ : Region) (path : CxxPath) (is_open : Bool) (operands : List CxxOperand) → AreSound graph.facts → values_of graph where_ (name_in path) ≡ [] → values_besides graph scope where_ path is_open operands ≡ [] → functions_by_types graph path is_open operands ≡ []
unfolding with_givers
besides_none graph scope where_ path is_open operands sound none e =
    none_by_types graph (asked_word is_open path) operands sound (subst (λ (values : List Numbered). numbered_at graph (fresh_among values (functions_by_types graph path is_open operands)) ≡ []) none
    (none_left (numbered_at graph (fresh_among (values_of graph where_ (name_in path)) (functions_by_types graph path is_open operands))) (givers graph scope (numbered_at graph (fresh_among (values_of graph where_ (name_in path)) (functions_by_types graph path is_open operands)))) e))

right_none : {A : Type 0} (xs ys : List A) → xs ++ ys ≡ [] → ys ≡ []
right_none [] ys e = e
right_none (x ∷ xs) ys e = absurd cc

nothing_told : (state : CxxState) (ahead : Ahead) (room : ℕ) (call : IsUnitCall room state ahead) → IsLater state call.at → (clear : IsFoundClear call) (from : Ahead) → IsAskedSo (tree_of_call call from).label (meant_there (called call) call.at clear.where_) (values_of call.at.graph clear.where_ (name_in (called call))) → NothingTold call clear state ahead
nothing_told state ahead room call later clear from is_so nothing =
    subst (λ (word : Option (List ℕ)). Told state ahead (undeclared_at (place_of_call call) (word_or_none word))) (sym (ap (λ (b : Bool). bare_word b (last_ahead call.named).word) bare.1) ∙ word_asked call.is_open (called call)) told
  where
    values : List Numbered
    values = values_of call.at.graph clear.where_ (name_in (called call))

    besides : List Numbered
    besides = values_besides call.at.graph call.at.here.scope clear.where_ (called call) call.is_open (operands call)

    no_values : values ≡ []
    no_values = none_left values besides nothing

    bare : (meant_there (called call) call.at clear.where_ ≡ []) × (is_bare (tree_of_call call from).label ≡ true)
    bare = bare_call (tree_of_call call from).label (meant_there (called call) call.at clear.where_) values is_so no_values

    told : Told state ahead (undeclared_at (place_of_call call) (last_ahead call.named).word)
    told = call_unknown state ahead room call later clear.where_ clear.qualifies clear.clear (found_none (called call) call.at clear.where_ bare.0) (λ is. besides_none call.at.graph call.at.here.scope clear.where_ (called call) call.is_open (operands call) is.sound no_values (right_none values besides nothing))

-- the word of its question
word_of_call : {room : ℕ} {state : CxxState} {ahead : Ahead} (call : IsUnitCall room state ahead) (from : Ahead) → bare_word (is_bare (tree_of_call call from).label) (word_in (tree_of_call call from).label).word ≡ asked_word call.is_open (called call)
word_of_call call from = ap (λ (part : CxxPathPart). bare_word (is_bare (tree_of_call call from).label) part.word) (word_is (called call).parts) ∙ word_asked call.is_open (called call)

-- by its name
asked_by_name : (state : CxxState) (ahead rest : Ahead) (room : ℕ) (call : IsUnitCall room state ahead) → IsLater state call.at → (from : Ahead) (clear : IsFoundClear call)
    → AskedFor IsLater (ToldSince state ahead) answers (tree_of_call call from) call.arguments (meant_there (called call) call.at clear.where_) (values_of call.at.graph clear.where_ (name_in (called call))) call.at rest
unfolding questions
asked_by_name state ahead rest room call later from clear asked =
    subst (λ (word : Option (List ℕ)). ToldBy IsLater (ToldSince state ahead) call.at rest (call_here (record (asked_for call clear) { word = word }) call.at)) (sym (word_of_call call from))
    (call_asked_tells state ahead rest room call clear (λ why told later. told) (nothing_told state ahead room call later clear from asked))

-- 13.3.1.1.1 p3: without an object, where it means functions of a class
asked_implied_so : (state : CxxState) (ahead rest : Ahead) (room : ℕ) (call : IsUnitCall room state ahead) (from : Ahead) (clear : IsFoundClear call)
    → AskedImplied IsLater (ToldSince state ahead) answers (tree_of_call call from) call.arguments (values_of call.at.graph clear.where_ (name_in (called call))) call.at rest
unfolding questions object_for
asked_implied_so state ahead rest room call from clear one others class are in_class =
    implied_asked_tells state ahead rest room call (object_operand (implied_type class (object_for call.at one.fact.scope))) (one ∷ others) implied (λ why told later. told)
  where
    implied : AreImpliedCalled call (object_operand (implied_type class (object_for call.at one.fact.scope))) (one ∷ others)
    implied = record {
      where_ = clear.where_;
      qualifies = clear.qualifies;
      clear = clear.clear;
      are = sym are;
      one = one;
      others = others;
      first = refl;
      class = class;
      of_class = in_class;
      is_object = refl;
    }

asked_by : (state : CxxState) (ahead rest : Ahead) (room : ℕ) (call : IsUnitCall room state ahead) → IsLater state call.at → (from : Ahead) (one : List Numbered × CxxState) → AreDeclared call (tree_of_call call from).label one
    → AskedOf IsLater (ToldSince state ahead) answers (tree_of_call call from) call.arguments one.0 one.1 rest
asked_by state ahead rest room call later from one e =
    let so = one_is (called call) call.at one (names_so (called call) call.at) e in
    let clear : IsFoundClear call = record { where_ = so.where_; qualifies = so.means; clear = so.clear } in
    subst (λ (x : List Numbered × CxxState). AskedOf IsLater (ToldSince state ahead) answers (tree_of_call call from) call.arguments x.0 x.1 rest) so.is (record {
      by_name = asked_by_name state ahead rest room call later from clear;
      implied = asked_implied_so state ahead rest room call from clear;
    })

asked_of : (state : CxxState) (ahead rest : Ahead) (room : ℕ) (call : IsUnitCall room state ahead) → IsLater state call.at → (from : Ahead) (one : List Numbered × CxxState) → AreDeclared call (tree_of_call call from).label one
    → AskedOf IsLater (ToldSince state ahead) answers (tree_of_call call from) (children_of (tree_of_call call from)) one.0 one.1 rest
asked_of state ahead rest room call later from one e =
    subst (λ (trees : List CxxTree). AskedOf IsLater (ToldSince state ahead) answers (tree_of_call call from) trees one.0 one.1 rest) (sym (trees_same call.arguments)) (asked_by state ahead rest room call later from one e)

-- 8.3.6: of a later state it is known where the called name is looked up, or why nowhere
call_defaults : (state : CxxState) (ahead : Ahead) (room : ℕ) (call : IsUnitCall room state ahead) → DefaultsTell IsLater (ToldSince state ahead) answers (called call)
unfolding questions fallback_here
call_defaults state ahead room call = record { fallback = λ function index t rest. by function index t rest (region_of t.graph t.here.scope (called call)) refl }
  where
    by : (function index : ℕ) (t : CxxState) (rest : Ahead) (o : Answer Region) → region_of t.graph t.here.scope (called call) ≡ o → ToldBy IsLater (ToldSince state ahead) t rest (o >>= λ where_. fallback_by (last_part (called call).parts).place t (first_given t.graph.facts (scope_of_giver t.graph function (giver t.graph (scope_of_region where_) function)) function index t.given))
    by function index t rest (Ok where_) means = fallback_by_tells (later_is_told_since state ahead) (last_part (called call).parts).place t (first_given t.graph.facts (scope_of_giver t.graph function (giver t.graph (scope_of_region where_) function)) function index t.given) rest
    by function index t rest (Err why) e = tells_refusal why (λ later. name_of_call state ahead room call t later why (region_told t call.named call.begins call.whole why e))

-- what is asked in a later state
asked_later : (state : CxxState) (ahead rest : Ahead) (at : CxxState) {r : Answer (CxxTree × CxxState)} → IsLater state at → ToldBy IsLater (ToldSince state ahead) at rest r → ToldBy IsLater Told state ahead r
asked_later state ahead rest at first (tells_answer one later) = tells_answer one (later_is_kept.later state at one.1 first later)
asked_later state ahead rest at first (tells_refusal why true_of) = tells_refusal why (true_of first)

call_ahead_tells : (room : ℕ) (state : CxxState) (ahead : Ahead) (call : IsUnitCall room state ahead) → IsLater state call.at → (from : Ahead) → ToldBy IsLater Told state ahead (elaborate answers (tree_of_call call from) call.at)
unfolding questions
call_ahead_tells room state ahead call later from =
    let is = later_is_told_since state ahead in
    asked_later state ahead ahead call.at later (call_tells is (questions_tell is) (brackets_of call.is_open) (called call) (call_defaults state ahead room call) call.arguments from call.rest call.at ahead
    (called_answers is (tree_of_call call from).label call.at ahead (call_refused state ahead room call) (call_unasked state ahead room call from))
    (asked_of state ahead ahead room call later from))

-- ---- a member of an object that was read (5.2.5)

-- What a class has of a name: nothing, or declarations that are found. A refusal says that it is ambiguous, or nothing of
-- declarations.
data MemberSo (class : ℕ) (path : CxxPath) (state : CxxState) : NameAnswers → Type 0 where
  no_member : member state.graph any_name (record { 0 = class }) (name_in path) ≡ Ok member_found.Empty → MemberSo class path state (Ok ([], state))
  some_members : (all : List FactId) (bases : List ℕ) → member state.graph any_name (record { 0 = class }) (name_in path) ≡ Ok (member_found.Set all bases) → MemberSo class path state (Ok (numbered_at state.graph (fact_numbers all), state))
  member_refused : (why : Stopped) → IsQuiet why → MemberSo class path state (Err why)
  member_twice : (one two : Hit) → member state.graph any_name (record { 0 = class }) (name_in path) ≡ Ok (member_found.Ambiguous one two) → MemberSo class path state (Err (ambiguous_member_at state.graph (last_part path.parts) one two))

member_so : (class : ℕ) (path : CxxPath) (state : CxxState) → MemberSo class path state (member_here class path state)
unfolding member_here
member_so class path state = by (has_begun class state.graph.facts)
  where
    of : (x : Asked MemberFound) → member state.graph any_name (record { 0 = class }) (name_in path) ≡ x → MemberSo class path state (in_state state (member_answered state.graph (last_part path.parts) x))
    of (Ok member_found.Empty) e = no_member e
    of (Ok (member_found.Set all bases)) e = some_members all bases e
    of (Ok (member_found.Ambiguous one two)) e = member_twice one two e
    of (Err pending) e = member_refused _ refl

    by : (b : Bool) → MemberSo class path state (if b then in_state state (member_answered state.graph (last_part path.parts) (member state.graph any_name (record { 0 = class }) (name_in path))) else Err (fault (last_part path.parts).place says.IncompleteClass))
    by true = of (member state.graph any_name (record { 0 = class }) (name_in path)) refl
    by false = member_refused _ refl

-- where nothing is answered there is no member of the name
is_no_member : (class : ℕ) (path : CxxPath) (state : CxxState) (one : List Numbered × CxxState) {answer : NameAnswers} → AreSound state.graph.facts → MemberSo class path state answer → answer ≡ Ok one → one.0 ≡ [] → member state.graph any_name (record { 0 = class }) (name_in path) ≡ Ok member_found.Empty
is_no_member class path state one sound (no_member is) e none = is
is_no_member class path state one sound (some_members all bases is) e none = absurd (some_member state.graph (record { 0 = class }) (name_in path) sound all bases is (ap (λ (x : List Numbered × CxxState). x.0) (by e) ∙ none))
  where
    by : AreNames (Ok (numbered_at state.graph (fact_numbers all), state)) (Ok one) → (numbered_at state.graph (fact_numbers all), state) ≡ one
    by e = cc
is_no_member class path state one sound (member_refused why quiet) e none = absurd cc
is_no_member class path state one sound (member_twice m n is) e none = absurd cc

-- its tree, with the number of its operator's production
abbrev tree_of_member : {room : ℕ} {state : CxxState} {ahead : Ahead} → IsUnitSelected room state ahead → ℕ → CxxTree
tree_of_member {ahead = ahead} is number = member_tree number (place_ahead ahead) (path_ahead (behind ahead)) is.object is.from (behind_name (behind ahead))

-- in the state in which it is looked up
member_sought : (state : CxxState) (ahead : Ahead) (room : ℕ) (is : IsUnitSelected room state ahead) (class : ℕ) (at : CxxState) → IsOfObject state (place_ahead ahead) is.object is.number class at → (within : ClassId) → IsNamingClass at class (path_ahead (behind ahead)) within → (finds : MemberFound) → member at.graph any_name within (name_in (path_ahead (behind ahead))) ≡ Ok finds → (fault : Fault) → (selected_part ahead).place ≡ fault.place
    → IsSoughtMember state ahead finds fault (selected_part ahead).word
member_sought state ahead room is class at of within qualifies finds e fault is_at = record { room = room; selected = is; class = class; at = at; of = of; within = within; qualifies = qualifies; spelled_so = refl; is_at = is_at; finds_so = e }

member_unknown : (state : CxxState) (ahead : Ahead) (room : ℕ) (is : IsUnitSelected room state ahead) (class : ℕ) (at : CxxState) → IsLater state at → IsOfObject state (place_ahead ahead) is.object is.number class at → (within : ClassId) → IsNamingClass at class (path_ahead (behind ahead)) within → (one : List Numbered × CxxState) → member_here within.0 (path_ahead (behind ahead)) at ≡ Ok one → one.0 ≡ []
    → IsUntold state ahead (selected_part ahead)
member_unknown state ahead room is class at later of within qualifies one e none =
    reached_here state ahead (IsUndeclared (undeclared_fault (selected_part ahead)) (selected_part ahead).word) (record {
      is = λ scopes. (unknown_member (member_sought state ahead room is class at of within qualifies member_found.Empty (is_no_member within.0 (path_ahead (behind ahead)) at one (later.scopes scopes).sound (member_so within.0 (path_ahead (behind ahead)) at) e none) (undeclared_fault (selected_part ahead)) refl), tt);
      bare = refl;
    })

member_told : (state : CxxState) (ahead : Ahead) (room : ℕ) (is : IsUnitSelected room state ahead) (class : ℕ) (at : CxxState) → IsOfObject state (place_ahead ahead) is.object is.number class at → (within : ClassId) → IsNamingClass at class (path_ahead (behind ahead)) within → {answer : NameAnswers} → MemberSo within.0 (path_ahead (behind ahead)) at answer
    → ToldBy IsLater (ToldSince state ahead) at ahead answer
unfolding member_sought
member_told state ahead room is class at of within qualifies (no_member e) = same_by (later_is_told_since state ahead) [] at ahead
member_told state ahead room is class at of within qualifies (some_members all bases e) = same_by (later_is_told_since state ahead) (numbered_at at.graph (fact_numbers all)) at ahead
member_told state ahead room is class at of within qualifies (member_refused why quiet) = quiet_by (later_is_told_since state ahead) quiet
member_told state ahead room is class at of within qualifies (member_twice one two e) =
    tells_refusal _ (λ later. reached_here state ahead (IsManifold ambiguous (selected_part ahead).word)
    (λ scopes. twofold_member one two (member_sought state ahead room is class at of within qualifies (member_found.Ambiguous one two) e ambiguous refl) (class_apart at.graph any_name (name_in (path_ahead (behind ahead))) within one two (later.scopes scopes).sound e) refl))
  where
    ambiguous : Fault
    ambiguous = record { place = (selected_part ahead).place; text = says.AmbiguousName (selected_part ahead).word; evidence = by_bases at.graph one ∷ by_bases at.graph two ∷ [] }

within_answers : (state : CxxState) (ahead : Ahead) (room : ℕ) (is : IsUnitSelected room state ahead) (number class : ℕ) (at : CxxState) → IsLater state at → IsOfObject state (place_ahead ahead) is.object is.number class at → (within : ClassId) → IsNamingClass at class (path_ahead (behind ahead)) within → WithinTells IsLater (ToldSince state ahead) answers within.0 (tree_of_member is number).label at ahead
unfolding questions
within_answers state ahead room is number class at later of within qualifies = record {
  answers = member_told state ahead room is class at of within qualifies (member_so within.0 (path_ahead (behind ahead)) at);
  unknown = λ one e none again. subst (IsUntold state ahead) (sym (word_is (path_ahead (behind ahead)).parts)) (member_unknown state ahead room is class at later of within qualifies one e none);
}

-- 3.4.5: in the class that its qualifiers mean
member_answers : (state : CxxState) (ahead : Ahead) (room : ℕ) (is : IsUnitSelected room state ahead) (number class : ℕ) (at : CxxState) → IsLater state at → IsOfObject state (place_ahead ahead) is.object is.number class at → MemberTells IsLater (ToldSince state ahead) answers class (tree_of_member is number).label at ahead
unfolding questions
member_answers state ahead room is number class at later of = record {
  naming = naming_told state ahead ahead (path_ahead (behind ahead)) class at (behind_selector room is class at of) (naming_so class (path_ahead (behind ahead)) at);
  members = λ one e. let named = named_class class (path_ahead (behind ahead)) at one (naming_so class (path_ahead (behind ahead)) at) e in
      subst (λ (x : ℕ × CxxState). WithinTells IsLater (ToldSince state ahead) answers x.0 (tree_of_member is number).label x.1 ahead) named.is (within_answers state ahead room is number class at later of named.within named.qualifies);
}

member_ahead_tells : (room : ℕ) (state : CxxState) (ahead : Ahead) (is : IsUnitSelected room state ahead) → ToldBy IsLater Told state ahead (elaborate answers (tree_of_member is is.number) state)
member_ahead_tells room state ahead is = asked_later state ahead ahead state (later_is_kept.same state) (by is.selects)
  where
    elaborated : ℕ → Type 0
    elaborated number = ToldBy IsLater (ToldSince state ahead) state ahead (elaborate answers (tree_of_member is number) state)

    told : IsTold IsLater (ToldSince state ahead)
    told = later_is_told_since state ahead

    by : IsSelector is.number ahead → elaborated is.number
    by (inl dot) = subst elaborated (sym dot.1) (member_tells told (questions_tell told) (place_ahead ahead) (path_ahead (behind ahead)) is.object is.from (behind_name (behind ahead)) state ahead
        (λ class so. member_answers state ahead room is phrase.member class state (later_is_kept.same state) (subst (λ (number : ℕ). IsOfObject state (place_ahead ahead) is.object number class state) (sym dot.1) (of_object class so))))
    by (inr arrow) = subst elaborated (sym arrow.1) (arrow_tells told (questions_tell told) (place_ahead ahead) (path_ahead (behind ahead)) is.object is.from (behind_name (behind ahead)) state ahead
        (λ meaning built class parts at converts later so. member_answers state ahead room is phrase.arrow class at later (subst (λ (number : ℕ). IsOfObject state (place_ahead ahead) is.object number class at) (sym arrow.1) (of_pointed class meaning parts at built converts so))))

-- ---- a call of what was read (5.2.2)

-- the name that is called
abbrev called_path : {room : ℕ} {state : CxxState} {ahead : Ahead} → IsMemberCall room state ahead → CxxPath
called_path is = path_in is.call.callee.label

-- it is the one of its tree
part_is : {room : ℕ} {state : CxxState} {ahead : Ahead} (is : IsMemberCall room state ahead) → member_part is ≡ last_part (called_path is).parts
part_is is = word_is (called_path is).parts

-- what is found of it, at the place of a fault
called_sought : (state : CxxState) (ahead : Ahead) (room : ℕ) (is : IsMemberCall room state ahead) (of : CxxType) → is.call.callee.label.of ≡ Some of → (class : ℕ) → class_of_object (object_operand of) ≡ Some class → (within : ClassId) → IsNamingClass is.call.at class (called_path is) within → (finds : MemberFound) → member (declared_then is) any_name within (name_in (called_path is)) ≡ Ok finds → (fault : Fault) → (last_part (called_path is).parts).place ≡ fault.place
    → IsSoughtCalled state ahead finds fault (last_part (called_path is).parts).word
called_sought state ahead room is of typed class so within qualifies finds e fault is_at = record {
  room = room;
  is = is;
  of = of;
  typed = typed;
  class = class;
  of_object = so;
  within = within;
  qualifies = qualifies;
  spelled_so = ap (λ (part : CxxPathPart). part.word) (part_is is);
  is_at = ap (λ (part : CxxPathPart). part.place) (part_is is) ∙ is_at;
  finds_so = e;
}

-- where no function is found
called_unknown : (state : CxxState) (ahead : Ahead) (room : ℕ) (is : IsMemberCall room state ahead) (of : CxxType) → is.call.callee.label.of ≡ Some of → (class : ℕ) → class_of_object (object_operand of) ≡ Some class → (within : ClassId) → IsNamingClass is.call.at class (called_path is) within → (finds : MemberFound) → member (declared_then is) any_name within (name_in (called_path is)) ≡ Ok finds → HasNoValue (declared_then is) finds
    → Told state ahead (undeclared_at (member_part is).place [])
unfolding called_sought
called_unknown state ahead room is of typed class so within qualifies finds e none =
    reached_here state ahead (IsUndeclared fault []) (record {
      is = λ scopes. (unknown_called finds (last_part (called_path is).parts).word (called_sought state ahead room is of typed class so within qualifies finds e fault (sym (ap (λ (part : CxxPathPart). part.place) (part_is is)))) none refl, tt);
      bare = refl;
    })
  where
    fault : Fault
    fault = record { place = (member_part is).place; text = says.UndeclaredName []; evidence = [] }

-- where it is looked up
called_told : (state : CxxState) (ahead rest : Ahead) (room : ℕ) (is : IsMemberCall room state ahead) (of : CxxType) → is.call.callee.label.of ≡ Some of → (class : ℕ) → class_of_object (object_operand of) ≡ Some class → (within : ClassId) → IsNamingClass is.call.at class (called_path is) within → {answer : NameAnswers} → MemberSo within.0 (called_path is) is.call.at answer → ToldBy IsLater (ToldSince state ahead) is.call.at rest answer
unfolding called_sought
called_told state ahead rest room is of typed class so within qualifies (no_member e) = same_by (later_is_told_since state ahead) [] is.call.at rest
called_told state ahead rest room is of typed class so within qualifies (some_members all bases e) = same_by (later_is_told_since state ahead) (numbered_at (declared_then is) (fact_numbers all)) is.call.at rest
called_told state ahead rest room is of typed class so within qualifies (member_refused why quiet) = quiet_by (later_is_told_since state ahead) quiet
called_told state ahead rest room is of typed class so within qualifies (member_twice one two e) =
    tells_refusal _ (λ later. reached_here state ahead (IsManifold fault word)
    (λ scopes. twofold_called one two (called_sought state ahead room is of typed class so within qualifies (member_found.Ambiguous one two) e fault refl) (class_apart (declared_then is) any_name (name_in (called_path is)) within one two (later.scopes scopes).sound e) refl))
  where
    word : List ℕ
    word = (last_part (called_path is).parts).word

    fault : Fault
    fault = record { place = (last_part (called_path is).parts).place; text = says.AmbiguousName word; evidence = by_bases (declared_then is) one ∷ by_bases (declared_then is) two ∷ [] }

-- what is asked of the functions that are found
abbrev ChosenTells : {room : ℕ} {state : CxxState} {ahead : Ahead} → IsMemberCall room state ahead → CxxType → Ahead → List Numbered × CxxState → Type 0
ChosenTells {state = state} {ahead = ahead} is of rest one = ToldBy IsLater (ToldSince state ahead) one.1 rest (call_here (member_question answers is.call.callee.label of (values_among one.1.graph one.0) is.call.arguments one.1) one.1)

called_chosen : (state : CxxState) (ahead rest : Ahead) (room : ℕ) (is : IsMemberCall room state ahead) (of : CxxType) → is.call.callee.label.of ≡ Some of → (class : ℕ) → class_of_object (object_operand of) ≡ Some class → (within : ClassId) → IsNamingClass is.call.at class (called_path is) within → (one : List Numbered × CxxState) {answer : NameAnswers} → MemberSo within.0 (called_path is) is.call.at answer → answer ≡ Ok one → ChosenTells is of rest one
called_chosen state ahead rest room is of typed class so within qualifies one (no_member found) e = subst (ChosenTells is of rest) (by e) (
    member_asked_tells state ahead rest room is of [] typed (λ why told later. told) (λ none. called_unknown state ahead room is of typed class so within qualifies member_found.Empty found tt) (λ first others some. absurd (no_one some)))
  where
    by : AreNames (Ok ([], is.call.at)) (Ok one) → ([], is.call.at) ≡ one
    by e = cc

    no_one : {first : Numbered} {others : List Numbered} → [] ≡ first ∷ others → ⊥
    no_one e = cc
called_chosen state ahead rest room is of typed class so within qualifies one (some_members all bases found) e = subst (ChosenTells is of rest) (by e) (
    member_asked_tells state ahead rest room is of functions typed (λ why told later. told) (λ none. called_unknown state ahead room is of typed class so within qualifies (member_found.Set all bases) found none)
    (λ first others some. record { class = class; of_object = so; within = within; qualifies = qualifies; found = all; way = bases; finds = found; are = refl }))
  where
    functions : List Numbered
    functions = values_among (declared_then is) (numbered_at (declared_then is) (fact_numbers all))

    by : AreNames (Ok (numbered_at (declared_then is) (fact_numbers all), is.call.at)) (Ok one) → (numbered_at (declared_then is) (fact_numbers all), is.call.at) ≡ one
    by e = cc
called_chosen state ahead rest room is of typed class so within qualifies one (member_refused why quiet) e = absurd cc
called_chosen state ahead rest room is of typed class so within qualifies one (member_twice m n found) e = absurd cc

functions_tell : (state : CxxState) (ahead rest : Ahead) (room : ℕ) (is : IsMemberCall room state ahead) (of : CxxType) → is.call.callee.label.of ≡ Some of → (class : ℕ) → class_of_object (object_operand of) ≡ Some class → (within : ClassId) → IsNamingClass is.call.at class (called_path is) within → FunctionsTell IsLater (ToldSince state ahead) answers is.call.callee.label of within.0 is.call.arguments is.call.at rest
unfolding questions
functions_tell state ahead rest room is of typed class so within qualifies = record {
  answers = called_told state ahead rest room is of typed class so within qualifies (member_so within.0 (called_path is) is.call.at);
  chosen = λ one e. called_chosen state ahead rest room is of typed class so within qualifies one (member_so within.0 (called_path is) is.call.at) e;
}

-- 3.4.5: in the class that its qualifiers mean
callees_tell : (state : CxxState) (ahead rest : Ahead) (room : ℕ) (is : IsMemberCall room state ahead) → MembersTell IsLater (ToldSince state ahead) answers is.call.callee.label is.call.arguments is.call.at rest
unfolding questions
callees_tell state ahead rest room is of class typed so = record {
  naming = naming_told state ahead rest (called_path is) class is.call.at (behind_called room is of class typed so) (naming_so class (called_path is) is.call.at);
  functions = λ one e. let named = named_class class (called_path is) is.call.at one (naming_so class (called_path is) is.call.at) e in
      subst (λ (x : ℕ × CxxState). FunctionsTell IsLater (ToldSince state ahead) answers is.call.callee.label of x.0 is.call.arguments x.1 rest) named.is (functions_tell state ahead rest room is of typed class so named.within named.qualifies);
}

through_ahead_tells : (room : ℕ) (state : CxxState) (ahead : Ahead) (call : IsUnitCallOf room state ahead) → IsLater state call.at → ToldBy IsLater Told state ahead (elaborate answers (called_tree call.callee call.arguments call.from call.rest) call.at)
through_ahead_tells room state ahead call later =
    let is = later_is_told_since state ahead in
    asked_later state ahead ahead call.at later (through_call_tells is (questions_tell is) call.callee call.arguments call.from call.rest call.at ahead (λ is_member.
    subst (λ (trees : List CxxTree). MembersTell IsLater (ToldSince state ahead) answers call.callee.label trees call.at ahead) (sym (trees_same call.arguments)) (callees_tell state ahead ahead room (record { call = call; is_member = is_member }))))

-- ---- default arguments (8.3.6)

is_later_tells : Answers IsLater Told is_default_later
unfolding is_default_later
is_later_tells state ahead = same_by later_is_told (is_class_open state.graph (class_of_list state)) state ahead

offer_tells : (index : ℕ) (tree : CxxTree) → Answers IsLater Told (offer_default index tree)
unfolding offer_default
offer_tells index tree state ahead = tells_answer (tt, with_offer index tree state) (later_same state (with_offer index tree state) refl refl refl)

begin_tells : (equals : Place) → Answers IsLater Told (begin_default equals)
unfolding begin_default
begin_tells equals state ahead = if_by (is_list_of_class state) (quiet_by later_is_told refl) (tells_answer (state.in_default, within_default true state) (later_same state (within_default true state) refl refl refl))

end_tells : (equals : Place) (was : Bool) (index : ℕ) (of : CxxType) (tree : CxxTree) → Answers IsLater Quietly (end_default equals was index of tree)
unfolding end_default
end_tells equals was index of tree state ahead = by_answer state ahead _ (convert_tells later_is_quiet answers equals of tree state ahead) (λ answer later. tells_answer (offered_as was index answer) (turned state answer.1 (offered_as was index answer).1 later refl refl refl))

pub offers_tell : (room : ℕ) → OffersTell IsLater Told (asked room).defaults
unfolding asking
offers_tell room = record {
  is_later = is_later_tells;
  passed = offer_tells;
  begun = begin_tells;
  ended = λ equals was index of tree. calmly later_is_told (end_tells equals was index of tree);
}

-- ---- what readers of expressions ask

pub phrases_tell : (room : ℕ) → ReadersTell IsLater Told (inner_at room).types → PhrasesTell IsLater Told (phrases_at room) (inner_at room).phrases
unfolding asking
phrases_tell room types = record {
  kind = λ path. calmly later_is_told (kind_tells path);
  type_named = λ path. calmly later_is_told (type_tells path);
  whole = λ tree plain. plain_tells later_is_told (questions_tell later_is_told) tree plain;
  name = name_ahead_tells;
  call = λ state ahead is keeps from. call_ahead_tells room state ahead is keeps from;
  through = λ state ahead is keeps. through_ahead_tells room state ahead is keeps;
  member = λ state ahead is. member_ahead_tells room state ahead is;
  type_id = type_id_tells later_is_told (kinds_tell room) types;
}
