-- What members of objects and calls of them keep of the state, and what stops them (5.2.5, 5.2.2).
use Rattle.std.proofs.Common.{◌≡◌, refl}
use Rattle.std.specs.Prelude.{ℕ, zero, suc, ◌+◌, ◌-◌, Bool, true, false, if◌then◌else◌, List, [], ◌∷◌, ◌++◌, length, Option, Some, None, Ok, Err}
use Rattle.cxx_model.specs.declared.facts.MemberKind.{MemberKind}
use Rattle.cxx_model.specs.declared.fault.FaultText.TheVariants as says
use Rattle.cxx_model.specs.declared.place.Place.{Place}
use Rattle.cxx_model.specs.declared.punct.TheConstants as punct
use Rattle.cxx_model.specs.Facts.Declarations as facts
use Rattle.cxx_model.specs.Facts.Declarations.{CxxGraph, Declares}
use Rattle.cxx_model.specs.Facts.Entities.{first_or}
use Rattle.cxx_model.specs.Stops.{Answer, Stopped, fault, undeclared_at}
use Rattle.cxx_model.specs.Types.Trees.{CxxType}
use Rattle.cxx_meaning.specs.Conversions.Asking.{Asked}
use Rattle.cxx_meaning.specs.Conversions.BuiltIn.{CxxBuiltIn, built_in_result}
use Rattle.cxx_meaning.specs.Conversions.Standard.{CxxOperand}
use Rattle.cxx_reading.specs.Initializers.{operand_of}
use Rattle.cxx_reading.specs.Reads.{Ahead}
use Rattle.cxx_reading.specs.Seen.{Numbered}
use Rattle.cxx_reading.specs.State.{CxxState}
use Rattle.cxx_reading.specs.Trees.{CxxPath, CxxPathPart, CxxTree, Label, children_of}
use Rattle.cxx_expr.specs.Converting.{convert_each}
use Rattle.cxx_expr.specs.Calls.{based, based_by, based_on, callee_as, fallback_more, fallbacks, member_call, member_call_tree, member_among, member_chosen, member_converted, member_function_call, member_in, member_of, member_question, member_typed, member_within, name_alone, qualified}
use Rattle.cxx_expr.specs.Members.{arrow_of, class_of_object, class_of_value, data_tree, enumerator_tree, function_tree, has_one, is_called_by, is_closed_by, is_put_off, means_data, one_if, placed, placed_by, placed_on, placed_tree, pointed, reached, selected_among, selected_as, selected_as_meant, selected_by, selected_first, selected_from, selected_function, selected_in, selected_noted, selected_object, selected_of, selected_value, selected_within, static_before}
use Rattle.cxx_expr.specs.Names.{Means, means_enumerator, means_object, path_in, values_among, word_in}
use Rattle.cxx_expr.specs.Operands.{built_operand, is_of_class, object_operand, only}
use Rattle.cxx_expr.specs.Operators.{meaning_at, with_meaning}
use Rattle.cxx_expr.specs.Questions.{CxxChosen, Questions}
use Rattle.cxx_expr.specs.Steps.{class_before, class_of, declaring, is_same_or_base, is_static_at, member_over, object_called, or_own, shared, then_within, within, written}
use Rattle.cxx_language_laws.proofs.Later.{QuietBy, quiet_answer, quiet_refusal}
use Rattle.cxx_language_laws.proofs.QuestionsTell.{DefaultsTell, QuestionsTell, quiet_by, same_by, if_by, then_by, then_by_from, from_by, give_by}
use Rattle.cxx_language_laws.proofs.Tells.{IsTold, ToldBy, tells_refusal, Answers}
use Rattle.cxx_language_laws.proofs.TellsConversions.{convert_each_tells, one_base_quiet}
use Rattle.cxx_language_laws.proofs.TellsMeans.{means_function_tells}
use Rattle.cxx_language_laws.proofs.TellsOperators.{misshapen_tells}
use Rattle.cxx_language_laws.proofs.TellsSteps.{kept_by_tells, step_tells, step_to_tells}

-- ---- a member of a class

-- what is known of the answer to the question of a member
pub record WithinTells (kept : CxxState → CxxState → Type 0) (told : CxxState → Ahead → Stopped → Type 0) (q : Questions) (class : ℕ) (label : Label) (state : CxxState) (ahead : Ahead) : Type 0 where
  pub answers : ToldBy kept told state ahead (q.member class (path_in label) state)
  pub unknown : (one : List Numbered × CxxState) → q.member class (path_in label) state ≡ Ok one → one.0 ≡ [] → told one.1 ahead (undeclared_at (word_in label).place (word_in label).word)

-- 3.4.5: the same behind that to the question of the class in which it is looked up
pub record MemberTells (kept : CxxState → CxxState → Type 0) (told : CxxState → Ahead → Stopped → Type 0) (q : Questions) (class : ℕ) (label : Label) (state : CxxState) (ahead : Ahead) : Type 0 where
  pub naming : ToldBy kept told state ahead (q.naming class (path_in label) state)
  pub members : (one : ℕ × CxxState) → q.naming class (path_in label) state ≡ Ok one → WithinTells kept told q one.0 label one.1 ahead

selected_function_tells : {kept : CxxState → CxxState → Type 0} {told : CxxState → Ahead → Stopped → Type 0} → IsTold kept told → (part : CxxPathPart) (behind : List ℕ) (graph : CxxGraph) (kind : MemberKind) (target : ℕ) (of : CxxType) (all : List Numbered) → Answers kept told (selected_function part behind graph kind target of all)
selected_function_tells is part behind graph kind target of all state ahead =
    if_by (is_called_by behind) (same_by is (means_object graph target of) state ahead) (if_by (is_closed_by behind) (quiet_by is refl) (means_function_tells is part.place graph kind target of all state ahead))

selected_first_tells : {kept : CxxState → CxxState → Type 0} {told : CxxState → Ahead → Stopped → Type 0} → IsTold kept told → (part : CxxPathPart) (behind : List ℕ) (object : CxxOperand) (graph : CxxGraph) (list : Option ℕ) (all : List Numbered) (number : ℕ) (what : Declares) → Answers kept told (selected_first part behind object graph list all number what)
selected_first_tells is part behind object graph list all number (facts.object of kind is_mutable value first) state ahead = give_by is (means_data graph object (first_or number first) kind is_mutable of) state ahead
selected_first_tells is part behind object graph list all number (facts.enumerator n value) state ahead = give_by is (means_enumerator list number n value) state ahead
selected_first_tells is part behind object graph list all number (facts.function of kind flags defaults first) state ahead = selected_function_tells is part behind graph kind (first_or number first) of all state ahead
selected_first_tells is part behind object graph list all number _ state ahead = quiet_by is refl

-- a name that has no declarations at all is told of
selected_value_tells : {kept : CxxState → CxxState → Type 0} {told : CxxState → Ahead → Stopped → Type 0} → IsTold kept told → (part : CxxPathPart) (behind : List ℕ) (object : CxxOperand) (all values : List Numbered) (state : CxxState) (ahead : Ahead) → (all ≡ [] → told state ahead (undeclared_at part.place part.word)) → ToldBy kept told state ahead (selected_value part behind object all values state)
selected_value_tells is part behind object [] [] state ahead unknown = tells_refusal _ (unknown refl)
selected_value_tells is part behind object (one ∷ others) [] state ahead unknown = quiet_by is refl
selected_value_tells is part behind object all (one ∷ others) state ahead unknown = selected_first_tells is part behind object state.graph state.here.enumeration (one ∷ others) one.number one.fact.what state ahead

-- ---- whether an object is one of a class

abbrev fitting : Place → Bool → Answer (Unit {0})
fitting place fits = if fits then Ok tt else Err (fault place says.OperandsDoNotFit)

fitting_quiet : (place : Place) (fits : Bool) → QuietBy (fitting place fits)
fitting_quiet place true = quiet_answer tt
fitting_quiet place false = quiet_refusal _ refl

within_quiet : (graph : CxxGraph) (place : Place) (from : CxxType) (to : Option CxxType) → QuietBy (within graph place from to)
within_quiet graph place from None = quiet_answer tt
within_quiet graph place from (Some to) = fitting_quiet place (is_same_or_base graph (class_of from) (class_of to))

shared_quiet : (graph : CxxGraph) (place : Place) (of : CxxType) (class declared : Option CxxType) → QuietBy (shared graph place of class declared)
shared_quiet graph place of class declared = by (within_quiet graph place of class)
  where
    by : {done : Answer (Unit {0})} → QuietBy done → QuietBy (then_within graph place (or_own class of) declared done)
    by (quiet_answer one) = within_quiet graph place (or_own class of) declared
    by (quiet_refusal why quiet) = quiet_refusal why quiet

-- ---- the object of a data member

has_one_quiet : (graph : CxxGraph) (place : Place) (class : CxxType) (declared : Option CxxType) → QuietBy (has_one graph place class declared)
has_one_quiet graph place class None = quiet_answer tt
has_one_quiet graph place class (Some declared) = by (within_quiet graph place class (Some declared))
  where
    by : {done : Answer (Unit {0})} → QuietBy done → QuietBy (one_if graph place class declared done)
    by (quiet_answer one) = one_base_quiet graph place (object_operand class) declared
    by (quiet_refusal why quiet) = quiet_refusal why quiet

reached_tells : {kept : CxxState → CxxState → Type 0} {told : CxxState → Ahead → Stopped → Type 0} → IsTold kept told → (tree : CxxTree) (class : CxxType) (means : Means) (object : CxxTree) (lvalue : Bool) → Answers kept told (reached tree class means object lvalue)
reached_tells is tree class means object lvalue state ahead = kept_by_tells is (has_one_quiet state.graph (word_in tree.label).place class (declaring state.graph means.target)) (placed_tree tree object means (class_of_value lvalue class)) state ahead

placed_on_tells : {kept : CxxState → CxxState → Type 0} {told : CxxState → Ahead → Stopped → Type 0} → IsTold kept told → (q : Questions) (tree : CxxTree) (of class : CxxType) (means : Means) (object : CxxTree) → Answers kept told (placed_on q tree of class means object)
unfolding placed_on
placed_on_tells is q tree of class means object state ahead = then_by is (step_tells is q (word_in tree.label).place of of class object state ahead) (λ base. reached_tells is tree class means base (operand_of object).lvalue)

placed_by_tells : {kept : CxxState → CxxState → Type 0} {told : CxxState → Ahead → Stopped → Type 0} → IsTold kept told → (q : Questions) (tree : CxxTree) (of class : CxxType) (means : Means) (one : Option CxxTree) → Answers kept told (placed_by q tree of class means one)
placed_by_tells is q tree of class means None state ahead = misshapen_tells is tree state ahead
placed_by_tells is q tree of class means (Some one) state ahead = placed_on_tells is q tree of class means (object_called tree of one) state ahead

placed_tells : {kept : CxxState → CxxState → Type 0} {told : CxxState → Ahead → Stopped → Type 0} → IsTold kept told → (q : Questions) (tree : CxxTree) (of : CxxType) (parts : List CxxTree) (class : Option CxxType) (means : Means) → Answers kept told (placed q tree of parts class means)
placed_tells is q tree of parts None means state ahead = kept_by_tells is (has_one_quiet state.graph (word_in tree.label).place of (declaring state.graph means.target)) (data_tree tree parts means None) state ahead
placed_tells is q tree of parts (Some class) means state ahead = placed_by_tells is q tree of class means (only parts) state ahead

-- ---- any member that is not called

selected_object_tells : {kept : CxxState → CxxState → Type 0} {told : CxxState → Ahead → Stopped → Type 0} → IsTold kept told → (q : Questions) (tree : CxxTree) (of : CxxType) (parts : List CxxTree) (class : Option CxxType) (means : Means) → Answers kept told (selected_object q tree of parts class means)
selected_object_tells is q tree of parts class means state ahead = if_by (is_static_at state.graph means.target) (kept_by_tells is (shared_quiet state.graph (word_in tree.label).place of class (declaring state.graph means.target)) (data_tree tree parts means (static_before state.graph of class (declaring state.graph means.target) means.target)) state ahead) (placed_tells is q tree of parts class means state ahead)

selected_as_tells : {kept : CxxState → CxxState → Type 0} {told : CxxState → Ahead → Stopped → Type 0} → IsTold kept told → (q : Questions) (tree : CxxTree) (of : CxxType) (parts : List CxxTree) (class : Option CxxType) (means : Means) (is_enumerator : Bool) → Answers kept told (selected_as q tree of parts class means is_enumerator)
selected_as_tells is q tree of parts class means true state ahead = kept_by_tells is (shared_quiet state.graph (word_in tree.label).place of class (declaring state.graph means.target)) (enumerator_tree tree means) state ahead
selected_as_tells is q tree of parts class means false state ahead = selected_object_tells is q tree of parts class means state ahead

selected_noted_tells : {kept : CxxState → CxxState → Type 0} {told : CxxState → Ahead → Stopped → Type 0} → IsTold kept told → {q : Questions} → QuestionsTell kept told q → (tree : CxxTree) (object : CxxOperand) (parts : List CxxTree) (class : Option CxxType) (means : Means) → Answers kept told (selected_noted q tree object parts class means)
unfolding selected_noted
selected_noted_tells is {q = q} asks tree object parts class means state ahead = then_by is (asks.bound (word_in tree.label).place means.target state ahead) (λ noted. selected_as_tells is q tree object.of parts class means means.is_enumerator)

selected_as_meant_tells : {kept : CxxState → CxxState → Type 0} {told : CxxState → Ahead → Stopped → Type 0} → IsTold kept told → {q : Questions} → QuestionsTell kept told q → (tree : CxxTree) (object : CxxOperand) (parts : List CxxTree) (class : Option CxxType) (means : Means) → Answers kept told (selected_as_meant q tree object parts class means)
selected_as_meant_tells is asks tree object parts class means state ahead = if_by (is_put_off state.graph tree.label means) (same_by is (function_tree tree object parts means) state ahead) (selected_noted_tells is asks tree object parts class means state ahead)

-- a name that has these declarations as a member, given the class that is written before it
pub selected_among_tells : {kept : CxxState → CxxState → Type 0} {told : CxxState → Ahead → Stopped → Type 0} → IsTold kept told → {q : Questions} → QuestionsTell kept told q → (tree : CxxTree) (object : CxxOperand) (parts : List CxxTree) (class : Option CxxType) (all : List Numbered) (state : CxxState) (ahead : Ahead) → (all ≡ [] → told state ahead (undeclared_at (word_in tree.label).place (word_in tree.label).word)) → ToldBy kept told state ahead (selected_among q tree object parts class all state)
unfolding selected_by
selected_among_tells is asks tree object parts class all state ahead unknown = then_by is (selected_value_tells is (word_in tree.label) tree.label.spelling object all (values_among state.graph all) state ahead unknown) (selected_as_meant_tells is asks tree object parts class)

selected_within_tells : {kept : CxxState → CxxState → Type 0} {told : CxxState → Ahead → Stopped → Type 0} → IsTold kept told → {q : Questions} → QuestionsTell kept told q → (tree : CxxTree) (object : CxxOperand) (parts : List CxxTree) (class : ℕ) (state : CxxState) (ahead : Ahead) → WithinTells kept told q class tree.label state ahead → ToldBy kept told state ahead (selected_within q tree object parts class state)
selected_within_tells is asks tree object parts class state ahead tells =
    then_by_from _ tells.answers (λ one is_so keeps. from_by is state one.1 ahead keeps (selected_among_tells is asks tree object parts (written (path_in tree.label) (Some class)) one.0 one.1 ahead (tells.unknown one is_so)))

selected_in_tells : {kept : CxxState → CxxState → Type 0} {told : CxxState → Ahead → Stopped → Type 0} → IsTold kept told → {q : Questions} → QuestionsTell kept told q → (tree : CxxTree) (object : CxxOperand) (parts : List CxxTree) (class : ℕ) (state : CxxState) (ahead : Ahead) → MemberTells kept told q class tree.label state ahead → ToldBy kept told state ahead (selected_in q tree object parts class state)
unfolding selected_in
selected_in_tells is asks tree object parts class state ahead tells =
    then_by_from _ tells.naming (λ one is_so keeps. from_by is state one.1 ahead keeps (selected_within_tells is asks tree object parts one.0 one.1 ahead (tells.members one is_so)))

pub selected_from_tells : {kept : CxxState → CxxState → Type 0} {told : CxxState → Ahead → Stopped → Type 0} → IsTold kept told → {q : Questions} → QuestionsTell kept told q → (tree : CxxTree) (object : CxxOperand) (parts : List CxxTree) (state : CxxState) (ahead : Ahead) → ((class : ℕ) → class_of_object object ≡ Some class → MemberTells kept told q class tree.label state ahead) → ToldBy kept told state ahead (selected_from q tree object parts state)
selected_from_tells {kept = kept} {told = told} is {q = q} asks tree object parts state ahead tells = by (class_of_object object) refl
  where
    by : (o : Option ℕ) → class_of_object object ≡ o → ToldBy kept told state ahead (selected_of q tree object parts o state)
    by None e = quiet_by is refl
    by (Some class) e = selected_in_tells is asks tree object parts class state ahead (tells class e)

-- ---- `->`

-- what is known of a member of what is pointed to, in the state in which the pointer is converted
abbrev pub PointedTells : (CxxState → CxxState → Type 0) → (CxxState → Ahead → Stopped → Type 0) → Questions → CxxTree → CxxTree → CxxState → Ahead → CxxBuiltIn → Type 0
PointedTells kept told q tree one state ahead meaning =
    (class : ℕ) (parts : List CxxTree) (at : CxxState) → convert_each q tree.label.place meaning.operands [] (one ∷ []) state ≡ Ok (parts, at) → kept state at → class_of_object (built_operand meaning) ≡ Some class → MemberTells kept told q class tree.label at ahead

pointed_tells : {kept : CxxState → CxxState → Type 0} {told : CxxState → Ahead → Stopped → Type 0} → IsTold kept told → {q : Questions} → QuestionsTell kept told q → (tree one : CxxTree) (meaning : CxxBuiltIn) (state : CxxState) (ahead : Ahead) → PointedTells kept told q tree one state ahead meaning → ToldBy kept told state ahead (pointed q tree (one ∷ []) meaning state)
unfolding pointed
pointed_tells is {q = q} asks tree one meaning state ahead tells =
    then_by_from _ (convert_each_tells is q tree.label.place meaning.operands [] (one ∷ []) state ahead) (λ converted is_so keeps. from_by is state converted.1 ahead keeps (selected_from_tells is asks tree (built_operand meaning) converted.0 converted.1 ahead (λ class so. tells class converted.0 converted.1 is_so keeps so)))

pub arrow_of_tells : {kept : CxxState → CxxState → Type 0} {told : CxxState → Ahead → Stopped → Type 0} → IsTold kept told → {q : Questions} → QuestionsTell kept told q → (tree one : CxxTree) (state : CxxState) (ahead : Ahead) → ((meaning : CxxBuiltIn) → built_in_result state.graph punct.STAR (operand_of one ∷ []) ≡ Ok (Some meaning) → PointedTells kept told q tree one state ahead meaning) → ToldBy kept told state ahead (arrow_of q tree (Some one) state)
arrow_of_tells {kept = kept} {told = told} is {q = q} asks tree one state ahead tells = if_by (is_of_class one) (quiet_by is refl) (by (built_in_result state.graph punct.STAR (operand_of one ∷ [])) refl)
  where
    by : (found : Asked (Option CxxBuiltIn)) → built_in_result state.graph punct.STAR (operand_of one ∷ []) ≡ found → ToldBy kept told state ahead (with_meaning (meaning_at tree.label.place found) (pointed q tree (one ∷ [])) state)
    by (Ok (Some meaning)) e = pointed_tells is asks tree one meaning state ahead (tells meaning e)
    by (Ok None) e = quiet_by is refl
    by (Err class) e = quiet_by is refl

-- ---- default arguments (8.3.6)

fallback_more_tells : {kept : CxxState → CxxState → Type 0} {told : CxxState → Ahead → Stopped → Type 0} → IsTold kept told → {q : Questions} → {path : CxxPath} → DefaultsTell kept told q path → (target index : ℕ) (done : List CxxTree) → Answers kept told (fallback_more q path target index done)
unfolding fallback_more
fallback_more_tells is asks target index done state ahead = then_by is (asks.fallback target index state ahead) (λ next. give_by is (done ++ next ∷ []))

pub fallbacks_tell : {kept : CxxState → CxxState → Type 0} {told : CxxState → Ahead → Stopped → Type 0} → IsTold kept told → {q : Questions} → {path : CxxPath} → DefaultsTell kept told q path → (target index : ℕ) (done : List CxxTree) (count : ℕ) → Answers kept told (fallbacks q path target index done count)
unfolding fallbacks
fallbacks_tell is asks target index done zero state ahead = give_by is done state ahead
fallbacks_tell is asks target index done (suc count) state ahead = then_by is (fallback_more_tells is asks target index done state ahead) (λ more. fallbacks_tell is asks target (index + 1) more count)

-- ---- a call of a member (13.3.1.1.1)

-- those that are asked for by the name alone
alone_tells : {kept : CxxState → CxxState → Type 0} {told : CxxState → Ahead → Stopped → Type 0} {q : Questions} → QuestionsTell kept told q → (part : CxxPathPart) → DefaultsTell kept told q (name_alone part)
alone_tells asks part = record { fallback = asks.alone part }

member_converted_tells : {kept : CxxState → CxxState → Type 0} {told : CxxState → Ahead → Stopped → Type 0} → IsTold kept told → (q : Questions) (tree : CxxTree) (place : Place) (callee : CxxTree) (arguments : List CxxTree) (chosen : CxxChosen) (behind : List CxxTree) → Answers kept told (member_converted q tree place callee arguments chosen behind)
unfolding member_converted
member_converted_tells is q tree place callee arguments chosen behind state ahead = then_by is (convert_each_tells is q place chosen.parameters (callee ∷ []) arguments state ahead) (λ parts. give_by is (member_call_tree tree place chosen (parts ++ behind)))

-- as one of the class that is written, and of the class that declares the function (10.2)
based_on_tells : {kept : CxxState → CxxState → Type 0} {told : CxxState → Ahead → Stopped → Type 0} → IsTold kept told → (q : Questions) (callee : CxxTree) (of : CxxType) (class declared : Option CxxType) (object : CxxTree) → Answers kept told (based_on q callee of class declared object)
unfolding based_on
based_on_tells is q callee of class declared object state ahead =
    then_by is (step_to_tells is q (word_in callee.label).place of of class object state ahead) (λ first state ahead.
    then_by is (step_to_tells is q (word_in callee.label).place of (or_own class of) declared first state ahead) (λ second.
    give_by is (member_over callee second (class_before (operand_of object).lvalue of class declared))))

based_by_tells : {kept : CxxState → CxxState → Type 0} {told : CxxState → Ahead → Stopped → Type 0} → IsTold kept told → (q : Questions) (callee : CxxTree) (of : CxxType) (class declared : Option CxxType) (one : Option CxxTree) → Answers kept told (based_by q callee of class declared one)
based_by_tells is q callee of class declared None state ahead = misshapen_tells is callee state ahead
based_by_tells is q callee of class declared (Some one) state ahead = based_on_tells is q callee of class declared (object_called callee of one) state ahead

based_tells : {kept : CxxState → CxxState → Type 0} {told : CxxState → Ahead → Stopped → Type 0} → IsTold kept told → (q : Questions) (callee : CxxTree) (of : CxxType) (class : Option CxxType) (target : ℕ) → Answers kept told (based q callee of class target)
unfolding based
based_tells is q callee of class target state ahead =
    if_by (is_static_at state.graph target) (kept_by_tells is (shared_quiet state.graph (word_in callee.label).place of class (declaring state.graph target)) (qualified callee (class_before false of class (declaring state.graph target))) state ahead) (based_by_tells is q callee of class (declaring state.graph target) (only (children_of callee)) state ahead)

pub member_chosen_tells : {kept : CxxState → CxxState → Type 0} {told : CxxState → Ahead → Stopped → Type 0} → IsTold kept told → {q : Questions} → QuestionsTell kept told q → (tree callee : CxxTree) (of : CxxType) (class : Option CxxType) (arguments : List CxxTree) (chosen : CxxChosen) → Answers kept told (member_chosen q tree callee of class arguments chosen)
unfolding member_chosen
member_chosen_tells is {q = q} asks tree callee of class arguments chosen state ahead =
    then_by is (asks.bound (word_in callee.label).place chosen.target state ahead) (λ noted state ahead.
    then_by is (fallbacks_tell is (alone_tells asks (word_in callee.label)) chosen.target (length arguments) [] (length chosen.parameters - length arguments) state ahead) (λ behind state ahead.
    then_by is (based_tells is q callee of class chosen.target state ahead) (λ over state ahead.
    member_converted_tells is q tree (word_in over.label).place (callee_as over chosen state) arguments chosen behind state ahead)))

-- what is known of the answer to the question of the members with the name that is called, and to that of which is meant
pub record FunctionsTell (kept : CxxState → CxxState → Type 0) (told : CxxState → Ahead → Stopped → Type 0) (q : Questions) (callee : Label) (of : CxxType) (class : ℕ) (arguments : List CxxTree) (state : CxxState) (ahead : Ahead) : Type 0 where
  pub answers : ToldBy kept told state ahead (q.member class (path_in callee) state)
  pub chosen : (one : List Numbered × CxxState) → q.member class (path_in callee) state ≡ Ok one → ToldBy kept told one.1 ahead (q.call (member_question q callee of (values_among one.1.graph one.0) arguments one.1) one.1)

-- 3.4.5: the same behind that to the question of the class in which it is looked up
pub record CalleeTells (kept : CxxState → CxxState → Type 0) (told : CxxState → Ahead → Stopped → Type 0) (q : Questions) (callee : Label) (of : CxxType) (class : ℕ) (arguments : List CxxTree) (state : CxxState) (ahead : Ahead) : Type 0 where
  pub naming : ToldBy kept told state ahead (q.naming class (path_in callee) state)
  pub functions : (one : ℕ × CxxState) → q.naming class (path_in callee) state ≡ Ok one → FunctionsTell kept told q callee of one.0 arguments one.1 ahead

member_within_tells : {kept : CxxState → CxxState → Type 0} {told : CxxState → Ahead → Stopped → Type 0} → IsTold kept told → {q : Questions} → QuestionsTell kept told q → (tree callee : CxxTree) (of : CxxType) (arguments : List CxxTree) (class : ℕ) (state : CxxState) (ahead : Ahead) → FunctionsTell kept told q callee.label of class arguments state ahead → ToldBy kept told state ahead (member_within q tree callee of arguments class state)
unfolding member_among member_function_call
member_within_tells is asks tree callee of arguments class state ahead tells =
    then_by_from _ tells.answers (λ one is_so keeps. from_by is state one.1 ahead keeps (then_by is (tells.chosen one is_so) (member_chosen_tells is asks tree callee of (written (path_in callee.label) (Some class)) arguments)))

member_in_tells : {kept : CxxState → CxxState → Type 0} {told : CxxState → Ahead → Stopped → Type 0} → IsTold kept told → {q : Questions} → QuestionsTell kept told q → (tree callee : CxxTree) (of : CxxType) (arguments : List CxxTree) (class : ℕ) (state : CxxState) (ahead : Ahead) → CalleeTells kept told q callee.label of class arguments state ahead → ToldBy kept told state ahead (member_in q tree callee of arguments class state)
unfolding member_in
member_in_tells is asks tree callee of arguments class state ahead tells =
    then_by_from _ tells.naming (λ one is_so keeps. from_by is state one.1 ahead keeps (member_within_tells is asks tree callee of arguments one.0 one.1 ahead (tells.functions one is_so)))

-- what is known of both for each class that its object may have
abbrev pub MembersTell : (CxxState → CxxState → Type 0) → (CxxState → Ahead → Stopped → Type 0) → Questions → Label → List CxxTree → CxxState → Ahead → Type 0
MembersTell kept told q callee arguments state ahead = (of : CxxType) (class : ℕ) → callee.of ≡ Some of → class_of_object (object_operand of) ≡ Some class → CalleeTells kept told q callee of class arguments state ahead

pub member_call_tells : {kept : CxxState → CxxState → Type 0} {told : CxxState → Ahead → Stopped → Type 0} → IsTold kept told → {q : Questions} → QuestionsTell kept told q → (tree callee : CxxTree) (arguments : List CxxTree) (state : CxxState) (ahead : Ahead) → MembersTell kept told q callee.label arguments state ahead → ToldBy kept told state ahead (member_call q tree callee arguments state)
unfolding member_call
member_call_tells {kept = kept} {told = told} is {q = q} asks tree callee arguments state ahead tells = typed callee.label.of refl
  where
    of_class : (of : CxxType) → callee.label.of ≡ Some of → (o : Option ℕ) → class_of_object (object_operand of) ≡ o → ToldBy kept told state ahead (member_of q tree callee of arguments o state)
    of_class of e None so = misshapen_tells is tree state ahead
    of_class of e (Some class) so = member_in_tells is asks tree callee of arguments class state ahead (tells of class e so)

    typed : (o : Option CxxType) → callee.label.of ≡ o → ToldBy kept told state ahead (member_typed q tree callee arguments o state)
    typed None e = misshapen_tells is tree state ahead
    typed (Some of) e = of_class of e (class_of_object (object_operand of)) refl
