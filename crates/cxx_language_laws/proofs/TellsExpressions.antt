-- What is kept of the state, and what stops the unit, where it is found what an expression or an initializer means.
use Rattle.std.proofs.Common.{◌≡◌, refl}
use Rattle.std.specs.Prelude.{ℕ, zero, Bool, true, false, ◌||◌, nat_eq, List, [], ◌∷◌, length, Option, Some, None, Ok}
use Rattle.cxx_model.specs.declared.place.Place.{Place}
use Rattle.cxx_model.specs.declared.punct.TheConstants as punct
use Rattle.cxx_model.specs.Stops.{Stopped}
use Rattle.cxx_model.specs.Types.Trees.{CxxType, CxxBound, array_of, number_bound}
use Rattle.cxx_meaning.specs.Conversions.BuiltIn.{CxxBuiltIn, built_in_result}
use Rattle.cxx_meaning.specs.Conversions.Kinds.{kind_of}
use Rattle.cxx_meaning.specs.Conversions.Standard.{is_class}
use Rattle.cxx_reading.specs.Initializers.{operand_of}
use Rattle.cxx_reading.specs.Reads.{Ahead, Asks}
use Rattle.cxx_reading.specs.Seen.{Numbered}
use Rattle.cxx_reading.specs.State.{CxxState}
use Rattle.cxx_reading.specs.Trees.{CxxPath, CxxTree, children_of, each_tree, in_turn}
use Rattle.cxx_phrases.specs.Forms.{name_tree, call_tree, called_tree, member_tree}
use Rattle.cxx_phrases.specs.Productions as phrase
use Rattle.cxx_this.specs.This.{this_object}
use Rattle.cxx_expr.specs.declared.production.TheConstants as production
use Rattle.cxx_expr.specs.Calls.{call, calls_member, expression_call}
use Rattle.cxx_expr.specs.Elaborating.{bracketed, over_one, parenthesis, expressions_in, without_operand, operated, by_production, elaborate}
use Rattle.cxx_expr.specs.Initializing.{array_braces, array_from, array_part, array_whole, array_with, as_copy, bound_by, braces_part, element_in, elements, has_room, initialize, initialized, is_braces, is_made_of_class, is_nothing, is_text_for, list_part, nothing_by, one_less, one_of, part, text_count, text_in, text_part, text_whole, value_part, value_whole, wants_value, whole_by}
use Rattle.cxx_expr.specs.Members.{arrow, class_of_object, selected}
use Rattle.cxx_expr.specs.Implied.{name, this, this_by}
use Rattle.cxx_expr.specs.Names.{path_in}
use Rattle.cxx_expr.specs.Operands.{any_open, only}
use Rattle.cxx_expr.specs.Questions.{Questions}
use Rattle.cxx_language_laws.proofs.PhrasesTell.{IsPlain, is_named}
use Rattle.cxx_language_laws.proofs.QuestionsTell.{DefaultsTell, QuestionsTell, quiet_by, same_by, if_by, when_by, no_by, then_by, give_by}
use Rattle.cxx_language_laws.proofs.Tells.{IsTold, ToldBy, Answers}
use Rattle.cxx_language_laws.proofs.TellsConversions.{literal_tells, convert_tells, size_tells}
use Rattle.cxx_language_laws.proofs.TellsMembers.{MemberTells, MembersTell, PointedTells, arrow_of_tells, member_call_tells, selected_from_tells}
use Rattle.cxx_language_laws.proofs.TellsNames.{AskedOf, CalledTells, NameTells, through_tells, name_call_tells, name_alone_tells}
use Rattle.cxx_language_laws.proofs.TellsOperators.{misshapen_tells, prefix_tells, step_tells, binary_tells, conditional_tells, cast_tells, functional_tells}

-- ---- expressions without names

bracketed_tells : {kept : CxxState → CxxState → Type 0} {told : CxxState → Ahead → Stopped → Type 0} → IsTold kept told → (tree : CxxTree) (one : Option CxxTree) → Answers kept told (bracketed tree one)
bracketed_tells is tree None = misshapen_tells is tree
bracketed_tells is tree (Some one) = give_by is (over_one tree one)

parenthesis_tells : {kept : CxxState → CxxState → Type 0} {told : CxxState → Ahead → Stopped → Type 0} → IsTold kept told → (tree : CxxTree) → Answers kept told (parenthesis tree)
unfolding parenthesis
parenthesis_tells is tree = bracketed_tells is tree (only (children_of tree))

-- 9.3.2
this_by_tells : {kept : CxxState → CxxState → Type 0} {told : CxxState → Ahead → Stopped → Type 0} → IsTold kept told → (tree : CxxTree) (object : Option CxxType) → Answers kept told (this_by tree object)
this_by_tells is tree None state ahead = quiet_by is refl
this_by_tells is tree (Some of) state ahead = give_by is _ state ahead

this_tells : {kept : CxxState → CxxState → Type 0} {told : CxxState → Ahead → Stopped → Type 0} → IsTold kept told → (tree : CxxTree) → Answers kept told (this tree)
unfolding this
this_tells is tree state ahead = this_by_tells is tree (this_object state) state ahead

-- it is no name, no call, and no member of an object
neither : (one two : Bool) → (one || two) ≡ false → (one ≡ false) × (two ≡ false)
neither true two e = absurd cc
neither false two e = (refl, e)

record IsNone (number : ℕ) : Type 0 where
  no_name : nat_eq number production.NAME ≡ false
  no_call : nat_eq number production.CALL ≡ false
  no_member : nat_eq number production.MEMBER ≡ false
  no_arrow : nat_eq number production.ARROW ≡ false

is_none_of : (number : ℕ) → is_named number ≡ false → IsNone number
is_none_of number plain =
    let named = neither (nat_eq number production.NAME) (nat_eq number production.CALL || (nat_eq number production.MEMBER || nat_eq number production.ARROW)) plain in
    let called = neither (nat_eq number production.CALL) (nat_eq number production.MEMBER || nat_eq number production.ARROW) named.1 in
    let selected = neither (nat_eq number production.MEMBER) (nat_eq number production.ARROW) called.1 in
    record { no_name = named.0; no_call = called.0; no_member = selected.0; no_arrow = selected.1 }

operated_tells : {kept : CxxState → CxxState → Type 0} {told : CxxState → Ahead → Stopped → Type 0} → IsTold kept told → (q : Questions) (tree : CxxTree) → IsPlain tree → Answers kept told (operated q tree)
operated_tells is q tree plain state ahead =
    no_by (nat_eq tree.label.production production.MEMBER) _ (is_none_of tree.label.production plain).no_member (
    no_by (nat_eq tree.label.production production.ARROW) _ (is_none_of tree.label.production plain).no_arrow (
    if_by (nat_eq tree.label.production production.SUBSCRIPT) (binary_tells is q tree punct.LEFT_BRACKET state ahead) (
    if_by (nat_eq tree.label.production production.STEP) (step_tells is q tree state ahead) (
    if_by (nat_eq tree.label.production production.PREFIX) (prefix_tells is q tree state ahead) (
    if_by (nat_eq tree.label.production production.BINARY) (binary_tells is q tree _ state ahead) (
    if_by (nat_eq tree.label.production production.CONDITIONAL) (conditional_tells is q tree state ahead) (
    if_by (nat_eq tree.label.production production.ASSIGNMENT) (binary_tells is q tree _ state ahead) (
    if_by (nat_eq tree.label.production production.THIS) (this_tells is tree state ahead)
    (misshapen_tells is tree state ahead)))))))))

by_production_tells : {kept : CxxState → CxxState → Type 0} {told : CxxState → Ahead → Stopped → Type 0} → IsTold kept told → {q : Questions} → QuestionsTell kept told q → (tree : CxxTree) → IsPlain tree → Answers kept told (by_production q tree)
unfolding by_production
by_production_tells is {q = q} asks tree plain state ahead =
    if_by (nat_eq tree.label.production production.LITERAL) (literal_tells is tree state ahead) (
    no_by (nat_eq tree.label.production production.NAME) _ (is_none_of tree.label.production plain).no_name (
    if_by (nat_eq tree.label.production production.PARENTHESIS) (parenthesis_tells is tree state ahead) (
    no_by (nat_eq tree.label.production production.CALL) _ (is_none_of tree.label.production plain).no_call (
    if_by (nat_eq tree.label.production production.FUNCTIONAL_CAST) (functional_tells is q tree state ahead) (
    if_by (nat_eq tree.label.production production.SIZE) (size_tells is asks tree state ahead) (
    if_by (nat_eq tree.label.production production.CAST) (cast_tells is q tree state ahead)
    (operated_tells is q tree plain state ahead)))))))

pub plain_tells : {kept : CxxState → CxxState → Type 0} {told : CxxState → Ahead → Stopped → Type 0} → IsTold kept told → {q : Questions} → QuestionsTell kept told q → (tree : CxxTree) → IsPlain tree → Answers kept told (elaborate q tree)
unfolding elaborate
plain_tells is asks tree plain state ahead = if_by (any_open (expressions_in tree)) (same_by is (without_operand tree) state ahead) (by_production_tells is asks tree plain state ahead)

-- ---- names

pub name_tells : {kept : CxxState → CxxState → Type 0} {told : CxxState → Ahead → Stopped → Type 0} → IsTold kept told → {q : Questions} → QuestionsTell kept told q → (path : CxxPath) (from to : Ahead) (state : CxxState) (ahead : Ahead) → NameTells kept told q (name_tree path from to).label state ahead → ToldBy kept told state ahead (elaborate q (name_tree path from to) state)
unfolding elaborate by_production name
name_tells is asks path from to state ahead tells = name_alone_tells is asks (name_tree path from to).label state ahead tells

pub call_tells : {kept : CxxState → CxxState → Type 0} {told : CxxState → Ahead → Stopped → Type 0} → IsTold kept told → {q : Questions} → QuestionsTell kept told q → (spelling : List ℕ) (path : CxxPath) → DefaultsTell kept told q path → (arguments : List CxxTree) (from to : Ahead) (state : CxxState) (ahead : Ahead) → CalledTells kept told q (call_tree spelling path arguments from to).label state ahead
    → ((one : List Numbered × CxxState) → q.name (path_in (call_tree spelling path arguments from to).label) state ≡ Ok one → AskedOf kept told q (call_tree spelling path arguments from to) (children_of (call_tree spelling path arguments from to)) one.0 one.1 ahead)
    → ToldBy kept told state ahead (elaborate q (call_tree spelling path arguments from to) state)
unfolding elaborate by_production call
call_tells is asks spelling path defaults arguments from to state ahead tells calls =
    let tree = call_tree spelling path arguments from to in
    if_by (any_open (expressions_in tree)) (same_by is (without_operand tree) state ahead) (name_call_tells is asks tree defaults (children_of tree) state ahead tells calls)

-- ---- calls of what was read

expression_call_tells : {kept : CxxState → CxxState → Type 0} {told : CxxState → Ahead → Stopped → Type 0} → IsTold kept told → {q : Questions} → QuestionsTell kept told q → (tree callee : CxxTree) (arguments : List CxxTree) (state : CxxState) (ahead : Ahead) → (calls_member state.graph callee.label ≡ true → MembersTell kept told q callee.label arguments state ahead) → ToldBy kept told state ahead (expression_call q tree (Some (callee, arguments)) state)
expression_call_tells is {q = q} asks tree callee arguments state ahead tells = when_by (calls_member state.graph callee.label) (λ is_member. member_call_tells is asks tree callee arguments state ahead (tells is_member)) (λ no_member. through_tells is q tree callee arguments state ahead)

pub through_call_tells : {kept : CxxState → CxxState → Type 0} {told : CxxState → Ahead → Stopped → Type 0} → IsTold kept told → {q : Questions} → QuestionsTell kept told q → (callee : CxxTree) (arguments : List CxxTree) (from to : Ahead) (state : CxxState) (ahead : Ahead) → (calls_member state.graph callee.label ≡ true → MembersTell kept told q callee.label (each_tree (in_turn arguments)) state ahead)
    → ToldBy kept told state ahead (elaborate q (called_tree callee arguments from to) state)
unfolding elaborate by_production call
through_call_tells is asks callee arguments from to state ahead tells =
    let tree = called_tree callee arguments from to in
    if_by (any_open (expressions_in tree)) (same_by is (without_operand tree) state ahead) (expression_call_tells is asks tree callee (each_tree (in_turn arguments)) state ahead tells)

-- ---- members of objects

pub member_tells : {kept : CxxState → CxxState → Type 0} {told : CxxState → Ahead → Stopped → Type 0} → IsTold kept told → {q : Questions} → QuestionsTell kept told q → (place : Place) (path : CxxPath) (object : CxxTree) (from to : Ahead) (state : CxxState) (ahead : Ahead) → ((class : ℕ) → class_of_object (operand_of object) ≡ Some class → MemberTells kept told q class (member_tree phrase.member place path object from to).label state ahead)
    → ToldBy kept told state ahead (elaborate q (member_tree phrase.member place path object from to) state)
unfolding elaborate by_production selected
member_tells is asks place path object from to state ahead tells =
    let tree = member_tree phrase.member place path object from to in
    if_by (any_open (expressions_in tree)) (same_by is (without_operand tree) state ahead) (selected_from_tells is asks tree (operand_of object) (object ∷ []) state ahead tells)

pub arrow_tells : {kept : CxxState → CxxState → Type 0} {told : CxxState → Ahead → Stopped → Type 0} → IsTold kept told → {q : Questions} → QuestionsTell kept told q → (place : Place) (path : CxxPath) (object : CxxTree) (from to : Ahead) (state : CxxState) (ahead : Ahead) → ((meaning : CxxBuiltIn) → built_in_result state.graph punct.STAR (operand_of object ∷ []) ≡ Ok (Some meaning) → PointedTells kept told q (member_tree phrase.arrow place path object from to) object state ahead meaning)
    → ToldBy kept told state ahead (elaborate q (member_tree phrase.arrow place path object from to) state)
unfolding elaborate by_production arrow
arrow_tells is asks place path object from to state ahead tells =
    let tree = member_tree phrase.arrow place path object from to in
    if_by (any_open (expressions_in tree)) (same_by is (without_operand tree) state ahead) (arrow_of_tells is asks tree object state ahead tells)

-- ---- initializers

one_of_tells : {kept : CxxState → CxxState → Type 0} {told : CxxState → Ahead → Stopped → Type 0} → IsTold kept told → (q : Questions) (place : Place) (of : CxxType) (parts : List CxxTree) → Answers kept told (one_of q place of parts)
one_of_tells is q place of (one ∷ []) state ahead = if_by (is_braces one) (quiet_by is refl) (convert_tells is q place of one state ahead)
one_of_tells is q place of [] state ahead = quiet_by is refl
one_of_tells is q place of (one ∷ two ∷ others) state ahead = quiet_by is refl

value_part_tells : {kept : CxxState → CxxState → Type 0} {told : CxxState → Ahead → Stopped → Type 0} → IsTold kept told → (q : Questions) (of : CxxType) (tree : CxxTree) → Answers kept told (value_part q of tree)
value_part_tells is q of tree state ahead = if_by (is_class (kind_of of)) (quiet_by is refl) (if_by (is_braces tree) (one_of_tells is q tree.label.start of (children_of tree) state ahead) (convert_tells is q tree.label.start of tree state ahead))

element_in_tells : {kept : CxxState → CxxState → Type 0} {told : CxxState → Ahead → Stopped → Type 0} → IsTold kept told → (place : Place) (element : CxxTree → Asks CxxState CxxTree) → ((one : CxxTree) → Answers kept told (element one)) → (bound : CxxBound) (one : CxxTree) → Answers kept told (element_in place element bound one)
element_in_tells is place element tells (number_bound zero) one state ahead = quiet_by is refl
element_in_tells is place element tells _ one state ahead = tells one state ahead

elements_tell : {kept : CxxState → CxxState → Type 0} {told : CxxState → Ahead → Stopped → Type 0} → IsTold kept told → (place : Place) (element : CxxTree → Asks CxxState CxxTree) → ((one : CxxTree) → Answers kept told (element one)) → (bound : CxxBound) (all : List CxxTree) → Answers kept told (elements place element bound all)
elements_tell is place element tells bound [] state ahead = give_by is [] state ahead
elements_tell is place element tells bound (one ∷ others) state ahead = then_by is (element_in_tells is place element tells bound one state ahead) (λ first state ahead. then_by is (elements_tell is place element tells (one_less bound) others state ahead) (λ rest. give_by is (first ∷ rest)))

text_part_tells : {kept : CxxState → CxxState → Type 0} {told : CxxState → Ahead → Stopped → Type 0} → IsTold kept told → (place : Place) (bound : CxxBound) (tree : CxxTree) → Answers kept told (text_part place bound tree)
text_part_tells is place bound tree state ahead = if_by (has_room bound (text_count tree)) (same_by is tree state ahead) (quiet_by is refl)

list_part_tells : {kept : CxxState → CxxState → Type 0} {told : CxxState → Ahead → Stopped → Type 0} → IsTold kept told → (place : Place) (element : CxxTree → Asks CxxState CxxTree) → ((one : CxxTree) → Answers kept told (element one)) → (of : CxxType) (bound : CxxBound) (tree : CxxTree) → Answers kept told (list_part place element of bound tree)
list_part_tells is place element tells of bound tree state ahead = then_by is (elements_tell is place element tells bound (children_of tree) state ahead) (λ parts. give_by is (initialized tree (array_of of (bound_by bound (length parts))) parts))

braces_part_tells : {kept : CxxState → CxxState → Type 0} {told : CxxState → Ahead → Stopped → Type 0} → IsTold kept told → (place : Place) (element : CxxTree → Asks CxxState CxxTree) → ((one : CxxTree) → Answers kept told (element one)) → (of : CxxType) (bound : CxxBound) (tree : CxxTree) (text : Option CxxTree) → Answers kept told (braces_part place element of bound tree text)
braces_part_tells is place element tells of bound tree (Some text) = text_part_tells is place bound text
braces_part_tells is place element tells of bound tree None = list_part_tells is place element tells of bound tree

array_part_tells : {kept : CxxState → CxxState → Type 0} {told : CxxState → Ahead → Stopped → Type 0} → IsTold kept told → (element : CxxTree → Asks CxxState CxxTree) → ((one : CxxTree) → Answers kept told (element one)) → (of : CxxType) (bound : CxxBound) (tree : CxxTree) → Answers kept told (array_part element of bound tree)
array_part_tells is element tells of bound tree state ahead = if_by (is_braces tree) (braces_part_tells is tree.label.start element tells of bound tree (text_in of (children_of tree)) state ahead) (if_by (is_text_for of tree) (text_part_tells is tree.label.start bound tree state ahead) (quiet_by is refl))

part_tells : {kept : CxxState → CxxState → Type 0} {told : CxxState → Ahead → Stopped → Type 0} → IsTold kept told → (q : Questions) (of : CxxType) (tree : CxxTree) → Answers kept told (part q of tree)
unfolding part
part_tells is q (array_of of bound) tree = array_part_tells is (part q of) (part_tells is q of) of bound tree
part_tells is q of tree = value_part_tells is q of tree

text_whole_tells : {kept : CxxState → CxxState → Type 0} {told : CxxState → Ahead → Stopped → Type 0} → IsTold kept told → (place : Place) (of : CxxType) (bound : CxxBound) (tree text : CxxTree) → Answers kept told (text_whole place of bound tree text)
text_whole_tells is place of bound tree text state ahead = then_by is (text_part_tells is place bound text state ahead) (λ fits. give_by is (as_copy tree (array_with of bound (text_count text)) (text ∷ [])))

array_braces_tells : {kept : CxxState → CxxState → Type 0} {told : CxxState → Ahead → Stopped → Type 0} → IsTold kept told → (q : Questions) (place : Place) (of : CxxType) (bound : CxxBound) (tree : CxxTree) (text : Option CxxTree) → Answers kept told (array_braces q place of bound tree text)
array_braces_tells is q place of bound tree (Some text) = text_whole_tells is place of bound tree text
array_braces_tells is q place of bound tree None = list_part_tells is place (part q of) (part_tells is q of) of bound tree

array_from_tells : {kept : CxxState → CxxState → Type 0} {told : CxxState → Ahead → Stopped → Type 0} → IsTold kept told → (q : Questions) (place : Place) (of : CxxType) (bound : CxxBound) (tree : CxxTree) (text : Option CxxTree) → Answers kept told (array_from q place of bound tree text)
array_from_tells is q place of bound tree (Some text) state ahead = text_whole_tells is place of bound tree text state ahead
array_from_tells is q place of bound tree None state ahead = quiet_by is refl

array_whole_tells : {kept : CxxState → CxxState → Type 0} {told : CxxState → Ahead → Stopped → Type 0} → IsTold kept told → (q : Questions) (place : Place) (of : CxxType) (bound : CxxBound) (tree : CxxTree) → Answers kept told (array_whole q place of bound tree)
unfolding array_whole
array_whole_tells is q place of bound tree state ahead = if_by (is_braces tree) (array_braces_tells is q place of bound tree (text_in of (children_of tree)) state ahead) (array_from_tells is q place of bound tree (text_in of (children_of tree)) state ahead)

value_whole_tells : {kept : CxxState → CxxState → Type 0} {told : CxxState → Ahead → Stopped → Type 0} → IsTold kept told → (q : Questions) (place : Place) (of : CxxType) (tree : CxxTree) → Answers kept told (value_whole q place of tree)
unfolding value_whole
value_whole_tells is q place of tree state ahead = then_by is (one_of_tells is q place of (children_of tree) state ahead) (λ value. give_by is (as_copy tree of (value ∷ [])))

whole_by_tells : {kept : CxxState → CxxState → Type 0} {told : CxxState → Ahead → Stopped → Type 0} → IsTold kept told → (q : Questions) (place : Place) (of : CxxType) (tree : CxxTree) → Answers kept told (whole_by q place of tree)
whole_by_tells is q place (array_of of bound) tree = array_whole_tells is q place of bound tree
whole_by_tells is q place of tree = value_whole_tells is q place of tree

nothing_by_tells : {kept : CxxState → CxxState → Type 0} {told : CxxState → Ahead → Stopped → Type 0} → IsTold kept told → (place : Place) (of : CxxType) (tree : CxxTree) → Answers kept told (nothing_by place of tree)
nothing_by_tells is place of tree state ahead = if_by (wants_value of) (quiet_by is refl) (same_by is (initialized tree of []) state ahead)

pub initialize_tells : {kept : CxxState → CxxState → Type 0} {told : CxxState → Ahead → Stopped → Type 0} → IsTold kept told → (q : Questions) (of : CxxType) (tree : CxxTree) → Answers kept told (initialize q of tree)
unfolding initialize
initialize_tells is q of tree state ahead =
    if_by (is_made_of_class of) (quiet_by is refl) (
    if_by (is_nothing tree.label.spelling) (nothing_by_tells is tree.label.place of tree state ahead)
    (whole_by_tells is q tree.label.place of tree state ahead))
