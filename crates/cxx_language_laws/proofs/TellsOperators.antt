-- What operators and casts keep of the state, and what stops them.
use Rattle.std.proofs.Common.{refl}
use Rattle.std.specs.Prelude.{ℕ, Bool, true, false, ◌||◌, nat_eq, if◌then◌else◌, bytes_eq, codes, List, [], ◌∷◌, Option, Some, None, Ok, Err}
use Rattle.cxx_model.specs.declared.base.Base.TheVariants as base
use Rattle.cxx_model.specs.declared.fault.FaultText.TheVariants as says
use Rattle.cxx_model.specs.declared.punct.TheConstants as punct
use Rattle.cxx_model.specs.declared.place.Place.{Place}
use Rattle.cxx_model.specs.Facts.Declarations.{CxxGraph}
use Rattle.cxx_model.specs.Stops.{Answer, Stopped, ◌>>=◌, fault, not_built_at}
use Rattle.cxx_model.specs.Types.Trees.{CxxType, fundamental}
use Rattle.cxx_meaning.specs.Conversions.Asking.{Asked}
use Rattle.cxx_meaning.specs.Conversions.BuiltIn.{CxxBuiltIn, bool_type, built_in_result}
use Rattle.cxx_meaning.specs.Conversions.Casts as casts
use Rattle.cxx_meaning.specs.Conversions.Casts.{CxxCast, by_const, by_reinterpret, by_reinterpret_and_const, by_static, by_static_and_const}
use Rattle.cxx_meaning.specs.Conversions.Conditional as conditional_operator
use Rattle.cxx_meaning.specs.Conversions.Kinds.{kind_of}
use Rattle.cxx_meaning.specs.Conversions.Standard.{CxxOperand, is_class}
use Rattle.cxx_reading.specs.Initializers.{operand_of, value_operand}
use Rattle.cxx_reading.specs.Reads.{Ahead, Asks}
use Rattle.cxx_reading.specs.State.{CxxState}
use Rattle.cxx_reading.specs.Trees.{CxxTree, children_of}
use Rattle.cxx_reading.specs.Units.{is_incomplete}
use Rattle.cxx_expr.specs.Bases.{is_only_base}
use Rattle.cxx_expr.specs.Casts.{allowed_at, class_needed_at, explicit_found, explicit_tree, found_at, leads_to_one, static_found, steps_to_one, explicit_by, explicit_built, needs_class, explicit, cast_over, named_by, static_by, static_built, static_cast_of, constant, reinterpreted, cast_as, split_last, cast_of, cast, has_zero, zero_tree, zero, several, functional_of, functional, target_of}
use Rattle.cxx_expr.specs.Operands.{all_three, asks_operator, both, built_operand, given_over, judged_beside, judged_to, only}
use Rattle.cxx_expr.specs.Operators.{misshapen, operator_in, meaning_at, with_meaning, built, built_by, unconverted, own_meaning, prefix_built, points_to_member, prefix_asked, prefix_of, prefix, step_built, step_of, step, operand_beside, binary_built, binary_asked, binary_of, binary_by, arms_built, arms, conditional_built, any_class, is_test, conditional_of, conditional}
use Rattle.cxx_expr.specs.Questions.{Questions}
use Rattle.cxx_language_laws.proofs.QuestionsTell.{quiet_by, same_by, if_by, then_by, give_by}
use Rattle.cxx_language_laws.proofs.Tells.{IsQuiet, IsTold, Answers}
use Rattle.cxx_language_laws.proofs.Later.{QuietBy, quiet_answer, quiet_refusal}
use Rattle.cxx_language_laws.proofs.TellsConversions.{convert_tells, convert_each_tells, one_base_quiet}

pub misshapen_tells : {kept : CxxState → CxxState → Type 0} {told : CxxState → Ahead → Stopped → Type 0} → IsTold kept told → (tree : CxxTree) → Answers kept told (misshapen tree)
misshapen_tells is tree state ahead = quiet_by is refl

-- ---- meanings

with_meaning_tells : {kept : CxxState → CxxState → Type 0} {told : CxxState → Ahead → Stopped → Type 0} → IsTold kept told → (place : Place) (found : Asked (Option CxxBuiltIn)) (go : CxxBuiltIn → Asks CxxState CxxTree) → ((meaning : CxxBuiltIn) → Answers kept told (go meaning)) → Answers kept told (with_meaning (meaning_at place found) go)
with_meaning_tells is place (Ok (Some meaning)) go tells state ahead = tells meaning state ahead
with_meaning_tells is place (Ok None) go tells state ahead = quiet_by is refl
with_meaning_tells is place (Err class) go tells state ahead = quiet_by is refl

built_tells : {kept : CxxState → CxxState → Type 0} {told : CxxState → Ahead → Stopped → Type 0} → IsTold kept told → (q : Questions) (tree : CxxTree) (parts : List CxxTree) (meaning : CxxBuiltIn) → Answers kept told (built q tree parts meaning)
unfolding built
built_tells is q tree parts meaning state ahead = then_by is (convert_each_tells is q tree.label.place meaning.operands [] parts state ahead) (λ operands. give_by is (given_over tree (built_operand meaning) operands))

built_by_tells : {kept : CxxState → CxxState → Type 0} {told : CxxState → Ahead → Stopped → Type 0} → IsTold kept told → (q : Questions) (tree : CxxTree) (operator : ℕ) (parts : List CxxTree) (operands : List CxxOperand) → Answers kept told (built_by q tree operator parts operands)
built_by_tells is q tree operator parts operands state ahead = with_meaning_tells is tree.label.place (built_in_result state.graph operator operands) (built q tree parts) (built_tells is q tree parts) state ahead

-- ---- operands of classes and enumerations

unconverted_tells : {kept : CxxState → CxxState → Type 0} {told : CxxState → Ahead → Stopped → Type 0} → IsTold kept told → (tree : CxxTree) (parts : List CxxTree) (meaning : CxxBuiltIn) → Answers kept told (unconverted tree parts meaning)
unfolding unconverted
unconverted_tells is tree parts meaning state ahead = give_by is (given_over tree (built_operand meaning) parts) state ahead

own_meaning_tells : {kept : CxxState → CxxState → Type 0} {told : CxxState → Ahead → Stopped → Type 0} → IsTold kept told → (tree : CxxTree) (operator : ℕ) (parts : List CxxTree) (operands : List CxxOperand) → Answers kept told (own_meaning tree operator parts operands)
unfolding own_meaning
own_meaning_tells is tree operator parts operands state ahead = with_meaning_tells is tree.label.place (built_in_result state.graph operator operands) (unconverted tree parts) (unconverted_tells is tree parts) state ahead

-- ---- one operand

prefix_asked_tells : {kept : CxxState → CxxState → Type 0} {told : CxxState → Ahead → Stopped → Type 0} → IsTold kept told → (tree one : CxxTree) → Answers kept told (prefix_asked tree one)
unfolding prefix_asked
prefix_asked_tells is tree one state ahead = if_by (nat_eq (operator_in tree) punct.AMPERSAND) (own_meaning_tells is tree punct.AMPERSAND (one ∷ []) (operand_of one ∷ []) state ahead) (quiet_by is refl)

prefix_of_tells : {kept : CxxState → CxxState → Type 0} {told : CxxState → Ahead → Stopped → Type 0} → IsTold kept told → (q : Questions) (tree : CxxTree) (one : Option CxxTree) → Answers kept told (prefix_of q tree one)
unfolding prefix_built
prefix_of_tells is q tree None state ahead = misshapen_tells is tree state ahead
prefix_of_tells is q tree (Some one) state ahead = if_by (points_to_member tree one) (quiet_by is refl) (if_by (asks_operator one) (prefix_asked_tells is tree one state ahead) (built_by_tells is q tree (operator_in tree) (one ∷ []) (operand_of one ∷ []) state ahead))

pub prefix_tells : {kept : CxxState → CxxState → Type 0} {told : CxxState → Ahead → Stopped → Type 0} → IsTold kept told → (q : Questions) (tree : CxxTree) → Answers kept told (prefix q tree)
unfolding prefix
prefix_tells is q tree = prefix_of_tells is q tree (only (children_of tree))

step_of_tells : {kept : CxxState → CxxState → Type 0} {told : CxxState → Ahead → Stopped → Type 0} → IsTold kept told → (q : Questions) (tree : CxxTree) (one : Option CxxTree) → Answers kept told (step_of q tree one)
unfolding step_built
step_of_tells is q tree None state ahead = misshapen_tells is tree state ahead
step_of_tells is q tree (Some one) state ahead = if_by (asks_operator one) (quiet_by is refl) (built_by_tells is q tree (operator_in tree) (one ∷ []) (operand_of one ∷ value_operand (fundamental base.Int) ∷ []) state ahead)

pub step_tells : {kept : CxxState → CxxState → Type 0} {told : CxxState → Ahead → Stopped → Type 0} → IsTold kept told → (q : Questions) (tree : CxxTree) → Answers kept told (step q tree)
unfolding step
step_tells is q tree = step_of_tells is q tree (only (children_of tree))

-- ---- two operands

binary_built_tells : {kept : CxxState → CxxState → Type 0} {told : CxxState → Ahead → Stopped → Type 0} → IsTold kept told → (q : Questions) (tree : CxxTree) (operator : ℕ) (one two : CxxTree) → Answers kept told (binary_built q tree operator one two)
unfolding binary_built
binary_built_tells is q tree operator one two state ahead = built_by_tells is q tree operator (one ∷ two ∷ []) (operand_beside q operator two one state ∷ operand_beside q operator one two state ∷ []) state ahead

binary_asked_tells : {kept : CxxState → CxxState → Type 0} {told : CxxState → Ahead → Stopped → Type 0} → IsTold kept told → (tree : CxxTree) (operator : ℕ) (one two : CxxTree) → Answers kept told (binary_asked tree operator one two)
unfolding binary_asked
binary_asked_tells is tree operator one two state ahead = if_by (nat_eq operator punct.COMMA) (own_meaning_tells is tree punct.COMMA (one ∷ two ∷ []) (operand_of one ∷ operand_of two ∷ []) state ahead) (quiet_by is refl)

binary_of_tells : {kept : CxxState → CxxState → Type 0} {told : CxxState → Ahead → Stopped → Type 0} → IsTold kept told → (q : Questions) (tree : CxxTree) (operator : ℕ) (parts : Option (CxxTree × CxxTree)) → Answers kept told (binary_of q tree operator parts)
binary_of_tells is q tree operator None state ahead = misshapen_tells is tree state ahead
binary_of_tells is q tree operator (Some parts) state ahead = if_by (asks_operator parts.0 || asks_operator parts.1) (binary_asked_tells is tree operator parts.0 parts.1 state ahead) (binary_built_tells is q tree operator parts.0 parts.1 state ahead)

pub binary_tells : {kept : CxxState → CxxState → Type 0} {told : CxxState → Ahead → Stopped → Type 0} → IsTold kept told → (q : Questions) (tree : CxxTree) (operator : ℕ) → Answers kept told (binary_by q tree operator)
unfolding binary_by
binary_tells is q tree operator = binary_of_tells is q tree operator (both (children_of tree))

-- ---- the conditional operator

arms_built_tells : {kept : CxxState → CxxState → Type 0} {told : CxxState → Ahead → Stopped → Type 0} → IsTold kept told → (q : Questions) (tree test : CxxTree) (trees : List CxxTree) (meaning : CxxBuiltIn) → Answers kept told (arms_built q tree test trees meaning)
unfolding arms_built
arms_built_tells is q tree test trees meaning state ahead = then_by is (convert_each_tells is q tree.label.place meaning.operands (test ∷ []) trees state ahead) (λ operands. give_by is (given_over tree (built_operand meaning) operands))

arms_tell : {kept : CxxState → CxxState → Type 0} {told : CxxState → Ahead → Stopped → Type 0} → IsTold kept told → (q : Questions) (tree one two test : CxxTree) → Answers kept told (arms q tree one two test)
unfolding arms
arms_tell is q tree one two test state ahead = with_meaning_tells is tree.label.place (conditional_operator.conditional state.graph (judged_beside q two one state) (judged_beside q one two state)) (arms_built q tree test (one ∷ two ∷ [])) (arms_built_tells is q tree test (one ∷ two ∷ [])) state ahead

conditional_built_tells : {kept : CxxState → CxxState → Type 0} {told : CxxState → Ahead → Stopped → Type 0} → IsTold kept told → (q : Questions) (tree test one two : CxxTree) → Answers kept told (conditional_built q tree test one two)
unfolding conditional_built
conditional_built_tells is q tree test one two state ahead = then_by is (convert_tells is q tree.label.place bool_type test state ahead) (arms_tell is q tree one two)

conditional_of_tells : {kept : CxxState → CxxState → Type 0} {told : CxxState → Ahead → Stopped → Type 0} → IsTold kept told → (q : Questions) (tree : CxxTree) (parts : Option (CxxTree × CxxTree × CxxTree)) → Answers kept told (conditional_of q tree parts)
conditional_of_tells is q tree None state ahead = misshapen_tells is tree state ahead
conditional_of_tells is q tree (Some parts) state ahead = if_by (any_class parts) (quiet_by is refl) (if_by (is_test parts.0) (conditional_built_tells is q tree parts.0 parts.1 parts.2 state ahead) (quiet_by is refl))

pub conditional_tells : {kept : CxxState → CxxState → Type 0} {told : CxxState → Ahead → Stopped → Type 0} → IsTold kept told → (q : Questions) (tree : CxxTree) → Answers kept told (conditional q tree)
unfolding conditional
conditional_tells is q tree = conditional_of_tells is q tree (all_three (children_of tree))

-- ---- casts

-- what follows an answer that says nothing of declarations
then_quiet : {A B : Type 0} {first : Answer A} → QuietBy first → (go : A → Answer B) → ((x : A) → QuietBy (go x)) → QuietBy (first >>= go)
then_quiet (quiet_answer one) go more = more one
then_quiet (quiet_refusal why quiet) go more = quiet_refusal why quiet

explicit_found_quiet : (graph : CxxGraph) (place : Place) (from : CxxOperand) (to : CxxType) → QuietBy (explicit_found graph place from to)
unfolding explicit_found
explicit_found_quiet graph place from to = then_quiet (found_quiet (casts.cast graph (is_only_base graph from to) from to)) _ (λ found. then_quiet (steps found) _ (λ one. quiet_answer found))
  where
    found_quiet : (found : Asked (Option CxxCast)) → QuietBy (found_at place found)
    found_quiet (Ok (Some found)) = quiet_answer found
    found_quiet (Ok None) = quiet_refusal _ refl
    found_quiet (Err class) = quiet_refusal _ refl

    steps : (found : CxxCast) → QuietBy (steps_to_one graph place from to found)
    steps by_const = quiet_answer tt
    steps by_static = one_base_quiet graph place from to
    steps (by_static_and_const middle) = one_base_quiet graph place from middle
    steps by_reinterpret = quiet_answer tt
    steps (by_reinterpret_and_const middle) = quiet_answer tt

explicit_by_tells : {kept : CxxState → CxxState → Type 0} {told : CxxState → Ahead → Stopped → Type 0} → IsTold kept told → (tree : CxxTree) (front : List CxxTree) (one : CxxTree) {found : Answer CxxCast} → QuietBy found → Answers kept told (explicit_by tree front one found)
explicit_by_tells is tree front one (quiet_answer found) state ahead = same_by is (explicit_tree tree front one found) state ahead
explicit_by_tells is tree front one (quiet_refusal why quiet) state ahead = quiet_by is quiet

needed_is_quiet : (graph : CxxGraph) (of : CxxType) (place : Place) → IsQuiet (class_needed_at graph of place)
needed_is_quiet graph of place = by (is_incomplete graph of)
  where
    by : (b : Bool) → IsQuiet (if b then fault place says.IncompleteClass else not_built_at place)
    by true = refl
    by false = refl

explicit_tells : {kept : CxxState → CxxState → Type 0} {told : CxxState → Ahead → Stopped → Type 0} → IsTold kept told → (q : Questions) (tree : CxxTree) (front : List CxxTree) (one : CxxTree) → Answers kept told (explicit q tree front one)
unfolding explicit explicit_built
explicit_tells is q tree front one state ahead = if_by (needs_class tree one) (quiet_by is (needed_is_quiet state.graph (target_of tree) tree.label.place)) (explicit_by_tells is tree front one (explicit_found_quiet state.graph tree.label.place (judged_to q (target_of tree) one state) (target_of tree)) state ahead)

named_by_tells : {kept : CxxState → CxxState → Type 0} {told : CxxState → Ahead → Stopped → Type 0} → IsTold kept told → (word : List ℕ) (tree : CxxTree) (front : List CxxTree) (one : CxxTree) (allowed : Bool) → Answers kept told (named_by word tree front one allowed)
named_by_tells is word tree front one true state ahead = same_by is (cast_over word (target_of tree) tree front one) state ahead
named_by_tells is word tree front one false state ahead = quiet_by is refl

static_found_quiet : (graph : CxxGraph) (place : Place) (from : CxxOperand) (to : CxxType) → QuietBy (static_found graph place from to)
unfolding static_found
static_found_quiet graph place from to = then_quiet (allowed_quiet (casts.static_cast graph (is_only_base graph from to) from to)) _ (λ allowed. then_quiet (leads allowed) _ (λ one. quiet_answer allowed))
  where
    allowed_quiet : (allowed : Asked Bool) → QuietBy (allowed_at place allowed)
    allowed_quiet (Ok allowed) = quiet_answer allowed
    allowed_quiet (Err class) = quiet_refusal _ refl

    leads : (allowed : Bool) → QuietBy (leads_to_one graph place from to allowed)
    leads true = one_base_quiet graph place from to
    leads false = quiet_answer tt

static_by_tells : {kept : CxxState → CxxState → Type 0} {told : CxxState → Ahead → Stopped → Type 0} → IsTold kept told → (tree : CxxTree) (front : List CxxTree) (one : CxxTree) {allowed : Answer Bool} → QuietBy allowed → Answers kept told (static_by tree front one allowed)
static_by_tells is tree front one (quiet_answer allowed) state ahead = named_by_tells is (codes "static_cast") tree front one allowed state ahead
static_by_tells is tree front one (quiet_refusal why quiet) state ahead = quiet_by is quiet

static_tells : {kept : CxxState → CxxState → Type 0} {told : CxxState → Ahead → Stopped → Type 0} → IsTold kept told → (q : Questions) (tree : CxxTree) (front : List CxxTree) (one : CxxTree) → Answers kept told (static_cast_of q tree front one)
unfolding static_cast_of static_built
static_tells is q tree front one state ahead = if_by (needs_class tree one) (quiet_by is (needed_is_quiet state.graph (target_of tree) tree.label.place)) (static_by_tells is tree front one (static_found_quiet state.graph tree.label.place (judged_to q (target_of tree) one state) (target_of tree)) state ahead)

cast_as_tells : {kept : CxxState → CxxState → Type 0} {told : CxxState → Ahead → Stopped → Type 0} → IsTold kept told → (q : Questions) (tree : CxxTree) (front : List CxxTree) (one : CxxTree) → Answers kept told (cast_as q tree front one)
unfolding cast_as constant reinterpreted
cast_as_tells is q tree front one state ahead =
    if_by (bytes_eq tree.label.spelling (codes "static_cast")) (static_tells is q tree front one state ahead) (
    if_by (bytes_eq tree.label.spelling (codes "const_cast")) (named_by_tells is (codes "const_cast") tree front one (casts.const_cast (operand_of one) (target_of tree)) state ahead) (
    if_by (bytes_eq tree.label.spelling (codes "reinterpret_cast")) (named_by_tells is (codes "reinterpret_cast") tree front one (casts.reinterpret_cast (operand_of one) (target_of tree)) state ahead)
    (explicit_tells is q tree front one state ahead)))

cast_of_tells : {kept : CxxState → CxxState → Type 0} {told : CxxState → Ahead → Stopped → Type 0} → IsTold kept told → (q : Questions) (tree : CxxTree) (parts : Option (List CxxTree × CxxTree)) → Answers kept told (cast_of q tree parts)
cast_of_tells is q tree None state ahead = misshapen_tells is tree state ahead
cast_of_tells is q tree (Some parts) state ahead = cast_as_tells is q tree parts.0 parts.1 state ahead

pub cast_tells : {kept : CxxState → CxxState → Type 0} {told : CxxState → Ahead → Stopped → Type 0} → IsTold kept told → (q : Questions) (tree : CxxTree) → Answers kept told (cast q tree)
unfolding cast
cast_tells is q tree = cast_of_tells is q tree (split_last (children_of tree))

zero_tells : {kept : CxxState → CxxState → Type 0} {told : CxxState → Ahead → Stopped → Type 0} → IsTold kept told → (tree : CxxTree) → Answers kept told (zero tree)
unfolding zero
zero_tells is tree state ahead = if_by (is_class (kind_of (target_of tree))) (quiet_by is (needed_is_quiet state.graph (target_of tree) tree.label.place)) (if_by (has_zero (kind_of (target_of tree))) (same_by is (zero_tree tree) state ahead) (quiet_by is refl))

several_tells : {kept : CxxState → CxxState → Type 0} {told : CxxState → Ahead → Stopped → Type 0} → IsTold kept told → (tree : CxxTree) → Answers kept told (several tree)
unfolding several
several_tells is tree state ahead = if_by (is_class (kind_of (target_of tree))) (quiet_by is (needed_is_quiet state.graph (target_of tree) tree.label.place)) (quiet_by is refl)

functional_of_tells : {kept : CxxState → CxxState → Type 0} {told : CxxState → Ahead → Stopped → Type 0} → IsTold kept told → (q : Questions) (tree : CxxTree) (parts : List CxxTree) → Answers kept told (functional_of q tree parts)
functional_of_tells is q tree [] = zero_tells is tree
functional_of_tells is q tree (one ∷ []) = explicit_tells is q tree [] one
functional_of_tells is q tree (one ∷ two ∷ others) = several_tells is tree

pub functional_tells : {kept : CxxState → CxxState → Type 0} {told : CxxState → Ahead → Stopped → Type 0} → IsTold kept told → (q : Questions) (tree : CxxTree) → Answers kept told (functional q tree)
unfolding functional
functional_tells is q tree = functional_of_tells is q tree (children_of tree)
