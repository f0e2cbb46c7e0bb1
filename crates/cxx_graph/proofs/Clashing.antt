-- Of two declarations it makes no difference which one is asked first.
use Rattle.std.specs.Prelude.{ℕ, ◌≡◌, refl, Bool, true, false, not, ◌&&◌, ◌||◌, if◌then◌else◌, nat_eq, List, [], ◌∷◌, Option, Some, None}
use Rattle.std.specs.List.{slice_get}
use Rattle.std.proofs.Common.{ap, sym, subst, ◌∙◌}
use Rattle.std.proofs.Math.Bool.{and_comm, or_comm}
use Rattle.std.proofs.lemmas.Bool.{eqb-true, eq-eqb}
use Rattle.cxx_model.specs.declared.facts.MemberKind.{MemberKind}
use Rattle.cxx_model.specs.declared.types.Cv.{Cv}
use Rattle.cxx_model.specs.Facts.Conflicts.{Standing, a_function, a_function_template, a_class_template, an_object, an_enumerator, a_hidden_name, a_name, alone, agree, any_static, are_overloads, brought_may_stand, clash, function_templates_agree, functions_agree, hides, is_class_scope, is_closed, is_function, is_hidden, is_member, is_of_parameters, is_one_scope, is_static, is_using, may_repeat, may_stand, objects_agree, of_one_name, one_hides, same_member, same_name, same_parameter_lists, same_parameters, stand_together, standing, unions_agree, FunctionParts, are_parameters_same, are_results_same, array_parts, function_parts, is_constructor, is_unknown, same_but_bound, same_parameter, are_parameters, declares_name, has_name, number_of_member}
use Rattle.cxx_model.specs.Facts.Declarations.{CxxFact, CxxGraph, CxxName, CxxParameter, unnamed, spelled, operator_function, conversion_to, destructor}
use Rattle.cxx_model.specs.Facts.Entities.{CxxEntity, of_fact, of_type, of_space, meant_by, entity_by, same_entity, scope_kinds}
use Rattle.cxx_model.specs.Types.Same.{same_bool, same_bound, same_cv, same_type, same_types, same_word}
use Rattle.cxx_model.specs.Types.Trees.{CxxType, CxxTypes, CxxBound}
use Rattle.cxx_model.proofs.Equal.{word_told, word_tells}
use Rattle.cxx_model.proofs.SameTypes.{bound_told, bound_itself, bool_told, bool_itself, cv_told, cv_itself, type_told, type_itself, types_told, types_itself}

-- a test that tells two apart says the same both ways
both_ways : {A : Type 0} (f : A → A → Bool) → ((a b : A) → f a b ≡ true → a ≡ b) → ((a : A) → f a a ≡ true) → (a b : A) → f a b ≡ f b a
both_ways {A} f told itself a b = by (f a b) (f b a) refl refl
  where
    turned : (x y : A) → f x y ≡ true → f y x ≡ true
    turned x y e = subst (λ (z : A). f z x ≡ true) (told x y e) (itself x)

    by : (p q : Bool) → f a b ≡ p → f b a ≡ q → f a b ≡ f b a
    by true true e d = e ∙ sym d
    by false false e d = e ∙ sym d
    by true false e d = e ∙ sym (turned a b e)
    by false true e d = turned b a d ∙ sym d

nat_ways : (a b : ℕ) → nat_eq a b ≡ nat_eq b a
nat_ways = both_ways nat_eq eqb-true (λ a. eq-eqb a a refl)

bool_ways : (a b : Bool) → same_bool a b ≡ same_bool b a
bool_ways = both_ways same_bool bool_told bool_itself

cv_ways : (a b : Cv) → same_cv a b ≡ same_cv b a
cv_ways = both_ways same_cv cv_told cv_itself

word_ways : (a b : List ℕ) → same_word a b ≡ same_word b a
word_ways = both_ways same_word word_told (λ a. word_tells a a refl)

type_ways : (a b : CxxType) → same_type a b ≡ same_type b a
type_ways = both_ways same_type type_told type_itself

types_ways : (a b : CxxTypes) → same_types a b ≡ same_types b a
types_ways = both_ways same_types types_told types_itself

bound_ways : (a b : CxxBound) → same_bound a b ≡ same_bound b a
bound_ways = both_ways same_bound bound_told bound_itself

-- two tests that are the same, joined
both_and : {a b c d : Bool} → a ≡ b → c ≡ d → (a && c) ≡ (b && d)
both_and e f = cc

both_or : {a b c d : Bool} → a ≡ b → c ≡ d → (a || c) ≡ (b || d)
both_or e f = cc

both_if : {a b c d e f : Bool} → a ≡ b → c ≡ d → e ≡ f → (if a then c else e) ≡ (if b then d else f)
both_if x y z = cc

name_ways : (a b : CxxName) → same_name a b ≡ same_name b a
name_ways unnamed unnamed = refl
name_ways unnamed _ = refl
name_ways (spelled a) (spelled b) = word_ways a b
name_ways (spelled a) _ = refl
name_ways (operator_function a) (operator_function b) = nat_ways a b
name_ways (operator_function a) _ = refl
name_ways (conversion_to a) (conversion_to b) = type_ways a b
name_ways (conversion_to a) _ = refl
name_ways destructor destructor = refl
name_ways destructor _ = refl

entity_ways : (a b : CxxEntity) → same_entity a b ≡ same_entity b a
entity_ways (of_fact a) (of_fact b) = nat_ways a b
entity_ways (of_fact a) _ = refl
entity_ways (of_type a) (of_type b) = type_ways a b
entity_ways (of_type a) _ = refl
entity_ways (of_space a) (of_space b) = nat_ways a b
entity_ways (of_space a) _ = refl

-- ---- types and kinds

array_ways : (a b : Option (CxxType × CxxBound)) → same_but_bound a b ≡ same_but_bound b a
array_ways (Some a) (Some b) = both_and (type_ways a.0 b.0) (or_comm (is_unknown a.1) (is_unknown b.1))
array_ways (Some a) None = refl
array_ways None (Some b) = refl
array_ways None None = refl

agree_ways : (a b : CxxType) → agree a b ≡ agree b a
agree_ways a b = both_or (type_ways a b) (array_ways (array_parts a) (array_parts b))

parts_ways : (any : Bool) (a b : Option FunctionParts) → are_parameters_same any a b ≡ are_parameters_same any b a
parts_ways any (Some a) (Some b) = both_and (types_ways a.parameters b.parameters) (both_and (bool_ways a.ellipsis b.ellipsis) (both_or refl (cv_ways a.cv b.cv)))
parts_ways any (Some a) None = refl
parts_ways any None (Some b) = refl
parts_ways any None None = refl

results_ways : (a b : Option FunctionParts) → are_results_same a b ≡ are_results_same b a
results_ways (Some a) (Some b) = type_ways a.result b.result
results_ways (Some a) None = refl
results_ways None (Some b) = refl
results_ways None None = refl

static_ways : (k l : MemberKind) → any_static k l ≡ any_static l k
static_ways k l = or_comm (is_static k) (is_static l)

member_ways : (k l : MemberKind) → same_member k l ≡ same_member l k
member_ways k l = nat_ways (number_of_member k) (number_of_member l)

repeat_ways : (closed : Bool) (k l : MemberKind) → may_repeat closed k l ≡ may_repeat closed l k
repeat_ways closed k l = ap (λ b. closed || not b) (and_comm (is_member k) (is_member l))

parameters_ways : (k l : MemberKind) (a b : CxxType) → same_parameters (any_static k l) a b ≡ same_parameters (any_static l k) b a
parameters_ways k l a b = ap (λ any. same_parameters any a b) (static_ways k l) ∙ parts_ways (any_static l k) (function_parts a) (function_parts b)

functions_ways : (closed : Bool) (a : CxxType) (k : MemberKind) (b : CxxType) (l : MemberKind) → functions_agree closed a k b l ≡ functions_agree closed b l a k
functions_ways closed a k b l = both_if (parameters_ways k l a b) (both_and (type_ways a b) (both_and (member_ways k l) (repeat_ways closed k l))) refl

objects_ways : (closed : Bool) (a : CxxType) (k : MemberKind) (b : CxxType) (l : MemberKind) → objects_agree closed a k b l ≡ objects_agree closed b l a k
objects_ways closed a k b l = both_and (agree_ways a b) (both_and (member_ways k l) (repeat_ways closed k l))

parameter_ways : (a b : Option CxxType) → same_parameter a b ≡ same_parameter b a
parameter_ways None None = refl
parameter_ways None (Some b) = refl
parameter_ways (Some a) None = refl
parameter_ways (Some a) (Some b) = type_ways a b

lists_ways : (a b : List CxxParameter) → same_parameter_lists a b ≡ same_parameter_lists b a
lists_ways [] [] = refl
lists_ways [] (y ∷ ys) = refl
lists_ways (x ∷ xs) [] = refl
lists_ways (x ∷ xs) (y ∷ ys) = both_and (parameter_ways x.of y.of) (lists_ways xs ys)

templates_ways : (closed : Bool) (xs : List CxxParameter) (a : CxxType) (k : MemberKind) (ys : List CxxParameter) (b : CxxType) (l : MemberKind)
    → function_templates_agree closed xs a k ys b l ≡ function_templates_agree closed ys b l xs a k
templates_ways closed xs a k ys b l =
    both_if (lists_ways xs ys)
    (both_if (static_ways k l)
    (both_if (both_and (results_ways (function_parts a) (function_parts b)) (parts_ways true (function_parts a) (function_parts b))) (both_and (type_ways a b) (both_and (member_ways k l) refl)) refl)
    (both_if (type_ways a b) (repeat_ways closed k l) refl))
    refl

unions_ways : (a b : Option Bool) → unions_agree a b ≡ unions_agree b a
unions_ways (Some a) (Some b) = bool_ways a b
unions_ways (Some a) None = refl
unions_ways None (Some b) = refl
unions_ways None None = refl

-- ---- two declarations

hides_ways : (a b : Standing) → one_hides a b ≡ one_hides b a
hides_ways a b = or_comm (is_hidden a && hides b) (is_hidden b && hides a)

may_ways : (closed : Bool) (a b : Standing) → may_stand closed a b ≡ may_stand closed b a
may_ways closed (a_function a k) (a_function b l) = functions_ways closed a k b l
may_ways closed (a_function a k) (a_function_template ys b l) = refl
may_ways closed (a_function a k) y = hides_ways (a_function a k) y
may_ways closed (a_function_template xs a k) (a_function_template ys b l) = templates_ways closed xs a k ys b l
may_ways closed (a_function_template xs a k) (a_function b l) = refl
may_ways closed (a_function_template xs a k) y = hides_ways (a_function_template xs a k) y
may_ways closed (a_class_template a) (a_class_template b) = nat_ways a.0 b.0
may_ways closed (a_class_template a) y = hides_ways (a_class_template a) y
may_ways closed (an_object a k) (an_object b l) = objects_ways closed a k b l
may_ways closed (an_object a k) y = hides_ways (an_object a k) y
may_ways closed an_enumerator an_enumerator = refl
may_ways closed an_enumerator y = hides_ways an_enumerator y
may_ways closed (a_hidden_name a u) (a_hidden_name b v) = both_and (entity_ways a b) (unions_ways u v)
may_ways closed (a_hidden_name a u) (a_name b) = entity_ways a b
may_ways closed (a_hidden_name a u) y = hides_ways (a_hidden_name a u) y
may_ways closed (a_name a) (a_name b) = entity_ways a b
may_ways closed (a_name a) (a_hidden_name b v) = entity_ways a b
may_ways closed (a_name a) y = hides_ways (a_name a) y
may_ways closed alone alone = refl
may_ways closed alone y = hides_ways alone y

overloads_ways : (a b : Standing) → are_overloads a b ≡ are_overloads b a
overloads_ways (a_function a k) (a_function b l) = ap not (parameters_ways k l a b)
overloads_ways (a_function a k) (a_function_template ys b l) = refl
overloads_ways (a_function a k) y = refl
overloads_ways (a_function_template xs a k) (a_function_template ys b l) = ap not (both_and (lists_ways xs ys) (type_ways a b))
overloads_ways (a_function_template xs a k) (a_function b l) = refl
overloads_ways (a_function_template xs a k) y = refl
overloads_ways (a_class_template a) (a_function b l) = refl
overloads_ways (a_class_template a) y = refl
overloads_ways (an_object a k) (a_function b l) = refl
overloads_ways (an_object a k) y = refl
overloads_ways an_enumerator (a_function b l) = refl
overloads_ways an_enumerator y = refl
overloads_ways (a_hidden_name a u) (a_function b l) = refl
overloads_ways (a_hidden_name a u) y = refl
overloads_ways (a_name a) (a_function b l) = refl
overloads_ways (a_name a) y = refl
overloads_ways alone (a_function b l) = refl
overloads_ways alone y = refl

brought_ways : (in_class both : Bool) {one two : Bool} → one ≡ two → (a b : Standing) → brought_may_stand in_class both one a b ≡ brought_may_stand in_class both two b a
brought_ways in_class both same a b =
    both_if same refl (both_if (and_comm (is_function a) (is_function b)) (both_or refl (both_or refl (overloads_ways a b))) (hides_ways a b))

together_ways : (graph : CxxGraph) (m : ℕ) (one : CxxFact) (n : ℕ) (two : CxxFact) → stand_together graph m one n two ≡ stand_together graph n two m one
together_ways graph m one n two =
    let meant = meant_by graph.facts m one.what in
    let other = meant_by graph.facts n two.what in
    let in_class = λ (x y : ℕ). is_class_scope graph.facts x || is_class_scope graph.facts y in
    let closed = λ (x y : ℕ). is_closed graph.facts x || is_closed graph.facts y in
    let same = entity_ways (entity_by meant.number meant.what) (entity_by other.number other.what) in
    both_if (or_comm (is_using one.what) (is_using two.what))
    (ap (λ b. brought_may_stand b (is_using one.what && is_using two.what) (same_entity (entity_by meant.number meant.what) (entity_by other.number other.what)) (standing graph meant.what) (standing graph other.what)) (or_comm (is_class_scope graph.facts one.scope) (is_class_scope graph.facts two.scope))
    ∙ ap (λ b. brought_may_stand (in_class two.scope one.scope) b (same_entity (entity_by meant.number meant.what) (entity_by other.number other.what)) (standing graph meant.what) (standing graph other.what)) (and_comm (is_using one.what) (is_using two.what))
    ∙ brought_ways (in_class two.scope one.scope) (is_using two.what && is_using one.what) same (standing graph meant.what) (standing graph other.what))
    (ap (λ b. may_stand b (standing graph one.what) (standing graph two.what)) (or_comm (is_closed graph.facts one.scope) (is_closed graph.facts two.scope))
    ∙ may_ways (closed two.scope one.scope) (standing graph one.what) (standing graph two.what))

-- ---- a name and a scope

has_ways : (a b : CxxName) → (has_name a && same_name a b) ≡ (has_name b && same_name b a)
has_ways unnamed unnamed = refl
has_ways unnamed (spelled w) = refl
has_ways unnamed (operator_function n) = refl
has_ways unnamed (conversion_to t) = refl
has_ways unnamed destructor = refl
has_ways (spelled w) unnamed = refl
has_ways (spelled w) b = name_ways (spelled w) b
has_ways (operator_function n) unnamed = refl
has_ways (operator_function n) b = name_ways (operator_function n) b
has_ways (conversion_to t) unnamed = refl
has_ways (conversion_to t) b = name_ways (conversion_to t) b
has_ways destructor unnamed = refl
has_ways destructor b = name_ways destructor b

named_ways : (one two : CxxFact) → of_one_name one two ≡ of_one_name two one
named_ways one two =
    both_and (and_comm (declares_name one.what) (declares_name two.what)) (both_or (has_ways one.name two.name) (and_comm (is_constructor one.what) (is_constructor two.what)))

scope_ways : (all : List CxxFact) (a b : ℕ) → is_one_scope all a b ≡ is_one_scope all b a
scope_ways all a b = both_or (nat_ways a b) (or_comm (is_of_parameters all a b) (is_of_parameters all b a))

-- Two facts clash, whichever of them stands first.
pub clash_ways : (graph : CxxGraph) (m : ℕ) (one : CxxFact) (n : ℕ) (two : CxxFact) → clash graph m one n two ≡ clash graph n two m one
clash_ways graph m one n two =
    both_and (scope_ways graph.facts one.scope two.scope)
    (both_and (named_ways one two)
    (both_or (or_comm (are_parameters (slice_get (scope_kinds graph.facts) one.scope)) (are_parameters (slice_get (scope_kinds graph.facts) two.scope))) (ap not (together_ways graph m one n two))))
