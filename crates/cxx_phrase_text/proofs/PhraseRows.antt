-- Worked expressions and initializers: their texts, and the calls that are listed of them.
use Rattle.std.specs.Prelude.{ℕ, ◌≡◌, refl, true, false, List, [], ◌∷◌, slice_index_or, Some, None, codes}
use Rattle.cxx_model.specs.declared.base.Base.TheVariants as base
use Rattle.cxx_model.specs.declared.sequence.ConstantKind.TheVariants as constant
use Rattle.cxx_model.specs.Text.Lexemes.{nowhere}
use Rattle.cxx_model.specs.Types.Trees.{CxxType, fundamental, class_type, enumeration, pointer_to, reference_to, array_of, function_of, qualified, no_types, type_then, number_bound}
use Rattle.cxx_reading.specs.Declarators.{no_cv}
use Rattle.cxx_reading.specs.Trees.{CxxTree, Label, tree_of}
use Rattle.cxx_reading.specs.Words.{Tags, line_text}
use Rattle.cxx_phrase_text.specs.Calls.{calls_in}
use Rattle.cxx_phrase_text.specs.Phrases.{initializer_words, phrase_words, pointed_words}

-- ---- trees

abbrev tags : Tags
tags = record { class_name = λ n. codes "C"; enumeration_name = λ n. codes "E__9" }

abbrev names : List (List ℕ)
names = codes "a__1" ∷ codes "b__2" ∷ codes "f__3" ∷ codes "g__4" ∷ []

abbrev name : ℕ → List ℕ
name n = slice_index_or names n []

abbrev label : ℕ → List ℕ → Label
label production spelling = record { production = production; spelling = spelling; first = 0; last = 0; start = nowhere; place = nowhere; path = None; operand = None; of = None; target = None; call = None }

abbrev of_type : CxxType → Label → Label
of_type of from = record from { of = Some of }

-- 5.1
abbrev literal : List ℕ → CxxTree
literal spelling = tree_of (label 34 spelling) []

abbrev string : List ℕ → CxxTree
string spelling = tree_of (record (label 34 spelling) { operand = Some (record { of = array_of (fundamental base.Char) (number_bound 3); lvalue = false; constant = constant.NarrowText }) }) []

abbrev named : ℕ → CxxTree
named n = tree_of (record (label 36 []) { target = Some n }) []

-- 9.4
abbrev static_of : CxxType → ℕ → CxxTree
static_of class n = tree_of (of_type class (record (label 36 []) { target = Some n })) []

abbrev a : CxxTree
a = named 0

abbrev b : CxxTree
b = named 1

abbrev grouped : CxxTree → CxxTree
grouped tree = tree_of (record (label 39 []) { operand = tree.label.operand }) (tree ∷ [])

-- 5.2
abbrev called : ℕ → ℕ → Label
called number target = record (label 40 []) { target = Some target; call = Some number }

abbrev by_name : Label → Label
by_name from = record from { path = Some (record { global = false; parts = [] }) }

abbrev call : ℕ → ℕ → List CxxTree → CxxTree
call number target arguments = tree_of (by_name (called number target)) arguments

-- 9.4
abbrev static_call : CxxType → ℕ → ℕ → List CxxTree → CxxTree
static_call class number target arguments = tree_of (of_type class (by_name (called number target))) arguments

abbrev through : List CxxTree → CxxTree
through parts = tree_of (label 40 []) parts

-- 5.2.5
abbrev member_of : ℕ → ℕ → CxxTree → CxxTree
member_of production target object = tree_of (by_name (record (label production (codes "(")) { target = Some target })) (object ∷ [])

-- 3.4.5
abbrev behind_class : CxxType → CxxTree → CxxTree
behind_class class tree = record { label = of_type class tree.label; children = tree.children }

-- a call of a member of an object, and of one of what a pointer points to
abbrev member_call : ℕ → ℕ → CxxTree → List CxxTree → CxxTree
member_call number target object arguments = tree_of (called number target) (member_of 42 target object ∷ arguments)

abbrev arrow_call : ℕ → ℕ → CxxTree → List CxxTree → CxxTree
arrow_call number target pointer arguments = tree_of (called number target) (member_of 43 target pointer ∷ arguments)

abbrev zero_of : CxxType → CxxTree
zero_of of = tree_of (of_type of (label 41 [])) []

abbrev subscript : CxxTree → CxxTree → CxxTree
subscript one two = tree_of (label 44 []) (one ∷ two ∷ [])

abbrev postfix : List ℕ → CxxTree → CxxTree
postfix spelling tree = tree_of (label 45 spelling) (tree ∷ [])

abbrev cast : List ℕ → CxxType → CxxTree → CxxTree
cast spelling of tree = tree_of (of_type of (label 48 spelling)) (tree ∷ [])

abbrev converted : CxxType → CxxTree → CxxTree
converted of tree = cast [] of tree

-- 5.3
abbrev prefix : List ℕ → CxxTree → CxxTree
prefix spelling tree = tree_of (label 46 spelling) (tree ∷ [])

abbrev size : List ℕ → CxxTree → CxxTree
size spelling tree = tree_of (label 47 spelling) (tree ∷ [])

-- 5.6 to 5.18
abbrev infix_ : List ℕ → CxxTree → CxxTree → CxxTree
infix_ spelling one two = tree_of (label 50 spelling) (one ∷ two ∷ [])

abbrev conditional : CxxTree → CxxTree → CxxTree → CxxTree
conditional one two three = tree_of (label 51 (codes "?")) (one ∷ two ∷ three ∷ [])

abbrev assigned : List ℕ → CxxTree → CxxTree → CxxTree
assigned spelling one two = tree_of (label 52 spelling) (one ∷ two ∷ [])

-- 8.5
abbrev initial : List ℕ → CxxType → List CxxTree → CxxTree
initial spelling of parts = tree_of (of_type of (label 22 spelling)) parts

-- ---- types

abbrev int : CxxType
int = fundamental base.Int

abbrev char : CxxType
char = fundamental base.Char

abbrev const : CxxType → CxxType
const of = qualified (record { is_const = true; is_volatile = false }) of

abbrev array : CxxType → CxxType
array of = array_of of (number_bound 2)

-- ---- texts

abbrev text : CxxTree → List ℕ
text tree = line_text (phrase_words tags name tree)

abbrev initialized : CxxTree → List ℕ
initialized tree = line_text (initializer_words tags name tree)

-- 9.4
static_member_behind_its_class : text (infix_ (codes "-") (static_of (class_type 0) 0) (prefix (codes "-") (static_of (class_type 0) 1))) ≡ codes "C::a__1 - (-C::b__2)\n"
static_member_behind_its_class = refl

operands_of_operators : text ((infix_ (codes "&&") (prefix (codes "!") (literal (codes "true"))) (literal (codes "false")))) ≡ codes "(!true) && false\n"
operands_of_operators = refl

conversions_of_operands : text ((converted int (infix_ (codes "+") (converted (fundamental base.Unsigned) (literal (codes "1"))) (infix_ (codes "*") (converted (fundamental base.Unsigned) (literal (codes "'b'"))) (literal (codes "2u")))))) ≡ codes "static_cast<int>(static_cast<unsigned>(1) + (static_cast<unsigned>('b') * 2u))\n"
conversions_of_operands = refl

two_casts : text ((cast (codes "const_cast") (pointer_to char) (cast (codes "reinterpret_cast") (pointer_to (const char)) a))) ≡ codes "const_cast<char *>(reinterpret_cast<const char *>(a__1))\n"
two_casts = refl

subscript_of_a_pointed_array : text ((subscript (grouped (prefix (codes "*") a)) (literal (codes "1")))) ≡ codes "(*a__1)[1]\n"
subscript_of_a_pointed_array = refl

step_of_what_is_pointed_to : text ((postfix (codes "++") (grouped (prefix (codes "*") a)))) ≡ codes "(*a__1)++\n"
step_of_what_is_pointed_to = refl

step_of_a_name : text ((infix_ (codes "-") (postfix (codes "++") a) (prefix (codes "--") b))) ≡ codes "(a__1++) - (--b__2)\n"
step_of_a_name = refl

assigned_sum : text ((assigned (codes "=") a (infix_ (codes "+") b (literal (codes "1"))))) ≡ codes "a__1 = (b__2 + 1)\n"
assigned_sum = refl

assigned_twice : text ((assigned (codes "=") a (assigned (codes "+=") b (literal (codes "1"))))) ≡ codes "a__1 = (b__2 += 1)\n"
assigned_twice = refl

arms : text ((conditional (grouped (infix_ (codes "<") a b)) (grouped (infix_ (codes "+") a (literal (codes "1")))) b)) ≡ codes "(a__1 < b__2) ? (a__1 + 1) : b__2\n"
arms = refl

comma_as_argument : text ((call 0 2 ((grouped (assigned (codes ",") a b)) ∷ (literal (codes "'c'")) ∷ []))) ≡ codes "f__3((a__1, b__2), 'c')\n"
comma_as_argument = refl

commas : text ((assigned (codes ",") (assigned (codes ",") a b) (literal (codes "1")))) ≡ codes "(a__1, b__2), 1\n"
commas = refl

comma_in_brackets : text ((subscript a (assigned (codes ",") a b))) ≡ codes "a__1[a__1, b__2]\n"
comma_in_brackets = refl

comma_in_a_cast : text ((cast (codes "static_cast") int (grouped (assigned (codes ",") a b)))) ≡ codes "static_cast<int>(a__1, b__2)\n"
comma_in_a_cast = refl

null_pointer : text ((converted (pointer_to (const int)) (literal (codes "0")))) ≡ codes "static_cast<const int *>(0)\n"
null_pointer = refl

call_through_a_pointer : text ((through ((grouped (prefix (codes "*") (named 2))) ∷ (literal (codes "1")) ∷ []))) ≡ codes "(*f__3)(1)\n"
call_through_a_pointer = refl

call_through_a_name : text ((through (a ∷ (literal (codes "1")) ∷ (grouped (assigned (codes ",") a b)) ∷ []))) ≡ codes "a__1(1, (a__1, b__2))\n"
call_through_a_name = refl

call_of_what_a_call_gives : text ((through ((call 0 3 ([])) ∷ b ∷ []))) ≡ codes "g__4()(b__2)\n"
call_of_what_a_call_gives = refl

-- 9.4
static_function_behind_its_class : text (static_call (class_type 0) 0 2 (literal (codes "1") ∷ b ∷ [])) ≡ codes "C::f__3(1, b__2)\n"
static_function_behind_its_class = refl

sum_of_static_functions : text (infix_ (codes "+") (static_call (class_type 0) 0 2 []) (prefix (codes "-") (static_call (class_type 0) 1 3 []))) ≡ codes "C::f__3() + (-C::g__4())\n"
sum_of_static_functions = refl

-- 5.2.5
function_of_an_object : text (member_call 0 2 a (literal (codes "1") ∷ [])) ≡ codes "a__1.f__3(1)\n"
function_of_an_object = refl

function_behind_a_class : text (tree_of (called 0 2) (behind_class (class_type 0) (member_of 42 2 a) ∷ b ∷ [])) ≡ codes "a__1.C::f__3(b__2)\n"
function_behind_a_class = refl

member_behind_a_class : text (subscript (behind_class (class_type 0) (member_of 42 1 (call 0 2 []))) a) ≡ codes "f__3().C::b__2[a__1]\n"
member_behind_a_class = refl

function_of_what_is_pointed_to : text (arrow_call 0 2 a (literal (codes "1") ∷ [])) ≡ codes "(*a__1).f__3(1)\n"
unfolding pointed_words
function_of_what_is_pointed_to = refl

function_without_arguments : text (prefix (codes "!") (member_call 0 2 (prefix (codes "*") a) [])) ≡ codes "!(*a__1).f__3()\n"
function_without_arguments = refl

function_of_what_a_function_gives : text (member_call 2 3 (member_call 0 2 a (b ∷ [])) (assigned (codes ",") a (call 1 2 []) ∷ [])) ≡ codes "a__1.f__3(b__2).g__4((a__1, f__3()))\n"
function_of_what_a_function_gives = refl

call_of_a_pointer_of_an_object : text (through (member_of 42 1 a ∷ literal (codes "1") ∷ [])) ≡ codes "a__1.b__2(1)\n"
call_of_a_pointer_of_an_object = refl

call_of_an_element : text ((through ((subscript a (literal (codes "1"))) ∷ b ∷ []))) ≡ codes "a__1[1](b__2)\n"
call_of_an_element = refl

no_two_signs : text ((infix_ (codes "-") (prefix (codes "-") (prefix (codes "-") a)) (prefix (codes "-") (literal (codes "1"))))) ≡ codes "(-(-a__1)) - (-1)\n"
no_two_signs = refl

no_two_ampersands : text ((infix_ (codes "&") a (prefix (codes "&") b))) ≡ codes "a__1 & (&b__2)\n"
no_two_ampersands = refl

plus_of_a_step : text ((prefix (codes "+") (prefix (codes "++") a))) ≡ codes "+(++a__1)\n"
plus_of_a_step = refl

steps_of_two_kinds : text ((prefix (codes "++") (grouped (postfix (codes "++") a)))) ≡ codes "++(a__1++)\n"
steps_of_two_kinds = refl

zero_of_a_type : text ((zero_of (pointer_to int))) ≡ codes "static_cast<int *>(0)\n"
zero_of_a_type = refl

zero_of_an_enumeration : text ((zero_of (enumeration 0))) ≡ codes "static_cast<E__9>(0)\n"
zero_of_an_enumeration = refl

size_of_a_type : text ((infix_ (codes "+") (size (codes "4UL") a) (literal (codes "1")))) ≡ codes "4UL + 1\n"
size_of_a_type = refl

parentheses_are_gone : text ((infix_ (codes "+") (grouped (grouped a)) (grouped (grouped (cast (codes "static_cast") int (grouped b)))))) ≡ codes "a__1 + static_cast<int>(b__2)\n"
parentheses_are_gone = refl

cast_to_a_pointer_to_function : text ((cast (codes "reinterpret_cast") (pointer_to (function_of int (type_then char no_types) false no_cv)) a)) ≡ codes "reinterpret_cast<int (*)(char)>(a__1)\n"
cast_to_a_pointer_to_function = refl

cast_of_a_cast : text ((converted (fundamental base.Long) (cast (codes "static_cast") int a))) ≡ codes "static_cast<long>(static_cast<int>(a__1))\n"
cast_of_a_cast = refl

operand_of_a_cast_stands_last : text ((tree_of (of_type int (label 48 (codes "static_cast"))) ((size (codes "8UL") a) ∷ b ∷ []))) ≡ codes "static_cast<int>(b__2)\n"
operand_of_a_cast_stands_last = refl

element_of_a_string : text ((subscript (string (codes "\"ab\" \"c\"")) (literal (codes "1")))) ≡ codes "\"ab\" \"c\" [1]\n"
element_of_a_string = refl

cast_to_a_reference : text (cast (codes "static_cast") (reference_to int) a) ≡ codes "static_cast<int &>(a__1)\n"
cast_to_a_reference = refl

cast_to_void : text (cast (codes "static_cast") (fundamental base.Void) (call 0 2 [])) ≡ codes "static_cast<void>(f__3())\n"
cast_to_void = refl

bits : text ((infix_ (codes "^") (prefix (codes "~") a) (infix_ (codes "<<") b (literal (codes "3"))))) ≡ codes "(~a__1) ^ (b__2 << 3)\n"
bits = refl

value : initialized ((initial (codes "=") int ((infix_ (codes "+") a (literal (codes "1"))) ∷ []))) ≡ codes "= a__1 + 1\n"
value = refl

direct : initialized ((initial (codes "(") int ((literal (codes "3")) ∷ []))) ≡ codes "= 3\n"
direct = refl

comma_behind_equals : initialized ((initial (codes "(") int ((grouped (assigned (codes ",") a b)) ∷ []))) ≡ codes "= (a__1, b__2)\n"
comma_behind_equals = refl

array_of_values : initialized ((initial (codes "=") (array int) ((initial (codes "{") (array int) ((literal (codes "1")) ∷ (literal (codes "2")) ∷ [])) ∷ []))) ≡ codes "= { 1, 2 }\n"
array_of_values = refl

array_of_arrays : initialized ((initial (codes "=") (array (array int)) ((initial (codes "{") (array (array int)) ((initial (codes "{") (array int) ((literal (codes "1")) ∷ (grouped (assigned (codes ",") a b)) ∷ [])) ∷ (initial (codes "{") (array int) ((literal (codes "3")) ∷ [])) ∷ [])) ∷ []))) ≡ codes "= { { 1, (a__1, b__2) }, { 3 } }\n"
array_of_arrays = refl

empty_braces : initialized ((initial (codes "=") (array int) ((initial (codes "{") (array int) ([])) ∷ []))) ≡ codes "= { }\n"
empty_braces = refl

braces_round_a_value : initialized ((initial (codes "=") int ((initial (codes "{") int ((literal (codes "1")) ∷ [])) ∷ []))) ≡ codes "= 1\n"
braces_round_a_value = refl

string_of_an_array : initialized ((initial (codes "=") (array char) ((string (codes "\"a\"")) ∷ []))) ≡ codes "= \"a\"\n"
string_of_an_array = refl

braces_round_a_string : initialized ((initial (codes "=") (array (const char)) ((initial (codes "{") (array (const char)) ((string (codes "\"a\"")) ∷ [])) ∷ []))) ≡ codes "= \"a\"\n"
braces_round_a_string = refl

string_for_a_pointer : initialized ((initial (codes "=") (array (pointer_to (const char))) ((initial (codes "{") (array (pointer_to (const char))) ((string (codes "\"a\"")) ∷ [])) ∷ []))) ≡ codes "= { \"a\" }\n"
string_for_a_pointer = refl

strings_of_arrays : initialized ((initial (codes "=") (array (array char)) ((initial (codes "{") (array (array char)) ((initial (codes "{") (array char) ((string (codes "\"a\"")) ∷ [])) ∷ (string (codes "\"b\"")) ∷ [])) ∷ []))) ≡ codes "= { \"a\", \"b\" }\n"
strings_of_arrays = refl

character_in_braces : initialized ((initial (codes "=") (array char) ((initial (codes "{") (array char) ((literal (codes "'a'")) ∷ [])) ∷ []))) ≡ codes "= { 'a' }\n"
character_in_braces = refl

nothing_written : initialized (initial [] int []) ≡ codes "\n"
nothing_written = refl

-- ---- calls

arguments_stand_before : calls_in (call 2 2 (call 0 3 [] ∷ infix_ (codes "+") (call 1 3 []) b ∷ [])) ≡ 0 ∷ 1 ∷ 2 ∷ []
arguments_stand_before = refl

calls_through_pointers_are_none : calls_in (through (call 0 3 [] ∷ call 1 3 [] ∷ [])) ≡ 0 ∷ 1 ∷ []
calls_through_pointers_are_none = refl

objects_and_arguments_stand_before : calls_in (member_call 2 2 (call 0 3 []) (call 1 3 [] ∷ b ∷ [])) ≡ 0 ∷ 1 ∷ 2 ∷ []
objects_and_arguments_stand_before = refl

pointers_stand_before : calls_in (arrow_call 3 2 (member_call 0 3 a []) (member_call 2 3 b (static_call (class_type 0) 1 3 [] ∷ []) ∷ [])) ≡ 0 ∷ 1 ∷ 2 ∷ 3 ∷ []
pointers_stand_before = refl

calls_in_sizes_are_none : calls_in (infix_ (codes "+") (size (codes "4UL") (call 0 3 [])) (call 1 3 [])) ≡ 1 ∷ []
calls_in_sizes_are_none = refl

-- 8.3.6: the calls of a default argument at each use
abbrev default : CxxTree
default = call 0 3 []

calls_of_default_arguments : calls_in (assigned (codes ",") (call 1 2 (default ∷ [])) (call 2 2 (default ∷ []))) ≡ 0 ∷ 1 ∷ 0 ∷ 2 ∷ []
calls_of_default_arguments = refl

calls_in_braces : calls_in (initial (codes "=") (array int) (initial (codes "{") (array int) (call 0 3 [] ∷ converted int (call 1 3 []) ∷ []) ∷ [])) ≡ 0 ∷ 1 ∷ []
calls_in_braces = refl
