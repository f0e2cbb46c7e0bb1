-- Worked readings with definitions of functions: their texts.
use Rattle.std.specs.Prelude.{ℕ, pos, ◌≡◌, refl, true, false, List, [], ◌∷◌, ◌++◌, Some, None, codes}
use Rattle.std.specs.Fmt.{digits}
use Rattle.cxx_model.specs.declared.base.Base.TheVariants as base
use Rattle.cxx_model.specs.declared.facts.Access.TheVariants as access
use Rattle.cxx_model.specs.declared.facts.FunctionFlags.{FunctionFlags}
use Rattle.cxx_model.specs.declared.facts.MemberKind.TheVariants as member
use Rattle.cxx_model.specs.declared.facts.ScopeKind.TheVariants as kind
use Rattle.cxx_model.specs.declared.types.ClassId.{ClassId}
use Rattle.cxx_model.specs.declared.types.Cv.{Cv}
use Rattle.cxx_model.specs.Facts.Declarations as facts
use Rattle.cxx_model.specs.Facts.Declarations.{CxxFact, CxxName, Declares, spelled, unnamed}
use Rattle.cxx_model.specs.Printing.Names.{printed_name, stem}
use Rattle.cxx_model.specs.Text.Lexemes.{nowhere}
use Rattle.cxx_model.specs.Types.Trees.{CxxType, CxxTypes, class_type, enumeration, fundamental, function_of, pointer_to, qualified, no_types, type_then}
use Rattle.cxx_expr.specs.Names.{static_class}
use Rattle.cxx_reading.specs.Declarators.{no_cv}
use Rattle.cxx_reading.specs.State.{CxxPart, CxxState, first_state, unit_scope}
use Rattle.cxx_reading.specs.TextOrder.{text_name}
use Rattle.cxx_reading.specs.Trees.{CxxTree, Label, tree_of}
use Rattle.cxx_phrase_text.specs.Phrases.{pointed_words}
use Rattle.cxx_statement_text.specs.Calls.{statement_calls}
use Rattle.cxx_statement_text.specs.Statements.{body_lines}
use Rattle.cxx_form.specs.Called.{function_text, functions_from, targets}
use Rattle.cxx_form.specs.Definitions.{class_declaring, definition_words}
use Rattle.cxx_form.specs.Order.{definitions_of, lines, names_of_text, text_order}
use Rattle.cxx_form.specs.Text.{function_named, printed_calls, text_by}

-- ---- declarations

abbrev int : CxxType
int = fundamental base.Int

abbrev char : CxxType
char = fundamental base.Char

abbrev function_type : CxxType → CxxTypes → CxxType
function_type result parameters = function_of result parameters false no_cv

abbrev flags : FunctionFlags
flags = record { is_virtual = false; is_pure = false; is_explicit = false; is_implicit = false }

abbrev fact : ℕ → CxxName → Declares → CxxFact
fact scope name what = record { place = nowhere; scope = scope; name = name; access = access.Public; what = what }

abbrev function : List ℕ → CxxType → CxxFact
function name of = fact 0 (spelled name) (facts.function of member.Free flags 0 None)

-- another declaration of the function with a number
abbrev function_again : List ℕ → CxxType → ℕ → CxxFact
function_again name of first = fact 0 (spelled name) (facts.function of member.Free flags 0 (Some (record { 0 = first })))

abbrev list_in : ℕ → CxxFact
list_in scope = fact scope unnamed (facts.scope (Some (record { 0 = scope })) kind.Parameters)

abbrev body_in : ℕ → ℕ → CxxFact
body_in scope function = fact scope unnamed (facts.scope (Some (record { 0 = scope })) (kind.Block (Some (record { 0 = function }))))

abbrev block_in : ℕ → CxxFact
block_in scope = fact scope unnamed (facts.scope (Some (record { 0 = scope })) (kind.Block None))

abbrev object_in : ℕ → CxxName → CxxType → CxxFact
object_in scope name of = fact scope name (facts.object of member.Free false None None)

-- ---- trees

abbrev label : ℕ → List ℕ → Label
label production spelling = record { production = production; spelling = spelling; first = 0; last = 0; start = nowhere; place = nowhere; path = None; operand = None; of = None; target = None; call = None }

abbrev literal : CxxTree
literal = tree_of (label 34 (codes "0")) []

abbrev named : ℕ → CxxTree
named n = tree_of (record (label 36 []) { target = Some n }) []

abbrev called : ℕ → ℕ → Label
called number target = record (label 40 []) { target = Some target; call = Some number }

abbrev by_name : Label → Label
by_name from = record from { path = Some (record { global = false; parts = [] }) }

abbrev call : ℕ → ℕ → List CxxTree → CxxTree
call number target arguments = tree_of (by_name (called number target)) arguments

abbrev declarator : ℕ → CxxType → List CxxTree → CxxTree
declarator n of parts = tree_of (record (label 20 []) { target = Some n; of = Some of }) parts

abbrev object : ℕ → CxxTree → CxxTree
object n tree = declarator n int (tree_of (record (label 22 (codes "=")) { of = Some int }) (tree ∷ []) ∷ [])

abbrev specifiers : CxxTree
specifiers = tree_of (label 53 []) []

abbrev simple : List CxxTree → CxxTree
simple declarators = tree_of (label 8 []) (specifiers ∷ declarators)

abbrev declares : List CxxTree → CxxTree
declares declarators = tree_of (label 24 []) (simple declarators ∷ [])

abbrev block : List CxxTree → CxxTree
block parts = tree_of (label 23 []) parts

abbrev expression : CxxTree → CxxTree
expression tree = tree_of (label 25 []) (tree ∷ [])

abbrev for_ : CxxTree → CxxTree → CxxTree → CxxTree → CxxTree
for_ first condition step one = tree_of (label 31 []) (first ∷ condition ∷ step ∷ one ∷ [])

abbrev returns : CxxTree → CxxTree
returns tree = tree_of (label 33 []) (tree ∷ [])

-- a definition with a declaration and a type, whose body begins a scope with a declaration
abbrev defined_as : ℕ → CxxType → ℕ → List CxxTree → CxxTree
defined_as n of scope statements = tree_of (label 15 []) (specifiers ∷ declarator n of [] ∷ tree_of (record (label 23 []) { target = Some scope }) statements ∷ [])

abbrev reading : List CxxFact → List CxxTree → CxxState
reading all trees = record first_state {
  graph = record { facts = unit_scope ∷ all; classes = []; patterns = [] };
  parts = parts_of trees;
}
  where
    parts_of : List CxxTree → List CxxPart
    parts_of [] = []
    parts_of (tree ∷ others) = record { tree = tree; scope = 0; uses = [] } ∷ parts_of others

abbrev text : CxxState → List ℕ
text state = text_by (names_of_text state) state

-- ---- rows

-- int f(int a, char) { return a; }
abbrev one_named : CxxState
one_named =
    let of : CxxType = function_type int (type_then int (type_then char no_types)) in
    reading (list_in 0 ∷ object_in 1 (spelled (codes "a")) int ∷ object_in 1 unnamed char ∷ function (codes "f") of ∷ body_in 1 4 ∷ []) (defined_as 4 of 5 (returns (named 2) ∷ []) ∷ [])

names_of_parameters : text one_named ≡ codes "int f__1(int, char);\nint f__1(int a__2, char) {\n  return a__2;\n}\n"
unfolding names_of_text text_order lines text_name printed_name stem definition_words class_declaring body_lines digits
names_of_parameters = refl

-- int h() { for (int i = 0; i; i) { int j = i; } return h(); }
abbrev with_locals : CxxState
with_locals =
    let of : CxxType = function_type int no_types in
    reading (list_in 0 ∷ function (codes "h") of ∷ body_in 1 2 ∷ block_in 2 ∷ object_in 3 (spelled (codes "i")) int ∷ block_in 3 ∷ object_in 4 (spelled (codes "j")) int ∷ [])
    (defined_as 2 of 3 (for_ (declares (object 5 literal ∷ [])) (named 5) (named 5) (block (declares (object 7 (named 5) ∷ []) ∷ [])) ∷ returns (call 0 2 []) ∷ []) ∷ [])

locals_of_a_for : text with_locals ≡ codes "int h__1();\nint h__1() {\n  for (int i__2 = 0; i__2; i__2) {\n    int j__3 = i__2;\n  }\n  return h__1();\n}\n"
unfolding names_of_text text_order lines text_name printed_name stem definition_words class_declaring body_lines digits
locals_of_a_for = refl

calls_of_a_body : printed_calls with_locals ≡ record { number = 0; target = 2 } ∷ []
unfolding printed_calls lines statement_calls
calls_of_a_body = refl

-- void p(...); void q() { } int x = 0; void p(...) { q(); }
abbrev in_order : CxxState
in_order =
    let p : CxxType = function_of (fundamental base.Void) no_types true no_cv in
    let q : CxxType = function_type (fundamental base.Void) no_types in
    reading (list_in 0 ∷ function (codes "p") p ∷ list_in 0 ∷ function (codes "q") q ∷ body_in 2 4 ∷ object_in 0 (spelled (codes "x")) int ∷ list_in 0 ∷ function_again (codes "p") p 2 ∷ body_in 4 8 ∷ [])
    (simple (declarator 2 p [] ∷ []) ∷ defined_as 4 q 5 [] ∷ simple (object 6 literal ∷ []) ∷ defined_as 8 p 9 (expression (call 0 4 []) ∷ []) ∷ [])

definitions_in_order : text in_order ≡ codes "void p__1(...);\nvoid q__2();\nint x__3 = 0;\nvoid q__2() {\n}\nvoid p__1(...) {\n  q__2();\n}\n"
unfolding static_class names_of_text text_order lines text_name printed_name stem definition_words class_declaring body_lines digits
definitions_in_order = refl

-- int (*r(int a))(char) { return 0; }
abbrev returns_a_pointer : CxxState
returns_a_pointer =
    let of : CxxType = function_type (pointer_to (function_type int (type_then char no_types))) (type_then int no_types) in
    reading (list_in 0 ∷ object_in 1 (spelled (codes "a")) int ∷ function (codes "r") of ∷ body_in 1 3 ∷ []) (defined_as 3 of 4 (returns literal ∷ []) ∷ [])

result_round_the_list : text returns_a_pointer ≡ codes "int (*r__1(int))(char);\nint (*r__1(int a__2))(char) {\n  return 0;\n}\n"
unfolding names_of_text text_order lines text_name printed_name stem definition_words class_declaring body_lines digits
result_round_the_list = refl

-- struct S { int a; char *b; } *p; void g();
abbrev class_member : CxxName → CxxType → CxxFact
class_member name of = fact 1 name (facts.object of member.Nonstatic false None None)

abbrev implicit_flags : FunctionFlags
implicit_flags = record flags { is_implicit = true }

abbrev class_tree : List CxxTree → CxxTree
class_tree members = tree_of (label 53 []) (tree_of (label 10 (codes "struct")) members ∷ [])

abbrev with_class : CxxState
with_class =
    let struct : ClassId = record { 0 = 0 } in
    let of : CxxType = pointer_to (class_type 0) in
    let g : CxxType = function_type (fundamental base.Void) no_types in
    let all : List CxxFact =
    fact 0 (spelled (codes "S")) (facts.class struct false) ∷ fact 0 unnamed (facts.scope (Some (record { 0 = 0 })) (kind.Class struct)) ∷ fact 1 (spelled (codes "S")) (facts.injected struct) ∷ class_member (spelled (codes "a")) int
    ∷ class_member (spelled (codes "b")) (pointer_to char) ∷ fact 1 unnamed (facts.function g member.Constructor implicit_flags 0 None) ∷ fact 1 unnamed (facts.complete struct) ∷ object_in 0 (spelled (codes "p")) of ∷ list_in 0 ∷ function (codes "g") g ∷ [] in
    let members : List CxxTree = simple (declarator 4 int [] ∷ []) ∷ simple (declarator 5 (pointer_to char) [] ∷ []) ∷ [] in
    let read : CxxState = reading all (tree_of (label 8 []) (class_tree members ∷ declarator 8 of [] ∷ []) ∷ simple (declarator 10 g [] ∷ []) ∷ []) in
    record read { graph = record { facts = read.graph.facts; classes = None ∷ []; patterns = [] } }

definition_of_a_class : text with_class ≡ codes "struct S__1;\nstruct S__1 {\n  int a__2;\n  char *b__3;\n};\nvoid g__4();\nS__1 *p__5;\n"
unfolding static_class names_of_text text_order lines text_name printed_name stem definition_words body_lines digits
definition_of_a_class = refl

-- struct A { }; struct B { }; struct D : A, B { int a; mutable int m; };
abbrev class_begun : ClassId → List ℕ → ℕ → List CxxFact
class_begun class name scope = fact 0 (spelled name) (facts.class class false) ∷ fact 0 unnamed (facts.scope (Some (record { 0 = 0 })) (kind.Class class)) ∷ fact scope (spelled name) (facts.injected class) ∷ []

abbrev class_ended : ClassId → ℕ → CxxFact
class_ended class scope = fact scope unnamed (facts.complete class)

abbrev with_bases : CxxState
with_bases =
    let one : ClassId = record { 0 = 0 } in
    let two : ClassId = record { 0 = 1 } in
    let derived : ClassId = record { 0 = 2 } in
    let all : List CxxFact =
    (class_begun one (codes "A") 1 ++ class_ended one 1 ∷ class_begun two (codes "B") 2) ++ class_ended two 2 ∷ class_begun derived (codes "D") 3
    ++ fact 3 unnamed (facts.ancestor derived one 0 access.Public) ∷ fact 3 unnamed (facts.ancestor derived two 1 access.Private)
    ∷ fact 3 (spelled (codes "a")) (facts.object int member.Nonstatic false None None) ∷ fact 3 (spelled (codes "m")) (facts.object int member.Nonstatic true None None) ∷ class_ended derived 3 ∷ [] in
    let members : List CxxTree = simple (declarator 14 int [] ∷ []) ∷ simple (declarator 15 int [] ∷ []) ∷ [] in
    let read : CxxState = reading all (tree_of (label 8 []) (class_tree [] ∷ []) ∷ tree_of (label 8 []) (class_tree [] ∷ []) ∷ tree_of (label 8 []) (class_tree members ∷ []) ∷ []) in
    record read { graph = record { facts = read.graph.facts; classes = None ∷ None ∷ None ∷ []; patterns = [] } }

definition_with_bases : text with_bases ≡ codes "struct A__1;\nstruct B__2;\nstruct D__3;\nstruct A__1 {\n};\nstruct B__2 {\n};\nstruct D__3 : A__1, B__2 {\n  int a__4;\n  mutable int m__5;\n};\n"
unfolding names_of_text text_order lines text_name printed_name stem definition_words body_lines digits
definition_with_bases = refl

-- enum E { a = 1 }; struct S { int n; int f(int) const; static void g(); static const int k = 3; static const E e = a; };
abbrev const : Cv
const = record no_cv { is_const = true }

abbrev member_here : List ℕ → Declares → CxxFact
member_here name what = fact 1 (spelled name) what

abbrev with_functions : CxxState
with_functions =
    let struct : ClassId = record { 0 = 0 } in
    let f : CxxType = function_of int (type_then int no_types) false const in
    let g : CxxType = function_type (fundamental base.Void) no_types in
    let e : CxxType = qualified const (enumeration 0) in
    let all : List CxxFact =
    fact 0 (spelled (codes "E")) (facts.enumeration 0) ∷ fact 0 (spelled (codes "a")) (facts.enumerator 0 (pos 1)) ∷ class_begun struct (codes "S") 1
    ++ member_here (codes "n") (facts.object int member.Nonstatic false None None)
    ∷ list_in 1 ∷ object_in 2 unnamed int ∷ member_here (codes "f") (facts.function f member.Nonstatic flags 0 None) ∷ list_in 1 ∷ member_here (codes "g") (facts.function g member.Static flags 0 None)
    ∷ member_here (codes "k") (facts.object (qualified const int) member.Static false None None) ∷ member_here (codes "k") (facts.object (qualified const int) member.Free false (Some (pos 3)) (Some (record { 0 = 12 })))
    ∷ member_here (codes "e") (facts.object e member.Static false None None) ∷ member_here (codes "e") (facts.object e member.Free false (Some (pos 1)) (Some (record { 0 = 14 })))
    ∷ fact 1 unnamed (facts.function g member.Constructor implicit_flags 0 None) ∷ class_ended struct 1 ∷ [] in
    let read : CxxState = reading all (tree_of (label 8 []) (class_tree (simple (declarator 6 int [] ∷ []) ∷ simple (declarator 9 f [] ∷ []) ∷ simple (declarator 11 g [] ∷ []) ∷ []) ∷ []) ∷ []) in
    record read { graph = record { facts = read.graph.facts; classes = None ∷ []; patterns = [] } }

functions_and_constants_of_a_class : text with_functions ≡ codes "struct S__1;\nenum E__2 { a__3 = 1 };\nstruct S__1 {\n  int n__4;\n  int f__5(int) const;\n  static void g__6();\n  static const int k__7 = 3;\n  static const E__2 e__8 = static_cast<E__2>(1);\n};\n"
unfolding names_of_text text_order lines text_name printed_name stem definition_words body_lines digits
functions_and_constants_of_a_class = refl

-- struct S { int f(int) const; static int f(); }; int h(S *p) { return p->f(S::f()) + (*p).f(0); }
abbrev static_call : CxxType → ℕ → ℕ → CxxTree
static_call class number target = tree_of (record (by_name (called number target)) { of = Some class }) []

-- a call of a member of an object or of what a pointer points to, by the production
abbrev member_call : ℕ → ℕ → ℕ → CxxTree → List CxxTree → CxxTree
member_call production number target object arguments =
    tree_of (called number target) (tree_of (record (by_name (label production (codes "("))) { target = Some target }) (object ∷ []) ∷ arguments)

abbrev with_calls_of_members : CxxState
with_calls_of_members =
    let struct : ClassId = record { 0 = 0 } in
    let one : CxxType = function_of int (type_then int no_types) false const in
    let other : CxxType = function_type int no_types in
    let pointer : CxxType = pointer_to (class_type 0) in
    let h : CxxType = function_type int (type_then pointer no_types) in
    let all : List CxxFact =
    class_begun struct (codes "S") 1
    ++ list_in 1 ∷ object_in 2 unnamed int ∷ member_here (codes "f") (facts.function one member.Nonstatic flags 0 None) ∷ list_in 1 ∷ member_here (codes "f") (facts.function other member.Static flags 0 None)
    ∷ class_ended struct 1 ∷ list_in 0 ∷ object_in 4 (spelled (codes "p")) pointer ∷ function (codes "h") h ∷ body_in 4 12 ∷ [] in
    let arrow : CxxTree = member_call 43 1 6 (named 11) (static_call (class_type 0) 0 8 ∷ []) in
    let dot : CxxTree = member_call 42 2 6 (tree_of (label 46 (codes "*")) (named 11 ∷ [])) (literal ∷ []) in
    let class : CxxTree = tree_of (label 8 []) (class_tree (simple (declarator 6 one [] ∷ []) ∷ simple (declarator 8 other [] ∷ []) ∷ []) ∷ []) in
    let read : CxxState = reading all (class ∷ defined_as 12 h 13 (returns (tree_of (label 50 (codes "+")) (arrow ∷ dot ∷ [])) ∷ []) ∷ []) in
    record read { graph = record { facts = read.graph.facts; classes = None ∷ []; patterns = [] } }

calls_of_functions_of_a_class : text with_calls_of_members
    ≡ codes "struct S__1;\nstruct S__1 {\n  int f__2(int) const;\n  static int f__3();\n};\nint h__4(S__1 *);\nint h__4(S__1 *p__5) {\n  return (*p__5).f__2(S__1::f__3()) + (*p__5).f__2(0);\n}\n"
unfolding pointed_words names_of_text text_order lines text_name printed_name stem definition_words class_declaring body_lines digits
calls_of_functions_of_a_class = refl

functions_of_a_class_by_their_numbers : functions_from with_calls_of_members (targets with_calls_of_members) ≡ codes "int S__1::f__3();\nint S__1::f__2(int) const;\nint S__1::f__2(int) const;\n"
unfolding function_text targets printed_calls statement_calls names_of_text text_order lines text_name printed_name stem class_declaring digits
functions_of_a_class_by_their_numbers = refl

-- struct S { int f(int) const; static int g(); }; int S::f(int a) const { return a; } int S::g() { return 0; }
abbrev with_functions_outside : CxxState
with_functions_outside =
    let struct : ClassId = record { 0 = 0 } in
    let one : CxxType = function_of int (type_then int no_types) false const in
    let other : CxxType = function_type int no_types in
    let all : List CxxFact =
    class_begun struct (codes "S") 1
    ++ list_in 1 ∷ object_in 2 unnamed int ∷ member_here (codes "f") (facts.function one member.Nonstatic flags 0 None) ∷ list_in 1 ∷ member_here (codes "g") (facts.function other member.Static flags 0 None)
    ∷ class_ended struct 1 ∷ list_in 1 ∷ object_in 4 (spelled (codes "a")) int ∷ member_here (codes "f") (facts.function one member.Nonstatic flags 0 (Some (record { 0 = 6 }))) ∷ body_in 4 12
    ∷ list_in 1 ∷ member_here (codes "g") (facts.function other member.Static flags 0 (Some (record { 0 = 8 }))) ∷ body_in 6 15 ∷ [] in
    let class : CxxTree = tree_of (label 8 []) (class_tree (simple (declarator 6 one [] ∷ []) ∷ simple (declarator 8 other [] ∷ []) ∷ []) ∷ []) in
    let read : CxxState = reading all (class ∷ defined_as 12 one 13 (returns (named 11) ∷ []) ∷ defined_as 15 other 16 (returns literal ∷ []) ∷ []) in
    record read { graph = record { facts = read.graph.facts; classes = None ∷ []; patterns = [] } }

functions_outside_of_their_class : text with_functions_outside ≡ codes "struct S__1;\nstruct S__1 {\n  int f__2(int) const;\n  static int g__3();\n};\nint S__1::f__2(int a__4) const {\n  return a__4;\n}\nint S__1::g__3() {\n  return 0;\n}\n"
unfolding names_of_text text_order lines text_name printed_name stem definition_words class_declaring body_lines digits
functions_outside_of_their_class = refl

-- struct A { int f(int); virtual void g() const; };
-- struct B { char f(int); virtual void g() const = 0; int f(int) const; void g(); static int f(int, ...); };
-- int f(int);
abbrev virtual_flags : FunctionFlags
virtual_flags = record flags { is_virtual = true }

abbrev pure_flags : FunctionFlags
pure_flags = record virtual_flags { is_pure = true }

abbrev with_shared_numbers : CxxState
with_shared_numbers =
    let one : ClassId = record { 0 = 0 } in
    let two : ClassId = record { 0 = 1 } in
    let f : CxxType = function_type int (type_then int no_types) in
    let g : CxxType = function_of (fundamental base.Void) no_types false const in
    let all : List CxxFact =
    (class_begun one (codes "A") 1
    ++ list_in 1 ∷ object_in 2 unnamed int ∷ fact 1 (spelled (codes "f")) (facts.function f member.Nonstatic flags 0 None) ∷ list_in 1 ∷ fact 1 (spelled (codes "g")) (facts.function g member.Nonstatic virtual_flags 0 None)
    ∷ class_ended one 1 ∷ class_begun two (codes "B") 4)
    ++ list_in 4 ∷ object_in 5 unnamed int ∷ fact 4 (spelled (codes "f")) (facts.function (function_type char (type_then int no_types)) member.Nonstatic flags 0 None)
    ∷ list_in 4 ∷ fact 4 (spelled (codes "g")) (facts.function g member.Nonstatic pure_flags 0 None)
    ∷ list_in 4 ∷ object_in 7 unnamed int ∷ fact 4 (spelled (codes "f")) (facts.function (function_of int (type_then int no_types) false const) member.Nonstatic flags 0 None)
    ∷ list_in 4 ∷ fact 4 (spelled (codes "g")) (facts.function (function_type (fundamental base.Void) no_types) member.Nonstatic flags 0 None)
    ∷ list_in 4 ∷ object_in 9 unnamed int ∷ fact 4 (spelled (codes "f")) (facts.function (function_of int (type_then int no_types) true no_cv) member.Static flags 0 None)
    ∷ class_ended two 4 ∷ list_in 0 ∷ object_in 10 unnamed int ∷ function (codes "f") f ∷ [] in
    let read : CxxState = reading all [] in
    record read { graph = record { facts = read.graph.facts; classes = None ∷ None ∷ []; patterns = [] } }

functions_of_classes_with_one_number : text with_shared_numbers
    ≡ codes "struct A__1;\nstruct B__2;\nstruct A__1 {\n  int f__3(int);\n  virtual void g__4() const;\n};\nstruct B__2 {\n  char f__3(int);\n  virtual void g__4() const = 0;\n  int f__5(int) const;\n  void g__6();\n  static int f__7(int, ...);\n};\nint f__8(int);\n"
unfolding names_of_text text_order lines text_name printed_name stem definition_words body_lines digits
functions_of_classes_with_one_number = refl

-- each is declared behind its class, and that of no class without one
functions_told_apart_by_their_classes : functions_from with_shared_numbers (6 ∷ 15 ∷ 17 ∷ 29 ∷ []) ≡ codes "int A__1::f__3(int);\nchar B__2::f__3(int);\nvoid B__2::g__4() const;\nint f__8(int);\n"
unfolding function_text names_of_text text_order lines text_name printed_name stem class_declaring digits
functions_told_apart_by_their_classes = refl

name_of_a_called_function : (function_named (names_of_text with_shared_numbers) with_shared_numbers.graph 15).name ≡ codes "B__2::f__3"
unfolding names_of_text text_order lines text_name printed_name stem class_declaring digits
name_of_a_called_function = refl

-- struct S { int f() { return 0; } } g() { return g(); }
abbrev inner_definition : CxxTree
inner_definition = defined_as 5 (function_type int no_types) 6 (returns literal ∷ [])

abbrev outer_definition : CxxTree
outer_definition =
    tree_of (label 15 []) (tree_of (label 53 []) (tree_of (label 10 (codes "struct")) (inner_definition ∷ []) ∷ []) ∷ declarator 9 (function_type (class_type 0) no_types) [] ∷ tree_of (record (label 23 []) { target = Some 10 }) (returns (call 0 9 []) ∷ []) ∷ [])

inner_definitions_first : definitions_of outer_definition ≡ inner_definition ∷ outer_definition ∷ []
inner_definitions_first = refl
