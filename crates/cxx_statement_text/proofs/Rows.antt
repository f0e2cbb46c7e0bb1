-- Worked statements: their texts, and the calls that are listed of them.
use Rattle.std.specs.Prelude.{ℕ, ℤ, pos, negsuc, ◌≡◌, refl, true, false, nat_eq, if◌then◌else◌, List, [], ◌∷◌, map, slice_index_or, Option, Some, None, codes}
use Rattle.cxx_model.specs.declared.base.Base.TheVariants as base
use Rattle.cxx_model.specs.declared.facts.Access.TheVariants as access
use Rattle.cxx_model.specs.declared.facts.FunctionFlags.{FunctionFlags}
use Rattle.cxx_model.specs.declared.facts.MemberKind.TheVariants as member
use Rattle.cxx_model.specs.declared.types.FactId.{FactId}
use Rattle.cxx_model.specs.Facts.Declarations as facts
use Rattle.cxx_model.specs.Facts.Declarations.{CxxFact, Declares, spelled}
use Rattle.cxx_model.specs.Text.Lexemes.{nowhere}
use Rattle.cxx_model.specs.Types.Trees.{CxxType, fundamental, pointer_to, array_of, function_of, qualified, no_types, type_then, number_bound}
use Rattle.cxx_reading.specs.Declarators.{no_cv}
use Rattle.cxx_reading.specs.Trees.{CxxTree, Label, tree_of}
use Rattle.std.specs.Fmt.{digits}
use Rattle.cxx_page.specs.Sheets.{text_of_lines}
use Rattle.cxx_statement_text.specs.Calls.{statement_calls}
use Rattle.cxx_statement_text.specs.Objects.{Scene}
use Rattle.cxx_statement_text.specs.Statements.{body_lines, statement_lines}

-- ---- by what they are written

abbrev int : CxxType
int = fundamental base.Int

abbrev flags : FunctionFlags
flags = record { is_virtual = false; is_pure = false; is_explicit = false; is_implicit = false }

abbrev fact : Declares → CxxFact
fact what = record { place = nowhere; scope = 0; name = spelled []; access = access.Public; what = what }

abbrev object_fact : CxxType → Option FactId → CxxFact
object_fact of first = fact (facts.object of member.Free false None first)

abbrev function_fact : CxxType → CxxFact
function_fact of = fact (facts.function of member.Free flags 0 None)

-- int f(); void g(int); int x; int y; int *p; typedef int T; extern int x; const char *s;
abbrev declared : List CxxFact
declared =
    function_fact (function_of int no_types false no_cv) ∷
    function_fact (function_of (fundamental base.Void) (type_then int no_types) false no_cv) ∷
    object_fact int None ∷ object_fact int None ∷ object_fact (pointer_to int) None ∷
    fact (facts.synonym int) ∷
    object_fact int (Some (record { 0 = 2 })) ∷
    object_fact (pointer_to (qualified (record { is_const = true; is_volatile = false }) (fundamental base.Char))) None ∷ []

abbrev names : List (List ℕ)
names = codes "f__1" ∷ codes "g__2" ∷ codes "x__3" ∷ codes "y__4" ∷ codes "p__5" ∷ codes "T__6" ∷ codes "w__7" ∷ codes "s__8" ∷ []

-- the value of a constant is said by its counts, of which the second one is that of a negative one
abbrev value : CxxTree → ℤ
value tree = if nat_eq tree.label.last 0 then pos tree.label.first else negsuc tree.label.first

abbrev scene : Scene
scene = record {
  tags = record { class_name = λ n. codes "C"; enumeration_name = λ n. codes "E__9" };
  name = λ n. slice_index_or names n [];
  facts = declared;
  value = value;
}

-- ---- expressions

abbrev label : ℕ → List ℕ → Label
label production spelling = record { production = production; spelling = spelling; first = 0; last = 0; start = nowhere; place = nowhere; path = None; operand = None; of = None; target = None; call = None }

abbrev literal : List ℕ → CxxTree
literal spelling = tree_of (label 34 spelling) []

abbrev named : ℕ → CxxTree
named n = tree_of (record (label 36 []) { target = Some n }) []

abbrev x : CxxTree
x = named 2

abbrev y : CxxTree
y = named 3

-- the call of a function with a number, by its name
abbrev call_as : ℕ → ℕ → List CxxTree → CxxTree
call_as number target arguments = tree_of (record (label 40 []) { path = Some (record { global = false; parts = [] }); target = Some target; call = Some number }) arguments

abbrev call : ℕ → List CxxTree → CxxTree
call target arguments = call_as 0 target arguments

abbrev f : CxxTree
f = call 0 []

abbrev g : CxxTree → CxxTree
g argument = call 1 (argument ∷ [])

abbrev converted : CxxType → CxxTree → CxxTree
converted of tree = tree_of (record (label 48 []) { of = Some of }) (tree ∷ [])

abbrev bool : CxxTree → CxxTree
bool tree = converted (fundamental base.Bool) tree

abbrev prefix : List ℕ → CxxTree → CxxTree
prefix spelling tree = tree_of (label 46 spelling) (tree ∷ [])

abbrev postfix : List ℕ → CxxTree → CxxTree
postfix spelling tree = tree_of (label 45 spelling) (tree ∷ [])

abbrev infix_ : List ℕ → CxxTree → CxxTree → CxxTree
infix_ spelling one two = tree_of (label 50 spelling) (one ∷ two ∷ [])

abbrev comma : CxxTree → CxxTree → CxxTree
comma one two = tree_of (label 52 (codes ",")) (one ∷ two ∷ [])

abbrev constant : ℕ → CxxTree
constant n = tree_of (record (label 34 (codes "1")) { first = n }) []

abbrev negative : ℕ → CxxTree
negative n = tree_of (record (label 46 (codes "-")) { first = n; last = 1 }) (literal (codes "1") ∷ [])

-- ---- declarations

abbrev declarator : List ℕ → ℕ → CxxType → List CxxTree → CxxTree
declarator spelling n of parts = tree_of (record (label 20 spelling) { target = Some n; of = Some of }) parts

abbrev initial : CxxTree → CxxTree
initial tree = tree_of (record (label 22 (codes "=")) { of = Some int }) (tree ∷ [])

abbrev object : ℕ → CxxTree → CxxTree
object n tree = declarator [] n int (initial tree ∷ [])

abbrev declaration : List ℕ → List CxxTree → CxxTree
declaration storage declarators = tree_of (label 24 []) (tree_of (label 8 []) (tree_of (label 53 storage) [] ∷ declarators) ∷ [])

abbrev declares : List CxxTree → CxxTree
declares declarators = declaration [] declarators

abbrev a_typedef : CxxTree
a_typedef = declaration (codes "typedef") (declarator [] 5 int [] ∷ [])

-- ---- statements

abbrev block : List CxxTree → CxxTree
block parts = tree_of (label 23 []) parts

abbrev expression : CxxTree → CxxTree
expression tree = tree_of (label 25 []) (tree ∷ [])

abbrev empty : CxxTree
empty = tree_of (label 25 []) []

abbrev if_ : CxxTree → CxxTree → CxxTree
if_ condition one = tree_of (label 26 []) (condition ∷ one ∷ [])

abbrev if_else : CxxTree → CxxTree → CxxTree → CxxTree
if_else condition one two = tree_of (label 26 []) (condition ∷ one ∷ two ∷ [])

abbrev switch : CxxTree → CxxTree → CxxTree
switch condition one = tree_of (label 27 []) (condition ∷ one ∷ [])

abbrev case_ : CxxTree → CxxTree
case_ tree = tree_of (label 28 (codes "case")) (tree ∷ [])

abbrev default : CxxTree
default = tree_of (label 28 (codes "default")) []

abbrev labelled : List CxxTree → CxxTree
labelled parts = tree_of (label 28 []) parts

abbrev while_ : CxxTree → CxxTree → CxxTree
while_ condition one = tree_of (label 29 []) (condition ∷ one ∷ [])

abbrev do_ : CxxTree → CxxTree → CxxTree
do_ one condition = tree_of (label 30 []) (one ∷ condition ∷ [])

abbrev for_ : CxxTree → CxxTree → CxxTree → CxxTree → CxxTree
for_ first condition step one = tree_of (label 31 []) (first ∷ condition ∷ step ∷ one ∷ [])

abbrev break_ : CxxTree
break_ = tree_of (label 32 (codes "break")) []

abbrev continue_ : CxxTree
continue_ = tree_of (label 32 (codes "continue")) []

abbrev returns : CxxTree → CxxTree
returns tree = tree_of (label 33 []) (tree ∷ [])

abbrev returns_nothing : CxxTree
returns_nothing = tree_of (label 33 []) []

abbrev text : CxxTree → List ℕ
text tree = text_of_lines (statement_lines scene 0 tree)

abbrev body : CxxTree → List ℕ
body tree = text_of_lines (body_lines scene 1 tree)

-- ---- rows

-- { g(1); ; }
blocks : text (block (expression (g (literal (codes "1"))) ∷ empty ∷ block [] ∷ [])) ≡ codes "{\n  g__2(1);\n  ;\n  {\n  }\n}\n"
unfolding statement_lines
blocks = refl

-- in the braces of a function
bodies : body (block (expression (g x) ∷ returns_nothing ∷ [])) ≡ codes "  g__2(x__3);\n  return;\n"
unfolding body_lines
bodies = refl

-- static int x = f(0), y = x;
static_objects : text (declaration (codes "static") (object 2 f ∷ object 3 x ∷ [])) ≡ codes "static int x__3 = f__1();\nstatic int y__4 = x__3;\n"
unfolding statement_lines
static_objects = refl

-- register int x; const char *s = "a" "b";
other_storage : text (block (declaration (codes "register") (declarator [] 2 int [] ∷ []) ∷ declares (declarator [] 7 (pointer_to (qualified (record { is_const = true; is_volatile = false }) (fundamental base.Char))) (initial (literal (codes "\"a\" \"b\"")) ∷ []) ∷ []) ∷ [])) ≡ codes "{\n  int x__3;\n  const char *s__8 = \"a\" \"b\";\n}\n"
unfolding statement_lines
other_storage = refl

-- const int k = n, *p = &k, f(), a[2]; of these a function prints nothing
several_declarators : text (declares (object 2 f ∷ declarator [] 0 (function_of int no_types false no_cv) [] ∷ declarator [] 4 (pointer_to int) (initial (prefix (codes "&") x) ∷ []) ∷ declarator [] 3 (array_of int (number_bound 2)) [] ∷ [])) ≡ codes "int x__3 = f__1();\nint *p__5 = &x__3;\nint y__4[2];\n"
unfolding statement_lines digits
several_declarators = refl

-- extern int x; typedef int T;
print_nothing : text (block (declaration (codes "extern") (declarator (codes "extern") 6 int [] ∷ []) ∷ a_typedef ∷ [])) ≡ codes "{\n}\n"
unfolding statement_lines
print_nothing = refl

-- if (x) int y = 1; else if (x == 2) g(1); else typedef int T;
sub_statements : text (if_else (bool x) (declares (object 3 (literal (codes "1")) ∷ [])) (if_else (infix_ (codes "==") x (literal (codes "2"))) (expression (g (literal (codes "1")))) a_typedef)) ≡ codes "if (static_cast<bool>(x__3)) {\n  int y__4 = 1;\n} else {\n  if (x__3 == 2) {\n    g__2(1);\n  } else {\n  }\n}\n"
unfolding statement_lines
sub_statements = refl

-- do g(x); while (x--);
do_of_a_statement : text (do_ (expression (g x)) (bool (postfix (codes "--") x))) ≡ codes "do {\n  g__2(x__3);\n} while (static_cast<bool>(x__3--));\n"
unfolding statement_lines
do_of_a_statement = refl

-- while (x) ;
while_of_nothing : text (while_ (bool x) empty) ≡ codes "while (static_cast<bool>(x__3)) {\n  ;\n}\n"
unfolding statement_lines
while_of_nothing = refl

-- if (x) { } else { ; }
empty_blocks : text (if_else (bool x) (block []) (block (empty ∷ []))) ≡ codes "if (static_cast<bool>(x__3)) {\n} else {\n  ;\n}\n"
unfolding statement_lines
empty_blocks = refl

-- if (T(x), y) { }
comma_in_a_condition : text (if_ (bool (comma (converted int x) y)) (block [])) ≡ codes "if (static_cast<bool>(static_cast<int>(x__3), y__4)) {\n}\n"
unfolding statement_lines
comma_in_a_condition = refl

-- if (int x = f()) g(x); else g(-x);
declared_in_if : text (if_else (bool (declares (object 2 f ∷ []))) (expression (g x)) (expression (g (prefix (codes "-") x)))) ≡ codes "{\n  int x__3 = f__1();\n  if (static_cast<bool>(x__3)) {\n    g__2(x__3);\n  } else {\n    g__2(-x__3);\n  }\n}\n"
unfolding statement_lines
declared_in_if = refl

-- switch (int x = f()) { case 1: g(x); break; default: ; }
declared_in_switch : text (switch (declares (object 2 f ∷ [])) (block (labelled (case_ (constant 1) ∷ expression (g x) ∷ []) ∷ break_ ∷ labelled (default ∷ empty ∷ []) ∷ []))) ≡ codes "{\n  int x__3 = f__1();\n  switch (x__3) {\n    case 1:\n    g__2(x__3);\n    break;\n    default:\n    ;\n  }\n}\n"
unfolding statement_lines digits
declared_in_switch = refl

-- while (int x = f()) g(x);
declared_in_while : text (while_ (bool (declares (object 2 f ∷ []))) (expression (g x))) ≡ codes "while (true) {\n  int x__3 = f__1();\n  if (!static_cast<bool>(x__3)) {\n    break;\n  }\n  {\n    g__2(x__3);\n  }\n}\n"
unfolding statement_lines
declared_in_while = refl

-- for (int x = 0; bool y = f(); ++x) { if (y) continue; g(x); }
declared_in_for : text (for_ (declares (object 2 (literal (codes "0")) ∷ [])) (declares (declarator [] 3 (fundamental base.Bool) (initial (bool f) ∷ []) ∷ [])) (prefix (codes "++") x) (block (if_ y continue_ ∷ expression (g x) ∷ []))) ≡ codes "for (int x__3 = 0; true; ++x__3) {\n  bool y__4 = static_cast<bool>(f__1());\n  if (!y__4) {\n    break;\n  }\n  {\n    if (y__4) {\n      continue;\n    }\n    g__2(x__3);\n  }\n}\n"
unfolding statement_lines
declared_in_for = refl

-- if (f()) if (int x = f()) ;
one_pair_of_braces : text (if_ (bool f) (if_ (bool (declares (object 2 f ∷ []))) empty)) ≡ codes "if (static_cast<bool>(f__1())) {\n  int x__3 = f__1();\n  if (static_cast<bool>(x__3)) {\n    ;\n  }\n}\n"
unfolding statement_lines
one_pair_of_braces = refl

-- for (int x = 0, y = 0; int w = f(); ++x) while (int w = x) break;
both_forms : text (for_ (declares (object 2 (literal (codes "0")) ∷ object 3 (literal (codes "0")) ∷ [])) (bool (declares (declarator [] 4 (pointer_to int) (initial f ∷ []) ∷ []))) (prefix (codes "++") x) (while_ (bool (declares (object 7 x ∷ []))) break_)) ≡ codes "{\n  int x__3 = 0;\n  int y__4 = 0;\n  for (; true; ++x__3) {\n    int *p__5 = f__1();\n    if (!static_cast<bool>(p__5)) {\n      break;\n    }\n    {\n      while (true) {\n        int s__8 = x__3;\n        if (!static_cast<bool>(s__8)) {\n          break;\n        }\n        {\n          break;\n        }\n      }\n    }\n  }\n}\n"
unfolding statement_lines
both_forms = refl

-- for (int x = 0, *p = 0; x < 3; ++x) g(x);
for_with_several : text (for_ (declares (object 2 (literal (codes "0")) ∷ declarator [] 4 (pointer_to int) (initial (converted (pointer_to int) (literal (codes "0"))) ∷ []) ∷ [])) (infix_ (codes "<") x (literal (codes "3"))) (prefix (codes "++") x) (expression (g x))) ≡ codes "{\n  int x__3 = 0;\n  int *p__5 = static_cast<int *>(0);\n  for (; x__3 < 3; ++x__3) {\n    g__2(x__3);\n  }\n}\n"
unfolding statement_lines
for_with_several = refl

-- for (;;) break;
for_without_parts : text (for_ empty empty empty break_) ≡ codes "for (;;) {\n  break;\n}\n"
unfolding statement_lines
for_without_parts = refl

-- for (int x = 0; ; ) ;
for_with_one : text (for_ (declares (object 2 (literal (codes "0")) ∷ [])) empty empty empty) ≡ codes "for (int x__3 = 0;;) {\n  ;\n}\n"
unfolding statement_lines
for_with_one = refl

-- for (g(x); x; ) ;
for_with_an_expression : text (for_ (expression (g x)) (bool x) empty empty) ≡ codes "for (g__2(x__3); static_cast<bool>(x__3);) {\n  ;\n}\n"
unfolding statement_lines
for_with_an_expression = refl

-- for (typedef int T; ; ) { int y; break; }
for_that_prints_nothing : text (for_ a_typedef empty empty (block (declares (declarator [] 3 int [] ∷ []) ∷ break_ ∷ []))) ≡ codes "for (;;) {\n  int y__4;\n  break;\n}\n"
unfolding statement_lines
for_that_prints_nothing = refl

-- for (static int x = 0, f(); x < f(); ++x) ;
for_with_a_function : text (for_ (declaration (codes "static") (object 2 (literal (codes "0")) ∷ declarator [] 0 (function_of int no_types false no_cv) [] ∷ [])) (infix_ (codes "<") x f) (prefix (codes "++") x) empty) ≡ codes "for (static int x__3 = 0; x__3 < f__1(); ++x__3) {\n  ;\n}\n"
unfolding statement_lines
for_with_a_function = refl

-- switch (x) { case a: case b: g(1); case E(3): typedef int T; default: int y = 2; }
labels : text (switch (converted int x) (block (labelled (case_ (constant 0) ∷ case_ (constant 7) ∷ expression (g (literal (codes "1"))) ∷ []) ∷ labelled (case_ (constant 3) ∷ a_typedef ∷ []) ∷ labelled (default ∷ declares (object 3 (literal (codes "2")) ∷ []) ∷ []) ∷ []))) ≡ codes "switch (static_cast<int>(x__3)) {\n  case 0:\n  case 7:\n  g__2(1);\n  case 3:\n  ;\n  default:\n  int y__4 = 2;\n}\n"
unfolding statement_lines digits
labels = refl

-- switch (x) { case -9223372036854775807L - 1: ; case -5: ; case 2147483648: ; }
values_of_labels : text (switch x (block (labelled (case_ (negative 9223372036854775807) ∷ empty ∷ []) ∷ labelled (case_ (negative 4) ∷ empty ∷ []) ∷ labelled (case_ (constant 2147483648) ∷ empty ∷ []) ∷ []))) ≡ codes "switch (x__3) {\n  case -9223372036854775807L - 1:\n  ;\n  case -5:\n  ;\n  case 2147483648L:\n  ;\n}\n"
unfolding statement_lines digits
values_of_labels = refl

-- switch (x) case 'x': { g(3); }
label_before_a_block : text (switch (converted int x) (labelled (case_ (constant 120) ∷ block (expression (g (literal (codes "3"))) ∷ []) ∷ []))) ≡ codes "switch (static_cast<int>(x__3)) {\n  case 120:\n  {\n    g__2(3);\n  }\n}\n"
unfolding statement_lines digits
label_before_a_block = refl

-- return c;
returned_value : text (returns (converted (fundamental base.Long) x)) ≡ codes "return static_cast<long>(x__3);\n"
unfolding statement_lines
returned_value = refl

-- return; return v();
returned_nothing : text (block (returns_nothing ∷ returns f ∷ [])) ≡ codes "{\n  return;\n  return f__1();\n}\n"
unfolding statement_lines
returned_nothing = refl

-- ---- calls

-- the call f() with a number
abbrev numbered : ℕ → CxxTree
numbered n = call_as n 0 []

abbrev numbers : CxxTree → List ℕ
numbers tree = map (λ call. call.number) (statement_calls declared tree)

-- if (int x = f()) f(); else return f();
calls_of_an_if : numbers (if_else (bool (declares (object 2 (numbered 0) ∷ []))) (expression (numbered 1)) (returns (numbered 2))) ≡ 0 ∷ 1 ∷ 2 ∷ []
unfolding statement_calls
calls_of_an_if = refl

-- if (f()) f();
calls_without_an_else : numbers (if_ (bool (numbered 0)) (expression (numbered 1))) ≡ 0 ∷ 1 ∷ []
unfolding statement_calls
calls_without_an_else = refl

-- for (f(); f(); f()) f();
calls_of_a_for : numbers (for_ (expression (numbered 0)) (bool (numbered 1)) (expression (numbered 2)) (expression (numbered 3))) ≡ 0 ∷ 1 ∷ 2 ∷ 3 ∷ []
unfolding statement_calls
calls_of_a_for = refl

-- for (int x = f(), y = f(); f(); f()) { f(); { f(); } }
calls_of_several : numbers (for_ (declares (object 2 (numbered 0) ∷ object 3 (numbered 1) ∷ [])) (bool (numbered 2)) (numbered 3) (block (expression (numbered 4) ∷ block (expression (numbered 5) ∷ []) ∷ []))) ≡ 0 ∷ 1 ∷ 2 ∷ 3 ∷ 4 ∷ 5 ∷ []
unfolding statement_calls
calls_of_several = refl

-- for (int x = f(); int y = f(); f()) f(); where the second declaration stands behind the third call
calls_of_a_declared_condition : numbers (for_ (declares (object 2 (numbered 0) ∷ [])) (bool (declares (object 3 (numbered 1) ∷ []))) (numbered 2) (expression (numbered 3))) ≡ 0 ∷ 2 ∷ 1 ∷ 3 ∷ []
unfolding statement_calls
calls_of_a_declared_condition = refl

-- for (;;) f();
calls_without_a_head : numbers (for_ empty empty empty (expression (numbered 0))) ≡ 0 ∷ []
unfolding statement_calls
calls_without_a_head = refl

-- while (int x = f()) f();
calls_of_a_while : numbers (while_ (bool (declares (object 2 (numbered 0) ∷ []))) (expression (numbered 1))) ≡ 0 ∷ 1 ∷ []
unfolding statement_calls
calls_of_a_while = refl

-- switch (int x = f()) { case 0: case 1: f(); break; default: int y = f(); }
calls_behind_labels : numbers (switch (declares (object 2 (numbered 0) ∷ [])) (block (labelled (case_ (constant 0) ∷ case_ (constant 1) ∷ expression (numbered 1) ∷ []) ∷ break_ ∷ labelled (default ∷ declares (object 3 (numbered 2) ∷ []) ∷ []) ∷ []))) ≡ 0 ∷ 1 ∷ 2 ∷ []
unfolding statement_calls
calls_behind_labels = refl

-- do f(); while (f());
calls_of_a_do : numbers (do_ (expression (numbered 0)) (bool (numbered 1))) ≡ 0 ∷ 1 ∷ []
unfolding statement_calls
calls_of_a_do = refl

-- { static int x = g(f()), h(); extern int y; typedef int T; }, where g(f()) has the number 1
calls_of_objects : numbers (block (declaration (codes "static") (object 2 (call_as 1 1 (numbered 0 ∷ [])) ∷ declarator [] 0 (function_of int no_types false no_cv) [] ∷ []) ∷ declaration (codes "extern") (declarator (codes "extern") 6 int [] ∷ []) ∷ a_typedef ∷ [])) ≡ 0 ∷ 1 ∷ []
unfolding statement_calls
calls_of_objects = refl
