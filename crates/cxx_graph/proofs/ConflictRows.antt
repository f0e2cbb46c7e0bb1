-- Declarations that may and may not stand in one scope, each as two compilers have it.
use Rattle.std.specs.Prelude.{ℕ, ◌≡◌, true, false, List, [], ◌∷◌, ◌++◌, Option, Some, None, codes, pos, refl}
use Rattle.cxx_model.specs.declared.base.Base.TheVariants as base
use Rattle.cxx_model.specs.declared.facts.Access.TheVariants.{Public}
use Rattle.cxx_model.specs.declared.facts.FunctionFlags.{FunctionFlags}
use Rattle.cxx_model.specs.declared.facts.MemberKind.{MemberKind}
use Rattle.cxx_model.specs.declared.facts.MemberKind.TheVariants as member
use Rattle.cxx_model.specs.declared.facts.ScopeKind.{ScopeKind}
use Rattle.cxx_model.specs.declared.facts.ScopeKind.TheVariants as kind
use Rattle.cxx_model.specs.declared.types.ClassId.{ClassId}
use Rattle.cxx_model.specs.declared.types.Cv.{Cv}
use Rattle.cxx_model.specs.Facts.Conflicts.{defined_before, first_conflict, given_before}
use Rattle.cxx_model.specs.Facts.Entities.{of_fact, object_type, object_value}
use Rattle.cxx_model.specs.Facts.Declarations as facts
use Rattle.cxx_model.specs.Facts.Declarations.{CxxFact, CxxGraph, CxxName, CxxParameter, CxxPattern, Declares, unnamed, spelled, conversion_to}
use Rattle.cxx_model.specs.Types.Trees.{CxxType, CxxTypes, fundamental, class_type, pointer_to, array_of, function_of, qualified, type_parameter, no_types, type_then, unknown_bound, number_bound, argument_then, no_arguments, type_argument, normal}

-- ---- how rows are written

abbrev no_cv : Cv
no_cv = record { is_const = false; is_volatile = false }

abbrev const_cv : Cv
const_cv = record { is_const = true; is_volatile = false }

abbrev int : CxxType
int = fundamental base.Int

abbrev long : CxxType
long = fundamental base.Long

abbrev void : CxxType
void = fundamental base.Void

abbrev one : CxxType → CxxTypes
one t = type_then t no_types

-- a function type in the one form
abbrev from_to : CxxType → CxxType → CxxType
from_to t r = normal (function_of r (one t) false no_cv)

abbrev no_flags : FunctionFlags
no_flags = record { is_virtual = false; is_pure = false; is_explicit = false; is_implicit = false }

abbrev fn : MemberKind → CxxType → Declares
fn kind of = facts.function of kind no_flags 0 None

abbrev obj : CxxType → Declares
obj of = facts.object of member.Free false None None

abbrev data_member : MemberKind → Declares
data_member kind = facts.object int kind false None None

abbrev put : ℕ → CxxName → Declares → CxxFact
put scope name what = record { place = record { line = 1; column = 1 }; scope = scope; name = name; access = Public; what = what }

abbrev x : CxxName
x = spelled (codes "x")

-- scope 0 is that of the unit
abbrev unit : CxxFact
unit = put 0 unnamed (facts.scope None kind.Space)

abbrev named_x : List Declares → List CxxFact
named_x [] = []
named_x (what ∷ others) = put 0 x what ∷ named_x others

abbrev graph_of : List CxxFact → List CxxPattern → CxxGraph
graph_of all patterns = record { facts = all; classes = []; patterns = patterns }

-- `x` is declared in the unit, and once more; fact 1 is its first declaration
abbrev after : List Declares → Declares → Option ℕ
after old new = first_conflict (graph_of (unit ∷ named_x old) []) (put 0 x new)

-- ---- functions

-- int x(int); long x(int);
other-result : after (fn member.Free (from_to int int) ∷ []) (fn member.Free (from_to int long)) ≡ Some 1
other-result = refl

-- int x(int); int x(int);
same-function : after (fn member.Free (from_to int int) ∷ []) (fn member.Free (from_to int int)) ≡ None
same-function = refl

-- int x(int); long x(long);
overload : after (fn member.Free (from_to int int) ∷ []) (fn member.Free (from_to long long)) ≡ None
overload = refl

-- int x(int *); long x(int[3]);
decayed-parameter : after (fn member.Free (from_to (pointer_to int) int) ∷ []) (fn member.Free (from_to (array_of int (number_bound 3)) long)) ≡ Some 1
decayed-parameter = refl

-- int x(int); long x(const int);
const-parameter : after (fn member.Free (from_to int int) ∷ []) (fn member.Free (from_to (qualified const_cv int) long)) ≡ Some 1
const-parameter = refl

-- int x(int); long x(int, ...);
ellipsis-overloads : after (fn member.Free (from_to int int) ∷ []) (fn member.Free (function_of long (one int) true no_cv)) ≡ None
ellipsis-overloads = refl

-- int x(long); int x(int); long x(int);
second-of-two : after (fn member.Free (from_to long int) ∷ fn member.Free (from_to int int) ∷ []) (fn member.Free (from_to int long)) ≡ Some 2
second-of-two = refl

-- ---- objects

-- extern int x; extern int x;
same-object : after (obj int ∷ []) (obj int) ≡ None
same-object = refl

-- extern int x; extern long x;
other-object : after (obj int ∷ []) (obj long) ≡ Some 1
other-object = refl

-- extern int x; extern const int x;
const-object : after (obj int ∷ []) (obj (qualified const_cv int)) ≡ Some 1
const-object = refl

-- extern int x[]; extern int x[3];
bound-later : after (obj (array_of int unknown_bound) ∷ []) (obj (array_of int (number_bound 3))) ≡ None
bound-later = refl

-- extern int x[2]; extern int x[3];
two-bounds : after (obj (array_of int (number_bound 2)) ∷ []) (obj (array_of int (number_bound 3))) ≡ Some 1
two-bounds = refl

-- int x(int); int x;
function-then-object : after (fn member.Free (from_to int int) ∷ []) (obj int) ≡ Some 1
function-then-object = refl

-- ---- types

-- struct x; int x;
class-then-object : after (facts.class (record { 0 = 0 }) false ∷ []) (obj int) ≡ None
class-then-object = refl

-- enum E { x }; struct x { };
enumerator-then-class : after (facts.enumerator 0 (pos 0) ∷ []) (facts.class (record { 0 = 0 }) false) ≡ None
enumerator-then-class = refl

-- enum E { x }; int x;
enumerator-then-object : after (facts.enumerator 0 (pos 0) ∷ []) (obj int) ≡ Some 1
enumerator-then-object = refl

-- typedef int x; int x;
synonym-then-object : after (facts.synonym int ∷ []) (obj int) ≡ Some 1
synonym-then-object = refl

-- typedef int x; typedef int x;
same-synonym : after (facts.synonym int ∷ []) (facts.synonym int) ≡ None
same-synonym = refl

-- typedef int x; typedef long x;
other-synonym : after (facts.synonym int ∷ []) (facts.synonym long) ≡ Some 1
other-synonym = refl

-- struct x; typedef x x;
synonym-of-itself : after (facts.class (record { 0 = 0 }) false ∷ []) (facts.synonym (class_type 0)) ≡ None
synonym-of-itself = refl

-- struct x; typedef int x;
class-then-synonym : after (facts.class (record { 0 = 0 }) false ∷ []) (facts.synonym int) ≡ Some 1
class-then-synonym = refl

-- enum x { a }; enum x { b };
two-enumerations : after (facts.enumeration 0 ∷ []) (facts.enumeration 1) ≡ Some 1
two-enumerations = refl

-- enum x { a }; int x; enum x { b };
hidden-enumeration : after (facts.enumeration 0 ∷ obj int ∷ []) (facts.enumeration 1) ≡ Some 1
hidden-enumeration = refl

-- namespace x { } namespace x { }
same-namespace : after (facts.namespace (record { 0 = 1 }) ∷ []) (facts.namespace (record { 0 = 1 })) ≡ None
same-namespace = refl

-- namespace x { } int x;
namespace-then-object : after (facts.namespace (record { 0 = 1 }) ∷ []) (obj int) ≡ Some 1
namespace-then-object = refl

-- ---- templates

abbrev type_parameters : List CxxParameter
type_parameters = record { of = None; fallback = None } ∷ []

abbrev class_of : Option CxxType → Option ClassId
class_of None = Some (record { 0 = 0 })
class_of (Some of) = None

abbrev pattern : Option CxxType → CxxPattern
pattern of = record { parameters = type_parameters; primary = None; arguments = no_arguments; of = of; class = class_of of }

abbrev constant_template : CxxType
constant_template = normal (function_of void (one (type_parameter 0 0)) false const_cv)

-- a class template; `void x(T)`, `int x(T)`, `void x(T *)` and `void x(T) const`; a partial specialisation of the first
abbrev patterns : List CxxPattern
patterns = pattern None ∷ pattern (Some (from_to (type_parameter 0 0) void)) ∷ pattern (Some (from_to (type_parameter 0 0) int)) ∷ pattern (Some (from_to (pointer_to (type_parameter 0 0)) void)) ∷ pattern (Some constant_template)
    ∷ record { parameters = type_parameters; primary = Some (record { 0 = 0 }); arguments = argument_then (type_argument (pointer_to (type_parameter 0 0))) no_arguments; of = None; class = Some (record { 0 = 1 }) } ∷ []

abbrev template : MemberKind → ℕ → Declares
template kind n = facts.template (record { 0 = n }) kind 0 false None

abbrev with_templates : List Declares → Declares → Option ℕ
with_templates old new = first_conflict (graph_of (unit ∷ named_x old) patterns) (put 0 x new)

-- void x(int); template<class T> void x(T);
function-and-template : with_templates (fn member.Free (from_to int void) ∷ []) (template member.Free 1) ≡ None
function-and-template = refl

-- template<class T> void x(T); template<class T> int x(T);
two-templates : with_templates (template member.Free 1 ∷ []) (template member.Free 2) ≡ None
two-templates = refl

-- template<class T> struct x { }; void x(int);
class-template-and-function : with_templates (template member.Free 0 ∷ []) (fn member.Free (from_to int void)) ≡ Some 1
class-template-and-function = refl

-- template<class T> struct x { }; extern int x;
class-template-and-object : with_templates (template member.Free 0 ∷ []) (obj int) ≡ Some 1
class-template-and-object = refl

-- template<class T> struct x; template<class T> struct x { };
same-class-template : with_templates (template member.Free 0 ∷ []) (template member.Free 0) ≡ None
same-class-template = refl

-- struct A { template<class T> void x(T); template<class T> void x(T); };
member-template-twice : with_templates (template member.Nonstatic 1 ∷ []) (template member.Nonstatic 1) ≡ Some 1
member-template-twice = refl

-- struct A { template<class T> void x(T); template<class T> void x(T *); };
member-template-overload : with_templates (template member.Nonstatic 1 ∷ []) (template member.Nonstatic 3) ≡ None
member-template-overload = refl

-- struct A { template<class T> static void x(T); template<class T> void x(T) const; };
static-and-const-member-template : with_templates (template member.Static 1 ∷ []) (template member.Nonstatic 4) ≡ Some 1
static-and-const-member-template = refl

-- struct A { template<class T> static void x(T); template<class T> void x(T); };
static-and-member-template : with_templates (template member.Static 1 ∷ []) (template member.Nonstatic 1) ≡ Some 1
static-and-member-template = refl

-- struct A { template<class T> void x(T); template<class T> void x(T) const; };
member-and-const-member-template : with_templates (template member.Nonstatic 1 ∷ []) (template member.Nonstatic 4) ≡ None
member-and-const-member-template = refl

-- struct A { template<class T> static void x(T); template<class T> int x(T); };
static-template-of-other-result : with_templates (template member.Static 1 ∷ []) (template member.Nonstatic 2) ≡ None
static-template-of-other-result = refl

-- struct x { }; template<class T> void x(T);
class-then-function-template : with_templates (facts.class (record { 0 = 0 }) false ∷ []) (template member.Free 1) ≡ None
class-then-function-template = refl

-- template<class T> void x(T); struct x { };
function-template-then-class : with_templates (template member.Free 1 ∷ []) (facts.class (record { 0 = 0 }) false) ≡ None
function-template-then-class = refl

-- enum x { }; template<class T> void x(T);
enumeration-then-function-template : with_templates (facts.enumeration 0 ∷ []) (template member.Free 1) ≡ None
enumeration-then-function-template = refl

-- template<class T> struct x { }; template<class T> void x(T);
class-template-and-function-template : with_templates (template member.Free 0 ∷ []) (template member.Free 1) ≡ Some 1
class-template-and-function-template = refl

-- struct x { }; template<class T> struct x { };
class-then-class-template : with_templates (facts.class (record { 0 = 0 }) false ∷ []) (template member.Free 0) ≡ Some 1
class-then-class-template = refl

-- extern int x; template<class T> void x(T);
object-then-function-template : with_templates (obj int ∷ []) (template member.Free 1) ≡ Some 1
object-then-function-template = refl

-- namespace x { } template<class T> void x(T);
namespace-then-function-template : with_templates (facts.namespace (record { 0 = 1 }) ∷ []) (template member.Free 1) ≡ Some 1
namespace-then-function-template = refl

-- typedef int x; template<class T> void x(T);
synonym-then-function-template : with_templates (facts.synonym int ∷ []) (template member.Free 1) ≡ Some 1
synonym-then-function-template = refl

-- template<class T> struct x { }; template<class T> struct x<T *> { };
partial-specialisation : first_conflict (graph_of (unit ∷ put 0 x (template member.Free 0) ∷ []) patterns) (put 0 unnamed (template member.Free 5)) ≡ None
partial-specialisation = refl

-- struct x; union x;
class-then-union : after (facts.class (record { 0 = 0 }) false ∷ []) (facts.class (record { 0 = 0 }) true) ≡ Some 1
class-then-union = refl

-- union x; union x { };
union-again : after (facts.class (record { 0 = 0 }) true ∷ []) (facts.class (record { 0 = 0 }) true) ≡ None
union-again = refl

-- template<class T, int T> void f();
parameter-twice : after (facts.synonym (type_parameter 0 0) ∷ []) (facts.value_parameter 0 1 int) ≡ Some 1
parameter-twice = refl

-- ---- members

abbrev constant_member : CxxType
constant_member = function_of void (one int) false const_cv

-- struct A { void x(int); void x(int); };
member-twice : after (fn member.Nonstatic (from_to int void) ∷ []) (fn member.Nonstatic (from_to int void)) ≡ Some 1
member-twice = refl

-- struct A { void x(int); void x(int) const; };
member-and-const-member : after (fn member.Nonstatic (from_to int void) ∷ []) (fn member.Nonstatic constant_member) ≡ None
member-and-const-member = refl

-- struct A { void x(int); static void x(int); };
member-and-static-member : after (fn member.Nonstatic (from_to int void) ∷ []) (fn member.Static (from_to int void)) ≡ Some 1
member-and-static-member = refl

-- struct A { static void x(int); void x(int) const; };
static-member-and-const-member : after (fn member.Static (from_to int void) ∷ []) (fn member.Nonstatic constant_member) ≡ Some 1
static-member-and-const-member = refl

-- struct A { int x; int x; };
data-member-twice : after (data_member member.Nonstatic ∷ []) (data_member member.Nonstatic) ≡ Some 1
data-member-twice = refl

-- struct A { static int x; static int x; };
static-data-member-twice : after (data_member member.Static ∷ []) (data_member member.Static) ≡ Some 1
static-data-member-twice = refl

-- struct x { int x; };
member-named-as-class : after (facts.injected (record { 0 = 0 }) ∷ []) (data_member member.Nonstatic) ≡ None
member-named-as-class = refl

-- struct A { A(int); A(int); };
constructor-twice : first_conflict (graph_of (unit ∷ put 0 unnamed (fn member.Constructor (from_to int void)) ∷ []) []) (put 0 unnamed (fn member.Constructor (from_to int void))) ≡ Some 1
constructor-twice = refl

-- struct A { A(int); A(long); };
two-constructors : first_conflict (graph_of (unit ∷ put 0 unnamed (fn member.Constructor (from_to int void)) ∷ []) []) (put 0 unnamed (fn member.Constructor (from_to long void))) ≡ None
two-constructors = refl

abbrev converts : CxxType → CxxFact
converts to = put 0 (conversion_to to) (fn member.Conversion (function_of to no_types false no_cv))

-- struct A { operator int(); operator long(); };
two-conversions : first_conflict (graph_of (unit ∷ converts int ∷ []) []) (converts long) ≡ None
two-conversions = refl

-- struct A { operator int(); operator int(); };
conversion-twice : first_conflict (graph_of (unit ∷ converts int ∷ []) []) (converts int) ≡ Some 1
conversion-twice = refl

-- void f(int, int);
unnamed-parameters : first_conflict (graph_of (unit ∷ put 0 unnamed (obj int) ∷ []) []) (put 0 unnamed (obj long)) ≡ None
unnamed-parameters = refl

-- ---- behind the end of a class

-- scope 1 is that of a class, whose end was read
abbrev ended_class : Declares → List CxxFact
ended_class of = unit ∷ put 0 unnamed (facts.scope (Some (record { 0 = 0 })) (kind.Class (record { 0 = 0 }))) ∷ put 1 x of ∷ put 0 unnamed (facts.complete (record { 0 = 0 })) ∷ []

abbrev behind_class : Declares → Declares → Option ℕ
behind_class of new = first_conflict (graph_of (ended_class of) patterns) (put 1 x new)

-- struct A { void x(int); }; void A::x(int) { }
member-defined-outside : behind_class (fn member.Nonstatic (from_to int void)) (fn member.Nonstatic (from_to int void)) ≡ None
member-defined-outside = refl

-- struct A { void x(int); }; long A::x(int) { }
member-defined-with-other-result : behind_class (fn member.Nonstatic (from_to int void)) (fn member.Nonstatic (from_to int long)) ≡ Some 2
member-defined-with-other-result = refl

-- struct A { static int x; }; int A::x = 1;
static-member-defined-outside : behind_class (data_member member.Static) (data_member member.Static) ≡ None
static-member-defined-outside = refl

-- struct A { template<class T> static void x(T); }; template<class T> void A::x(T) { }
member-template-defined-outside : behind_class (template member.Static 1) (template member.Static 1) ≡ None
member-template-defined-outside = refl

-- ---- what is given twice

-- void x(int) { } is fact 1, void x(long) { } fact 2
abbrev two_defined : List CxxFact
two_defined = unit ∷ put 0 x (fn member.Free (from_to int void)) ∷ put 0 x (fn member.Free (from_to long void)) ∷ []

-- void x(int) { } void x(long) { } void x(int) { }
defined-twice : defined_before two_defined (1 ∷ 2 ∷ []) (of_fact 1) ≡ Some 1
defined-twice = refl

-- void x(int) { } void x(long); void x(long) { }
defined-once : defined_before two_defined (1 ∷ []) (of_fact 2) ≡ None
defined-once = refl

-- void x(int = 1); void x(int = 1);
given-twice : given_before two_defined (record { declaration = 1; index = 0 } ∷ []) (of_fact 1) 0 0 ≡ Some 1
given-twice = refl

-- void x(int = 1); void f() { void x(int = 1); }
given-in-another-scope : given_before two_defined (record { declaration = 1; index = 0 } ∷ []) (of_fact 1) 3 0 ≡ None
given-in-another-scope = refl

-- ---- using-declarations

-- scopes 1 and 2 are in the unit; each declares `x`, which is fact 3 and fact 4
abbrev two_scopes : ScopeKind → Declares → Declares → List CxxFact
two_scopes of one two = unit ∷ put 0 unnamed (facts.scope (Some (record { 0 = 0 })) of) ∷ put 0 unnamed (facts.scope (Some (record { 0 = 0 })) of) ∷ put 1 x one ∷ put 2 x two ∷ []

abbrev using : ℕ → Declares
using n = facts.using (record { 0 = n })

-- declarations of `x` behind those of two namespaces, and one more; the first is fact 5
abbrev behind : Declares → Declares → List Declares → Declares → Option ℕ
behind one two old new = first_conflict (graph_of (two_scopes kind.Space one two ++ named_x old) []) (put 0 x new)

abbrev takes_int : Declares
takes_int = fn member.Free (from_to int void)

-- using A::x; using B::x;, both `void x(int)`
two-functions-brought : behind takes_int takes_int (using 3 ∷ []) (using 4) ≡ None
two-functions-brought = refl

-- using A::x; using A::x;
function-brought-twice : behind takes_int takes_int (using 3 ∷ []) (using 3) ≡ None
function-brought-twice = refl

-- void x(int); using A::x;
brought-over-declared : behind takes_int takes_int (takes_int ∷ []) (using 3) ≡ Some 5
brought-over-declared = refl

-- using A::x; void x(int);
declared-over-brought : behind takes_int takes_int (using 3 ∷ []) takes_int ≡ Some 5
declared-over-brought = refl

-- void x(long); using A::x;
brought-overload : behind takes_int takes_int (fn member.Free (from_to long void) ∷ []) (using 3) ≡ None
brought-overload = refl

-- extern int A::x, B::x; using A::x; using B::x;
two-objects-brought : behind (obj int) (obj int) (using 3 ∷ []) (using 4) ≡ Some 5
two-objects-brought = refl

-- using A::x; using A::x;, an object
object-brought-twice : behind (obj int) (obj int) (using 3 ∷ []) (using 3) ≡ None
object-brought-twice = refl

-- struct A::x; using A::x; extern int x;
class-brought-then-object : behind (facts.class (record { 0 = 0 }) false) takes_int (using 3 ∷ []) (obj int) ≡ None
class-brought-then-object = refl

-- a class, whose scope is 3, behind the two scopes of its bases; its `x` are facts from 6 on
abbrev in_class : Declares → Declares → List Declares → Declares → Option ℕ
in_class one two old new = first_conflict (graph_of (two_scopes (kind.Class (record { 0 = 0 })) one two ++ put 0 unnamed (facts.scope (Some (record { 0 = 0 })) (kind.Class (record { 0 = 1 }))) ∷ [] ++ members old) []) (put 3 x new)
  where
    members : List Declares → List CxxFact
    members [] = []
    members (what ∷ others) = put 3 x what ∷ members others

abbrev member_takes_int : Declares
member_takes_int = fn member.Nonstatic (from_to int void)

-- struct C : A, B { using A::x; using B::x; };
two-members-brought : in_class member_takes_int member_takes_int (using 3 ∷ []) (using 4) ≡ None
two-members-brought = refl

-- struct C : A { using A::x; using A::x; };
member-brought-twice : in_class member_takes_int member_takes_int (using 3 ∷ []) (using 3) ≡ Some 6
member-brought-twice = refl

-- struct B : A { using A::x; void x(int); };
member-hides-brought : in_class member_takes_int member_takes_int (using 3 ∷ []) member_takes_int ≡ None
member-hides-brought = refl

-- struct B : A { void x(int); using A::x; };
brought-is-hidden : in_class member_takes_int member_takes_int (member_takes_int ∷ []) (using 3) ≡ None
brought-is-hidden = refl

-- ---- parameters and blocks

-- void f(int x) { .. { .. } }: scope 1 has the parameter, which is fact 2; 2 is the outermost block, and 3 one in it
abbrev body : List CxxFact
body = unit ∷ put 0 unnamed (facts.scope (Some (record { 0 = 0 })) kind.Parameters) ∷ put 1 x (obj int) ∷ put 0 (spelled (codes "f")) (fn member.Free (from_to int void)) ∷ put 1 unnamed (facts.scope (Some (record { 0 = 1 })) (kind.Block (Some (record { 0 = 3 })))) ∷ put 2 unnamed (facts.scope (Some (record { 0 = 2 })) (kind.Block None)) ∷ []

-- void f(int x) { int x; }
local-named-as-parameter : first_conflict (graph_of body []) (put 2 x (obj int)) ≡ Some 2
local-named-as-parameter = refl

-- void f(int x, int x);
parameter-named-twice : first_conflict (graph_of body []) (put 1 x (obj int)) ≡ Some 2
parameter-named-twice = refl

-- void f(int x) { typedef int x; }
local-synonym-named-as-parameter : first_conflict (graph_of body []) (put 2 x (facts.synonym int)) ≡ Some 2
local-synonym-named-as-parameter = refl

-- void f(int x) { { int x; } }
inner-local : first_conflict (graph_of body []) (put 3 x (obj int)) ≡ None
inner-local = refl

-- void f(int x) { } int x;
object-outside : first_conflict (graph_of body []) (put 0 x (obj int)) ≡ None
object-outside = refl

-- ---- what is known of an object

-- extern int x[]; extern int x[3];
abbrev array : List CxxFact
array = unit ∷ put 0 x (facts.object (array_of int unknown_bound) member.Free false None None) ∷ put 0 x (facts.object (array_of int (number_bound 3)) member.Free false None (Some (record { 0 = 1 }))) ∷ []

array-without-bound : object_type array 1 2 ≡ Some (array_of int unknown_bound)
array-without-bound = refl

array-with-bound : object_type array 1 3 ≡ Some (array_of int (number_bound 3))
array-with-bound = refl

-- extern const int x; const int x = 5;
abbrev constant : List CxxFact
constant = unit ∷ put 0 x (facts.object (qualified const_cv int) member.Free false None None) ∷ put 0 x (facts.object (qualified const_cv int) member.Free false (Some (pos 5)) (Some (record { 0 = 1 }))) ∷ []

value-not-yet : object_value constant 1 2 ≡ None
value-not-yet = refl

value-known : object_value constant 1 3 ≡ Some (pos 5)
value-known = refl
