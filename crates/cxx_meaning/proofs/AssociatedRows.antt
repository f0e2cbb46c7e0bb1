-- Examples of 3.4.2, with the sets that are associated and the functions that are found. A fact's number is its place in
-- the list.
use Rattle.std.specs.Prelude.{ℕ, pos, ◌≡◌, true, false, List, [], ◌∷◌, map, Some, None, Result, Ok, Err, codes, refl}
use Rattle.cxx_model.specs.declared.base.Base.TheVariants as base
use Rattle.cxx_model.specs.declared.facts.Access.TheVariants.{Public}
use Rattle.cxx_model.specs.declared.facts.FunctionFlags.{FunctionFlags}
use Rattle.cxx_model.specs.declared.facts.MemberKind.TheVariants as member
use Rattle.cxx_model.specs.declared.facts.ScopeKind.TheVariants as kind
use Rattle.cxx_model.specs.declared.lookup.Associated.{Associated}
use Rattle.cxx_model.specs.declared.types.ClassId.{ClassId}
use Rattle.cxx_model.specs.declared.types.Cv.{Cv}
use Rattle.cxx_model.specs.declared.types.FactId.{FactId}
use Rattle.cxx_model.specs.Facts.Declarations as facts
use Rattle.cxx_model.specs.Facts.Declarations.{CxxFact, CxxGraph, CxxName, Declares, unnamed, spelled, operator_function}
use Rattle.cxx_model.specs.Facts.Pending.{is_pending}
use Rattle.cxx_model.specs.Types.Trees.{CxxType, fundamental, class_type, enumeration, pointer_to, reference_to, array_of, qualified, function_of, no_types, type_then, unknown_bound, type_argument, value_argument, no_arguments, argument_then}
use Rattle.cxx_meaning.specs.Lookups.Associated.{adl, associated, befriended, collected, everything, followed, parts, standing_in_each, with_parts}
use Rattle.cxx_meaning.specs.Lookups.Gathered.{with_facts}
use Rattle.cxx_meaning.specs.Lookups.Scopes.{first_space, up}
use Rattle.cxx_meaning.specs.Lookups.Sightings.{entities, is_by_friend, least_of, named_by, sighting_in, standing}

-- ---- how rows are written

abbrev no_cv : Cv
no_cv = record { is_const = false; is_volatile = false }

abbrev int : CxxType
int = fundamental base.Int

abbrev from : CxxType → CxxType
from t = function_of (fundamental base.Void) (type_then t no_types) false no_cv

abbrev no_flags : FunctionFlags
no_flags = record { is_virtual = false; is_pure = false; is_explicit = false; is_implicit = false }

abbrev put : ℕ → CxxName → Declares → CxxFact
put scope name what = record { place = record { line = 1; column = 1 }; scope = scope; name = name; access = Public; what = what }

abbrev object : ℕ → CxxName → CxxFact
object scope name = put scope name (facts.object int member.Free false None None)

abbrev function : ℕ → CxxName → CxxType → CxxFact
function scope name t = put scope name (facts.function (from t) member.Free no_flags 0 None)

abbrev again : ℕ → CxxName → CxxType → ℕ → CxxFact
again scope name t first = put scope name (facts.function (from t) member.Free no_flags 0 (Some (record { 0 = first })))

abbrev unit : CxxFact
unit = put 0 unnamed (facts.scope None kind.Space)

-- a scope in another
abbrev space_in : ℕ → CxxFact
space_in parent = put parent unnamed (facts.scope (Some (record { 0 = parent })) kind.Space)

abbrev block_in : ℕ → CxxFact
block_in parent = put parent unnamed (facts.scope (Some (record { 0 = parent })) (kind.Block None))

abbrev class_in : ℕ → ℕ → CxxFact
class_in parent class = put parent unnamed (facts.scope (Some (record { 0 = parent })) (kind.Class (record { 0 = class })))

abbrev class_name : ℕ → CxxName → ℕ → CxxFact
class_name scope name class = put scope name (facts.class (record { 0 = class }) false)

abbrev base_of : ℕ → ℕ → ℕ → ℕ → CxxFact
base_of scope class parent index = put scope unnamed (facts.ancestor (record { 0 = class }) (record { 0 = parent }) index Public)

abbrev end_of : ℕ → ℕ → CxxFact
end_of scope class = put scope unnamed (facts.complete (record { 0 = class }))

abbrev enumerated : ℕ → CxxName → ℕ → CxxFact
enumerated scope name number = put scope name (facts.enumeration number)

abbrev template : ℕ → CxxName → ℕ → CxxFact
template scope name number = put scope name (facts.template (record { 0 = number }) member.Free 0 false None)

abbrev directive : ℕ → ℕ → CxxFact
directive scope space = put scope unnamed (facts.directive (record { 0 = space }))

abbrev using : ℕ → CxxName → ℕ → CxxFact
using scope name target = put scope name (facts.using (record { 0 = target }))

abbrev friend : ℕ → ℕ → ℕ → CxxFact
friend scope class target = put scope unnamed (facts.friend (record { 0 = class }) (record { 0 = target }))

-- classes that are no specialisations
abbrev graph_of : List CxxFact → CxxGraph
graph_of all = record { facts = all; classes = []; patterns = [] }

abbrev sets : List ℕ → List ℕ → Result Associated ClassId
sets classes spaces = Ok (record { classes = classes; spaces = spaces })

abbrev pair : List ℕ → List ℕ → Associated
pair classes spaces = record { classes = classes; spaces = spaces }

abbrev found : List ℕ → List FactId
found numbers = map (λ n. record { 0 = n }) numbers

abbrev f : CxxName
f = spelled (codes "f")

abbrev t : CxxName
t = spelled (codes "T")

-- ---- classes and their namespaces

-- namespace NS { class T { }; void f(T); } NS::T parm;
abbrev ns : List CxxFact
ns = unit ∷ space_in 0 ∷ class_name 1 t 0 ∷ class_in 1 0 ∷ end_of 2 0 ∷ function 1 f (class_type 0) ∷ []

-- 3.4.2 p3
class-and-its-namespace : associated (graph_of ns) (class_type 0 ∷ []) ≡ sets (0 ∷ []) (1 ∷ [])
unfolding associated parts everything followed with_parts collected adl standing_in_each befriended is_pending standing sighting_in is_by_friend with_facts entities named_by least_of first_space up
class-and-its-namespace = refl

-- 3.4.2 p3: f(parm) calls NS::f
found-in-namespace : adl (graph_of ns) (pair (0 ∷ []) (1 ∷ [])) f 9 ≡ found (5 ∷ [])
unfolding associated parts everything followed with_parts collected adl standing_in_each befriended is_pending standing sighting_in is_by_friend with_facts entities named_by least_of first_space up
found-in-namespace = refl

-- 3.3.1: not before its declaration
not-before-it-stands : adl (graph_of ns) (pair (0 ∷ []) (1 ∷ [])) f 5 ≡ []
unfolding associated parts everything followed with_parts collected adl standing_in_each befriended is_pending standing sighting_in is_by_friend with_facts entities named_by least_of first_space up
not-before-it-stands = refl

-- 3.4.2 p2: fundamental types
fundamental-types-have-none : associated (graph_of ns) (int ∷ pointer_to int ∷ []) ≡ sets [] []
unfolding associated parts everything followed with_parts collected adl standing_in_each befriended is_pending standing sighting_in is_by_friend with_facts entities named_by least_of first_space up
fundamental-types-have-none = refl

-- 3.4.2 p2: cv T * []
element-of-pointer-and-array : associated (graph_of ns) (array_of (pointer_to (qualified (record { is_const = true; is_volatile = false }) (class_type 0))) unknown_bound ∷ []) ≡ sets (0 ∷ []) (1 ∷ [])
unfolding associated parts everything followed with_parts collected adl standing_in_each befriended is_pending standing sighting_in is_by_friend with_facts entities named_by least_of first_space up
element-of-pointer-and-array = refl

-- T &
element-of-reference : associated (graph_of ns) (reference_to (class_type 0) ∷ []) ≡ sets (0 ∷ []) (1 ∷ [])
unfolding associated parts everything followed with_parts collected adl standing_in_each befriended is_pending standing sighting_in is_by_friend with_facts entities named_by least_of first_space up
element-of-reference = refl

-- 3.4.2 p2: void (*)(T)
parameter-of-function : associated (graph_of ns) (pointer_to (from (class_type 0)) ∷ []) ≡ sets (0 ∷ []) (1 ∷ [])
unfolding associated parts everything followed with_parts collected adl standing_in_each befriended is_pending standing sighting_in is_by_friend with_facts entities named_by least_of first_space up
parameter-of-function = refl

-- 3.4.2 p2: T (int)
result-of-function : associated (graph_of ns) (function_of (class_type 0) (type_then int no_types) false no_cv ∷ []) ≡ sets (0 ∷ []) (1 ∷ [])
unfolding associated parts everything followed with_parts collected adl standing_in_each befriended is_pending standing sighting_in is_by_friend with_facts entities named_by least_of first_space up
result-of-function = refl

-- ---- bases

-- namespace A { struct T { }; } namespace B { struct T : A::T { }; } struct T : B::T { };
abbrev derived : List CxxFact
derived = unit ∷ space_in 0 ∷ class_name 1 t 0 ∷ class_in 1 0 ∷ end_of 2 0 ∷ space_in 0 ∷ class_name 3 t 1 ∷ class_in 3 1 ∷ base_of 4 1 0 1 ∷ end_of 4 1 ∷ class_name 0 t 2 ∷ class_in 0 2 ∷ base_of 5 2 1 1 ∷ end_of 5 2 ∷ []

-- 3.4.2 p2: direct and indirect bases
bases-of-bases : associated (graph_of derived) (class_type 2 ∷ []) ≡ sets (0 ∷ 1 ∷ 2 ∷ []) (0 ∷ 1 ∷ 3 ∷ [])
unfolding associated parts everything followed with_parts collected adl standing_in_each befriended is_pending standing sighting_in is_by_friend with_facts entities named_by least_of first_space up
bases-of-bases = refl

-- a base does not lead to what derives from it
not-from-base-to-derived : associated (graph_of derived) (class_type 0 ∷ []) ≡ sets (0 ∷ []) (1 ∷ [])
unfolding associated parts everything followed with_parts collected adl standing_in_each befriended is_pending standing sighting_in is_by_friend with_facts entities named_by least_of first_space up
not-from-base-to-derived = refl

-- ---- enumerations

-- namespace N { enum E { }; struct T { enum E { }; }; void g() { enum E { }; } }
abbrev enums : List CxxFact
enums = unit ∷ space_in 0 ∷ enumerated 1 t 0 ∷ class_name 1 t 0 ∷ class_in 1 0 ∷ enumerated 2 t 1 ∷ end_of 2 0 ∷ block_in 1 ∷ enumerated 3 t 2 ∷ []

-- 3.4.2 p2: its namespace
enumeration-of-namespace : associated (graph_of enums) (enumeration 0 ∷ []) ≡ sets [] (1 ∷ [])
unfolding associated parts everything followed with_parts collected adl standing_in_each befriended is_pending standing sighting_in is_by_friend with_facts entities named_by least_of first_space up
enumeration-of-namespace = refl

-- 3.4.2 p2: its class
enumeration-of-class : associated (graph_of enums) (enumeration 1 ∷ []) ≡ sets (0 ∷ []) (1 ∷ [])
unfolding associated parts everything followed with_parts collected adl standing_in_each befriended is_pending standing sighting_in is_by_friend with_facts entities named_by least_of first_space up
enumeration-of-class = refl

-- the innermost namespace of a block
enumeration-of-block : associated (graph_of enums) (enumeration 2 ∷ []) ≡ sets [] (1 ∷ [])
unfolding associated parts everything followed with_parts collected adl standing_in_each befriended is_pending standing sighting_in is_by_friend with_facts entities named_by least_of first_space up
enumeration-of-block = refl

-- ---- specialisations

-- namespace M { template<class> struct T { }; } namespace N { struct T { }; } M::T<N::T *>, of which the definition is class 0 and the specialisation class 2
abbrev special : List CxxFact → CxxGraph
special = λ later. record { facts = unit ∷ space_in 0 ∷ template 1 t 0 ∷ class_in 1 0 ∷ end_of 2 0 ∷ space_in 0 ∷ class_name 3 t 1 ∷ class_in 3 1 ∷ end_of 4 1 ∷ later; classes = None ∷ None ∷ Some (record { template = 0; arguments = argument_then (type_argument (pointer_to (class_type 1))) no_arguments }) ∷ []; patterns = record { parameters = []; primary = None; arguments = no_arguments; of = None; class = Some (record { 0 = 0 }) } ∷ [] }

-- 14.7.1: it has to be complete first
pending-class-is-asked : associated (special []) (int ∷ class_type 2 ∷ class_type 1 ∷ []) ≡ Err (record { 0 = 2 })
unfolding associated parts everything followed with_parts collected adl standing_in_each befriended is_pending standing sighting_in is_by_friend with_facts entities named_by least_of first_space up
pending-class-is-asked = refl

-- 3.4.2 p2: the namespaces of the template and of its type arguments
type-arguments : associated (special (class_in 1 2 ∷ end_of 5 2 ∷ [])) (class_type 2 ∷ []) ≡ sets (1 ∷ 2 ∷ []) (1 ∷ 3 ∷ [])
unfolding associated parts everything followed with_parts collected adl standing_in_each befriended is_pending standing sighting_in is_by_friend with_facts entities named_by least_of first_space up
type-arguments = refl

-- ---- what is found

-- namespace A { void f(int); } namespace N { using namespace A; }
abbrev through : List CxxFact
through = unit ∷ space_in 0 ∷ function 1 f int ∷ space_in 0 ∷ directive 2 1 ∷ []

-- 3.4.2 p2: directives are ignored
no-directive : adl (graph_of through) (pair [] (2 ∷ [])) f 9 ≡ []
unfolding associated parts everything followed with_parts collected adl standing_in_each befriended is_pending standing sighting_in is_by_friend with_facts entities named_by least_of first_space up
no-directive = refl

-- namespace A { void f(int); } namespace N { using A::f; int f; }
abbrev brought : List CxxFact
brought = unit ∷ space_in 0 ∷ function 1 f int ∷ space_in 0 ∷ using 2 f 2 ∷ object 2 f ∷ []

-- 7.3.3: a using-declaration stands for its target, and what is no function is passed over
using-and-object : adl (graph_of brought) (pair [] (2 ∷ [])) f 9 ≡ found (2 ∷ [])
unfolding associated parts everything followed with_parts collected adl standing_in_each befriended is_pending standing sighting_in is_by_friend with_facts entities named_by least_of first_space up
using-and-object = refl

-- namespace N { struct T { friend void f(T); }; }
abbrev befriending : List CxxFact
befriending = unit ∷ space_in 0 ∷ class_name 1 t 0 ∷ class_in 1 0 ∷ function 1 f (class_type 0) ∷ friend 2 0 4 ∷ end_of 2 0 ∷ []

-- 3.4.2 p3: a friend of an associated class
friend-is-seen : adl (graph_of befriending) (pair (0 ∷ []) (1 ∷ [])) f 0 ≡ found (4 ∷ [])
unfolding associated parts everything followed with_parts collected adl standing_in_each befriended is_pending standing sighting_in is_by_friend with_facts entities named_by least_of first_space up
friend-is-seen = refl

-- and of no other
friend-of-another-class : adl (graph_of befriending) (pair [] (1 ∷ [])) f 9 ≡ []
unfolding associated parts everything followed with_parts collected adl standing_in_each befriended is_pending standing sighting_in is_by_friend with_facts entities named_by least_of first_space up
friend-of-another-class = refl

-- namespace N { struct T { friend void f(T); }; void f(T); }, which is one function
abbrev twice : List CxxFact
twice = unit ∷ space_in 0 ∷ class_name 1 t 0 ∷ class_in 1 0 ∷ function 1 f (class_type 0) ∷ friend 2 0 4 ∷ end_of 2 0 ∷ again 1 f (class_type 0) 4 ∷ []

-- it comes once, by its first declaration
found-twice-comes-once : adl (graph_of twice) (pair (0 ∷ []) (1 ∷ [])) f 9 ≡ found (4 ∷ [])
unfolding associated parts everything followed with_parts collected adl standing_in_each befriended is_pending standing sighting_in is_by_friend with_facts entities named_by least_of first_space up
found-twice-comes-once = refl

-- ---- more classes

-- namespace N { union T { }; }
abbrev joint : List CxxFact
joint = unit ∷ space_in 0 ∷ put 1 t (facts.class (record { 0 = 0 }) true) ∷ class_in 1 0 ∷ end_of 2 0 ∷ []

-- 3.4.2 p2: a union as a class
union-and-its-namespace : associated (graph_of joint) (class_type 0 ∷ []) ≡ sets (0 ∷ []) (1 ∷ [])
unfolding associated parts everything followed with_parts collected adl standing_in_each befriended is_pending standing sighting_in is_by_friend with_facts entities named_by least_of first_space up
union-and-its-namespace = refl

-- namespace M { struct B { }; } namespace N { struct T : M::B { struct T { }; enum E { }; }; }
abbrev nested : List CxxFact
nested = unit ∷ space_in 0 ∷ class_name 1 t 0 ∷ class_in 1 0 ∷ end_of 2 0 ∷ space_in 0 ∷ class_name 3 t 1 ∷ class_in 3 1 ∷ base_of 4 1 0 1 ∷ class_name 4 t 2 ∷ class_in 4 2 ∷ end_of 5 2 ∷ enumerated 4 t 0 ∷ end_of 4 1 ∷ []

-- 3.4.2 p2 names the class of which an enumeration is a member, and no other
nested-class-is-alone : associated (graph_of nested) (class_type 2 ∷ []) ≡ sets (2 ∷ []) (3 ∷ [])
unfolding associated parts everything followed with_parts collected adl standing_in_each befriended is_pending standing sighting_in is_by_friend with_facts entities named_by least_of first_space up
nested-class-is-alone = refl

-- the bases of that class are not associated
class-of-enumeration-is-alone : associated (graph_of nested) (enumeration 0 ∷ []) ≡ sets (1 ∷ []) (3 ∷ [])
unfolding associated parts everything followed with_parts collected adl standing_in_each befriended is_pending standing sighting_in is_by_friend with_facts entities named_by least_of first_space up
class-of-enumeration-is-alone = refl

-- 3.4.2 p2: the union of the sets
two-arguments : associated (graph_of nested) (class_type 2 ∷ pointer_to (class_type 0) ∷ []) ≡ sets (0 ∷ 2 ∷ []) (1 ∷ 3 ∷ [])
unfolding associated parts everything followed with_parts collected adl standing_in_each befriended is_pending standing sighting_in is_by_friend with_facts entities named_by least_of first_space up
two-arguments = refl

-- struct L { }; struct A : L { }; struct B : L { }; struct D : A, B { };
abbrev diamond : List CxxFact
diamond = unit ∷ class_name 0 t 0 ∷ class_in 0 0 ∷ end_of 1 0 ∷ class_name 0 t 1 ∷ class_in 0 1 ∷ base_of 2 1 0 1 ∷ end_of 2 1 ∷ class_name 0 t 2 ∷ class_in 0 2 ∷ base_of 3 2 0 1 ∷ end_of 3 2 ∷ class_name 0 t 3 ∷ class_in 0 3 ∷ base_of 4 3 1 1 ∷ base_of 4 3 2 2 ∷ end_of 4 3 ∷ []

-- each class once
base-by-two-ways : associated (graph_of diamond) (class_type 3 ∷ class_type 1 ∷ []) ≡ sets (0 ∷ 1 ∷ 2 ∷ 3 ∷ []) (0 ∷ [])
unfolding associated parts everything followed with_parts collected adl standing_in_each befriended is_pending standing sighting_in is_by_friend with_facts entities named_by least_of first_space up
base-by-two-ways = refl

-- namespace N { namespace { struct T { }; } void f(T); }
abbrev hidden : List CxxFact
hidden = unit ∷ space_in 0 ∷ space_in 1 ∷ directive 1 2 ∷ class_name 2 t 0 ∷ class_in 2 0 ∷ end_of 3 0 ∷ function 1 f (class_type 0) ∷ []

-- 7.3.1.1: an unnamed namespace is the innermost one
unnamed-namespace : associated (graph_of hidden) (class_type 0 ∷ []) ≡ sets (0 ∷ []) (2 ∷ [])
unfolding associated parts everything followed with_parts collected adl standing_in_each befriended is_pending standing sighting_in is_by_friend with_facts entities named_by least_of first_space up
unnamed-namespace = refl

-- and what is around it is not
around-unnamed-namespace : adl (graph_of hidden) (pair (0 ∷ []) (2 ∷ [])) f 9 ≡ []
unfolding associated parts everything followed with_parts collected adl standing_in_each befriended is_pending standing sighting_in is_by_friend with_facts entities named_by least_of first_space up
around-unnamed-namespace = refl

-- ---- more specialisations

-- 3.4.2 p2: values contribute nothing
value-argument : associated (record (special (class_in 1 2 ∷ end_of 5 2 ∷ [])) { classes = None ∷ None ∷ Some (record { template = 0; arguments = argument_then (value_argument (pos 1) (class_type 1)) no_arguments }) ∷ [] }) (class_type 2 ∷ []) ≡ sets (2 ∷ []) (1 ∷ [])
unfolding associated parts everything followed with_parts collected adl standing_in_each befriended is_pending standing sighting_in is_by_friend with_facts entities named_by least_of first_space up
value-argument = refl

-- the least of two pending classes
least-pending-class : associated (record (special []) { classes = None ∷ None ∷ Some (record { template = 0; arguments = no_arguments }) ∷ Some (record { template = 0; arguments = argument_then (type_argument (class_type 2)) no_arguments }) ∷ [] }) (class_type 3 ∷ []) ≡ Err (record { 0 = 2 })
unfolding associated parts everything followed with_parts collected adl standing_in_each befriended is_pending standing sighting_in is_by_friend with_facts entities named_by least_of first_space up
least-pending-class = refl

-- 14.7.1: a completion that found nothing
passed-class-is-not-asked : associated (special (put 0 unnamed (facts.passed (record { 0 = 2 })) ∷ [])) (class_type 2 ∷ []) ≡ sets (1 ∷ 2 ∷ []) (1 ∷ 3 ∷ [])
unfolding associated parts everything followed with_parts collected adl standing_in_each befriended is_pending standing sighting_in is_by_friend with_facts entities named_by least_of first_space up
passed-class-is-not-asked = refl

-- a base leads to its template and not to the arguments
base-without-arguments : associated (special (class_in 1 2 ∷ end_of 5 2 ∷ class_in 0 3 ∷ base_of 6 3 2 1 ∷ end_of 6 3 ∷ [])) (class_type 3 ∷ []) ≡ sets (2 ∷ 3 ∷ []) (1 ∷ [])
unfolding associated parts everything followed with_parts collected adl standing_in_each befriended is_pending standing sighting_in is_by_friend with_facts entities named_by least_of first_space up
base-without-arguments = refl

-- namespace N { struct T { template<class> struct T { }; }; } N::T::T<int>, which is class 1
abbrev inner : CxxGraph
inner = record { facts = unit ∷ space_in 0 ∷ class_name 1 t 0 ∷ class_in 1 0 ∷ template 2 t 0 ∷ end_of 2 0 ∷ class_in 2 1 ∷ end_of 3 1 ∷ []; classes = None ∷ Some (record { template = 0; arguments = argument_then (type_argument int) no_arguments }) ∷ []; patterns = record { parameters = []; primary = None; arguments = no_arguments; of = None; class = None } ∷ [] }

-- 3.4.2 p2: the class of which the template is a member
member-template : associated inner (class_type 1 ∷ []) ≡ sets (0 ∷ 1 ∷ []) (1 ∷ [])
unfolding associated parts everything followed with_parts collected adl standing_in_each befriended is_pending standing sighting_in is_by_friend with_facts entities named_by least_of first_space up
member-template = refl

-- ---- more of what is found

-- namespace N { void f(int); void f(char); } and the second in another opening of N
abbrev reopened : List CxxFact
reopened = unit ∷ space_in 0 ∷ function 1 f int ∷ function 0 f int ∷ function 1 f (fundamental base.Char) ∷ []

-- 7.3.1
each-opening : adl (graph_of reopened) (pair [] (1 ∷ [])) f 9 ≡ found (2 ∷ 4 ∷ [])
unfolding associated parts everything followed with_parts collected adl standing_in_each befriended is_pending standing sighting_in is_by_friend with_facts entities named_by least_of first_space up
each-opening = refl

-- two namespaces, ascending
two-namespaces : adl (graph_of reopened) (pair [] (0 ∷ 1 ∷ [])) f 9 ≡ found (2 ∷ 3 ∷ 4 ∷ [])
unfolding associated parts everything followed with_parts collected adl standing_in_each befriended is_pending standing sighting_in is_by_friend with_facts entities named_by least_of first_space up
two-namespaces = refl

-- 3.3.1: what stands before the cut
cut-between : adl (graph_of reopened) (pair [] (0 ∷ 1 ∷ [])) f 4 ≡ found (2 ∷ 3 ∷ [])
unfolding associated parts everything followed with_parts collected adl standing_in_each befriended is_pending standing sighting_in is_by_friend with_facts entities named_by least_of first_space up
cut-between = refl

-- namespace N { template<class> struct f; template<class T> void f(T); } with the names of both
abbrev templates : CxxGraph
templates = record { facts = unit ∷ space_in 0 ∷ template 1 f 0 ∷ template 1 f 1 ∷ []; classes = []; patterns = record { parameters = []; primary = None; arguments = no_arguments; of = None; class = None } ∷ record { parameters = []; primary = None; arguments = no_arguments; of = Some (from int); class = None } ∷ [] }

-- 14.8.3: function templates, and no class templates
function-template : adl templates (pair [] (1 ∷ [])) f 9 ≡ found (3 ∷ [])
unfolding associated parts everything followed with_parts collected adl standing_in_each befriended is_pending standing sighting_in is_by_friend with_facts entities named_by least_of first_space up
function-template = refl

-- struct B { friend void f(B); }; struct D : B { friend void f(B); };
abbrev friends : List CxxFact
friends = unit ∷ class_name 0 t 0 ∷ class_in 0 0 ∷ function 0 f (class_type 0) ∷ friend 1 0 3 ∷ end_of 1 0 ∷ class_name 0 t 1 ∷ class_in 0 1 ∷ base_of 2 1 0 1 ∷ again 0 f (class_type 0) 3 ∷ friend 2 1 9 ∷ end_of 2 1 ∷ []

-- by the first declaration, which another class made
friend-of-two-classes : adl (graph_of friends) (pair (1 ∷ []) []) f 99 ≡ found (3 ∷ [])
unfolding associated parts everything followed with_parts collected adl standing_in_each befriended is_pending standing sighting_in is_by_friend with_facts entities named_by least_of first_space up
friend-of-two-classes = refl

-- neither declaration is seen in the namespace
friends-are-not-seen : adl (graph_of friends) (pair [] (0 ∷ [])) f 99 ≡ []
unfolding associated parts everything followed with_parts collected adl standing_in_each befriended is_pending standing sighting_in is_by_friend with_facts entities named_by least_of first_space up
friends-are-not-seen = refl

-- another name
friend-of-another-name : adl (graph_of friends) (pair (0 ∷ 1 ∷ []) (0 ∷ [])) t 99 ≡ []
unfolding associated parts everything followed with_parts collected adl standing_in_each befriended is_pending standing sighting_in is_by_friend with_facts entities named_by least_of first_space up
friend-of-another-name = refl

-- namespace N { struct T { }; T operator+(T, T); }
abbrev operators : List CxxFact
operators = unit ∷ space_in 0 ∷ class_name 1 t 0 ∷ class_in 1 0 ∷ end_of 2 0 ∷ function 1 (operator_function 7) (class_type 0) ∷ function 1 (operator_function 8) (class_type 0) ∷ []

-- 13.3.1.2: the name of an operator
operator-function : adl (graph_of operators) (pair (0 ∷ []) (1 ∷ [])) (operator_function 7) 9 ≡ found (5 ∷ [])
unfolding associated parts everything followed with_parts collected adl standing_in_each befriended is_pending standing sighting_in is_by_friend with_facts entities named_by least_of first_space up
operator-function = refl
