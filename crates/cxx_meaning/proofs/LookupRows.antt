-- Examples of the standard, with what a lookup finds in them. A fact's number is its place in the list.
use Rattle.std.specs.Prelude.{ℕ, ◌≡◌, false, List, [], ◌∷◌, map, Some, None, Ok, codes, refl}
use Rattle.cxx_model.specs.declared.base.Base.TheVariants as base
use Rattle.cxx_model.specs.declared.facts.Access.TheVariants.{Public}
use Rattle.cxx_model.specs.declared.facts.FunctionFlags.{FunctionFlags}
use Rattle.cxx_model.specs.declared.facts.MemberKind.TheVariants as member
use Rattle.cxx_model.specs.declared.facts.ScopeKind.TheVariants as kind
use Rattle.cxx_model.specs.declared.lookup.Found.{Found}
use Rattle.cxx_model.specs.declared.lookup.Found.TheVariants as found
use Rattle.cxx_model.specs.declared.lookup.MemberFound.{MemberFound}
use Rattle.cxx_model.specs.declared.lookup.MemberFound.TheVariants as among
use Rattle.cxx_model.specs.declared.types.ClassId.{ClassId}
use Rattle.cxx_model.specs.declared.types.Cv.{Cv}
use Rattle.cxx_model.specs.declared.types.FactId.{FactId}
use Rattle.cxx_model.specs.declared.types.ScopeId.{ScopeId}
use Rattle.cxx_model.specs.Facts.Declarations as facts
use Rattle.cxx_model.specs.Facts.Declarations.{CxxFact, CxxGraph, CxxName, Declares, unnamed, spelled}
use Rattle.cxx_model.specs.Facts.Pending.{is_pending}
use Rattle.cxx_model.specs.Types.Trees.{CxxType, fundamental, class_type, function_of, no_types, type_then}
use Rattle.cxx_meaning.specs.Lookups.Directives.{nominates, reached, shows}
use Rattle.cxx_meaning.specs.Lookups.Gathered.{spread, with_facts, with_scopes}
use Rattle.cxx_meaning.specs.Lookups.Member.{clash, declared_in, declares_member, member as member_named, member_in, member_by, member_of, members_in, not_redeclared, own_ways, ways, ways_after, with_base}
use Rattle.cxx_meaning.specs.Lookups.Ordinary.{found_in_scope, ordinary, ordinary_in, sightings_at, standing_shown}
use Rattle.cxx_meaning.specs.Lookups.Pending.{Asked}
use Rattle.cxx_meaning.specs.Lookups.Qualified.{brought, leads_to, qualified, searched, standing_in}
use Rattle.cxx_meaning.specs.Lookups.Scopes.{first_common, first_space, up}
use Rattle.cxx_meaning.specs.Lookups.Sightings.{entities, found_of, odd_pair, is_by_friend, is_function_at, least_of, named_by, sighting_in, standing, unhidden}
use Rattle.cxx_meaning.specs.Lookups.Wanted.{any_name, types_only, namespaces_only, before_colons}

-- ---- how rows are written

abbrev no_cv : Cv
no_cv = record { is_const = false; is_volatile = false }

abbrev int : CxxType
int = fundamental base.Int

abbrev char : CxxType
char = fundamental base.Char

abbrev from : CxxType → CxxType
from t = function_of (fundamental base.Void) (type_then t no_types) false no_cv

abbrev no_flags : FunctionFlags
no_flags = record { is_virtual = false; is_pure = false; is_explicit = false; is_implicit = false }

abbrev put : ℕ → CxxName → Declares → CxxFact
put scope name what = record { place = record { line = 1; column = 1 }; scope = scope; name = name; access = Public; what = what }

abbrev object : ℕ → CxxName → CxxFact
object scope name = put scope name (facts.object int member.Free false None None)

abbrev data_member : ℕ → CxxName → CxxFact
data_member scope name = put scope name (facts.object int member.Nonstatic false None None)

abbrev static_member : ℕ → CxxName → CxxFact
static_member scope name = put scope name (facts.object int member.Static false None None)

abbrev function : ℕ → CxxName → CxxType → CxxFact
function scope name t = put scope name (facts.function (from t) member.Free no_flags 0 None)

abbrev s : ℕ → ScopeId
s n = record { 0 = n }

abbrev c : ℕ → ClassId
c n = record { 0 = n }

abbrev f : ℕ → FactId
f n = record { 0 = n }

abbrev unit : CxxFact
unit = put 0 unnamed (facts.scope None kind.Space)

-- a scope in another
abbrev space_in : ℕ → CxxFact
space_in parent = put parent unnamed (facts.scope (Some (s parent)) kind.Space)

abbrev block_in : ℕ → CxxFact
block_in parent = put parent unnamed (facts.scope (Some (s parent)) (kind.Block None))

abbrev class_in : ℕ → ℕ → CxxFact
class_in parent class = put parent unnamed (facts.scope (Some (s parent)) (kind.Class (c class)))

abbrev space_name : ℕ → CxxName → ℕ → CxxFact
space_name scope name inner = put scope name (facts.namespace (s inner))

abbrev class_name : ℕ → CxxName → ℕ → CxxFact
class_name scope name class = put scope name (facts.class (c class) false)

abbrev base_of : ℕ → ℕ → ℕ → ℕ → CxxFact
base_of scope class parent index = put scope unnamed (facts.ancestor (c class) (c parent) index Public)

abbrev end_of : ℕ → ℕ → CxxFact
end_of scope class = put scope unnamed (facts.complete (c class))

abbrev directive : ℕ → ℕ → CxxFact
directive scope space = put scope unnamed (facts.directive (s space))

abbrev using : ℕ → CxxName → ℕ → CxxFact
using scope name target = put scope name (facts.using (f target))

abbrev graph_of : List CxxFact → CxxGraph
graph_of all = record { facts = all; classes = []; patterns = [] }

abbrev named : CxxName → List CxxFact → ℕ → Asked Found
named name all scope = ordinary (graph_of all) any_name (s scope) name 1000

abbrev within : CxxName → List CxxFact → ℕ → Asked Found
within name all scope = qualified (graph_of all) any_name (s scope) name 1000

abbrev member_at : CxxName → List CxxFact → ℕ → Asked MemberFound
member_at name all class = member_named (graph_of all) any_name (c class) name

abbrev set : List ℕ → Asked Found
set ns = Ok (found.Set (map f ns))

abbrev two : ℕ → ℕ → Asked Found
two m n = Ok (found.Ambiguous (f m) (f n))

abbrev empty : Asked Found
empty = Ok found.Empty

abbrev x : CxxName
x = spelled (codes "x")

abbrev n : CxxName
n = spelled (codes "N")

-- ---- 3.4.1, 7.3.4: unqualified names

-- namespace A { int x; namespace B { namespace C { int x; } using namespace A::B::C; void f() { } } }, and a block outside
abbrev a-b-c : List CxxFact
a-b-c = unit ∷ space_in 0 ∷ object 1 x ∷ space_in 1 ∷ space_in 2 ∷ object 3 x ∷ directive 2 3 ∷ block_in 2 ∷ block_in 1 ∷ []

-- 7.3.4: C's x shows in B and hides that of A
directive-hides-outer : named x a-b-c 4 ≡ set (5 ∷ [])
unfolding nominates reached shows spread with_facts with_scopes clash declared_in declares_member member_named member_in member_by member_of members_in not_redeclared own_ways ways ways_after with_base found_in_scope ordinary_in sightings_at standing_shown is_pending leads_to searched standing_in first_common first_space up entities found_of odd_pair is_by_friend is_function_at least_of named_by sighting_in standing unhidden
directive-hides-outer = refl

-- A itself sees its own
outside-of-directive : named x a-b-c 5 ≡ set (2 ∷ [])
unfolding nominates reached shows spread with_facts with_scopes clash declared_in declares_member member_named member_in member_by member_of members_in not_redeclared own_ways ways ways_after with_base found_in_scope ordinary_in sightings_at standing_shown is_pending leads_to searched standing_in first_common first_space up entities found_of odd_pair is_by_friend is_function_at least_of named_by sighting_in standing unhidden
outside-of-directive = refl

-- void f() { using namespace A::B::C; x; } in A: C's x shows in A, beside that of A
abbrev f3 : List CxxFact
f3 = unit ∷ space_in 0 ∷ object 1 x ∷ space_in 1 ∷ space_in 2 ∷ object 3 x ∷ block_in 1 ∷ directive 4 3 ∷ []

-- 7.3.4: A::x and C::x
directive-in-block-is-ambiguous : named x f3 4 ≡ two 2 5
unfolding nominates reached shows spread with_facts with_scopes clash declared_in declares_member member_named member_in member_by member_of members_in not_redeclared own_ways ways ways_after with_base found_in_scope ordinary_in sightings_at standing_shown is_pending leads_to searched standing_in first_common first_space up entities found_of odd_pair is_by_friend is_function_at least_of named_by sighting_in standing unhidden
directive-in-block-is-ambiguous = refl

-- int x in the block, with a directive beside it
abbrev locals : List CxxFact
locals = unit ∷ space_in 0 ∷ object 1 x ∷ block_in 0 ∷ directive 2 1 ∷ object 2 x ∷ []

-- 7.3.4: the local one hides what the directive brings
directive-behind-local : named x locals 2 ≡ set (5 ∷ [])
unfolding nominates reached shows spread with_facts with_scopes clash declared_in declares_member member_named member_in member_by member_of members_in not_redeclared own_ways ways ways_after with_base found_in_scope ordinary_in sightings_at standing_shown is_pending leads_to searched standing_in first_common first_space up entities found_of odd_pair is_by_friend is_function_at least_of named_by sighting_in standing unhidden
directive-behind-local = refl

-- namespace M { int x; } namespace N { int x; using namespace M; } void f() { using namespace N; x; }
abbrev transitive : List CxxFact
transitive = unit ∷ space_in 0 ∷ object 1 x ∷ space_in 0 ∷ object 2 x ∷ directive 2 1 ∷ block_in 0 ∷ directive 3 2 ∷ []

-- 7.3.4 p4: both are visible, and this is an error
directive-is-transitive : named x transitive 3 ≡ two 2 4
unfolding nominates reached shows spread with_facts with_scopes clash declared_in declares_member member_named member_in member_by member_of members_in not_redeclared own_ways ways ways_after with_base found_in_scope ordinary_in sightings_at standing_shown is_pending leads_to searched standing_in first_common first_space up entities found_of odd_pair is_by_friend is_function_at least_of named_by sighting_in standing unhidden
directive-is-transitive = refl

-- namespace A { using namespace B; } namespace B { using namespace A; int x; } void f() { using namespace A; x; }
abbrev circle : List CxxFact
circle = unit ∷ space_in 0 ∷ space_in 0 ∷ directive 1 2 ∷ directive 2 1 ∷ object 2 x ∷ block_in 0 ∷ directive 3 1 ∷ []

-- each namespace once
directives-in-a-circle : named x circle 3 ≡ set (5 ∷ [])
unfolding nominates reached shows spread with_facts with_scopes clash declared_in declares_member member_named member_in member_by member_of members_in not_redeclared own_ways ways ways_after with_base found_in_scope ordinary_in sightings_at standing_shown is_pending leads_to searched standing_in first_common first_space up entities found_of odd_pair is_by_friend is_function_at least_of named_by sighting_in standing unhidden
directives-in-a-circle = refl

-- namespace D { void x(int); } using namespace D; void x(char);
abbrev overloads : List CxxFact
overloads = unit ∷ space_in 0 ∷ function 1 x int ∷ directive 0 1 ∷ function 0 x char ∷ []

-- 7.3.4: the functions are one set
directive-brings-overloads : named x overloads 0 ≡ set (2 ∷ 4 ∷ [])
unfolding nominates reached shows spread with_facts with_scopes clash declared_in declares_member member_named member_in member_by member_of members_in not_redeclared own_ways ways ways_after with_base found_in_scope ordinary_in sightings_at standing_shown is_pending leads_to searched standing_in first_common first_space up entities found_of odd_pair is_by_friend is_function_at least_of named_by sighting_in standing unhidden
directive-brings-overloads = refl

-- the directive is not seen before it stands: only D's own
not-yet-nominated : ordinary (graph_of overloads) any_name (s 0) x 3 ≡ empty
unfolding nominates reached shows spread with_facts with_scopes clash declared_in declares_member member_named member_in member_by member_of members_in not_redeclared own_ways ways ways_after with_base found_in_scope ordinary_in sightings_at standing_shown is_pending leads_to searched standing_in first_common first_space up entities found_of odd_pair is_by_friend is_function_at least_of named_by sighting_in standing unhidden
not-yet-nominated = refl

-- ---- 3.3.7: a class name that an object hides

-- struct x { }; int x;, and a function beside a class
abbrev stat : List CxxFact
stat = unit ∷ class_name 0 x 0 ∷ class_in 0 0 ∷ end_of 1 0 ∷ object 0 x ∷ []

object-hides-class : named x stat 0 ≡ set (4 ∷ [])
unfolding nominates reached shows spread with_facts with_scopes clash declared_in declares_member member_named member_in member_by member_of members_in not_redeclared own_ways ways ways_after with_base found_in_scope ordinary_in sightings_at standing_shown is_pending leads_to searched standing_in first_common first_space up entities found_of odd_pair is_by_friend is_function_at least_of named_by sighting_in standing unhidden
object-hides-class = refl

-- 3.4.4: struct x
elaborated-finds-class : ordinary (graph_of stat) types_only (s 0) x 9 ≡ set (1 ∷ [])
unfolding nominates reached shows spread with_facts with_scopes clash declared_in declares_member member_named member_in member_by member_of members_in not_redeclared own_ways ways ways_after with_base found_in_scope ordinary_in sightings_at standing_shown is_pending leads_to searched standing_in first_common first_space up entities found_of odd_pair is_by_friend is_function_at least_of named_by sighting_in standing unhidden
elaborated-finds-class = refl

-- namespace A { struct x; } namespace B { int x; }, both nominated
abbrev apart : List CxxFact
apart = unit ∷ space_in 0 ∷ class_name 1 x 0 ∷ space_in 0 ∷ object 2 x ∷ directive 0 1 ∷ directive 0 2 ∷ []

-- 7.3.4: they do not hide one another
class-and-object-of-two-namespaces : named x apart 0 ≡ two 2 4
unfolding nominates reached shows spread with_facts with_scopes clash declared_in declares_member member_named member_in member_by member_of members_in not_redeclared own_ways ways ways_after with_base found_in_scope ordinary_in sightings_at standing_shown is_pending leads_to searched standing_in first_common first_space up entities found_of odd_pair is_by_friend is_function_at least_of named_by sighting_in standing unhidden
class-and-object-of-two-namespaces = refl

-- ---- 3.4.3.2: qualified names

-- namespace A { int x; using namespace B; } namespace B { int x; }: the own one comes first
abbrev ab : List CxxFact
ab = unit ∷ space_in 0 ∷ object 1 x ∷ space_in 0 ∷ object 2 x ∷ directive 1 2 ∷ []

own-declaration-first : within x ab 1 ≡ set (2 ∷ [])
unfolding nominates reached shows spread with_facts with_scopes clash declared_in declares_member member_named member_in member_by member_of members_in not_redeclared own_ways ways ways_after with_base found_in_scope ordinary_in sightings_at standing_shown is_pending leads_to searched standing_in first_common first_space up entities found_of odd_pair is_by_friend is_function_at least_of named_by sighting_in standing unhidden
own-declaration-first = refl

-- namespace A { int a; } namespace B { using namespace A; } namespace C { using namespace A; } namespace BC { using namespace B; using namespace C; }
abbrev abfg : List CxxFact
abfg = unit ∷ space_in 0 ∷ object 1 x ∷ space_in 0 ∷ directive 2 1 ∷ space_in 0 ∷ directive 3 1 ∷ space_in 0 ∷ directive 4 2 ∷ directive 4 3 ∷ []

-- 3.4.3.2 p3: the same declaration by two ways is one
one-entity-two-ways : within x abfg 4 ≡ set (2 ∷ [])
unfolding nominates reached shows spread with_facts with_scopes clash declared_in declares_member member_named member_in member_by member_of members_in not_redeclared own_ways ways ways_after with_base found_in_scope ordinary_in sightings_at standing_shown is_pending leads_to searched standing_in first_common first_space up entities found_of odd_pair is_by_friend is_function_at least_of named_by sighting_in standing unhidden
one-entity-two-ways = refl

-- namespace B { int b; } namespace A { using namespace B; int a; } namespace B { using namespace A; }
abbrev ab-cycle : List CxxFact
ab-cycle = unit ∷ space_in 0 ∷ space_in 0 ∷ directive 2 1 ∷ object 2 x ∷ directive 1 2 ∷ []

-- 3.4.3.2 p4: B::a is A::a
cycle-ends : within x ab-cycle 1 ≡ set (4 ∷ [])
unfolding nominates reached shows spread with_facts with_scopes clash declared_in declares_member member_named member_in member_by member_of members_in not_redeclared own_ways ways ways_after with_base found_in_scope ordinary_in sightings_at standing_shown is_pending leads_to searched standing_in first_common first_space up entities found_of odd_pair is_by_friend is_function_at least_of named_by sighting_in standing unhidden
cycle-ends = refl

cycle-of-nothing : within n ab-cycle 1 ≡ empty
unfolding nominates reached shows spread with_facts with_scopes clash declared_in declares_member member_named member_in member_by member_of members_in not_redeclared own_ways ways ways_after with_base found_in_scope ordinary_in sightings_at standing_shown is_pending leads_to searched standing_in first_common first_space up entities found_of odd_pair is_by_friend is_function_at least_of named_by sighting_in standing unhidden
cycle-of-nothing = refl

-- namespace X { int x; } namespace Y { int x; } namespace Z { using namespace X; using namespace Y; }
abbrev two-bodies : List CxxFact
two-bodies = unit ∷ space_in 0 ∷ object 1 x ∷ space_in 0 ∷ object 2 x ∷ space_in 0 ∷ directive 3 1 ∷ directive 3 2 ∷ []

-- 3.4.3.2 p3
two-entities-are-ambiguous : within x two-bodies 3 ≡ two 2 4
unfolding nominates reached shows spread with_facts with_scopes clash declared_in declares_member member_named member_in member_by member_of members_in not_redeclared own_ways ways ways_after with_base found_in_scope ordinary_in sightings_at standing_shown is_pending leads_to searched standing_in first_common first_space up entities found_of odd_pair is_by_friend is_function_at least_of named_by sighting_in standing unhidden
two-entities-are-ambiguous = refl

-- ---- 7.3.3: using-declarations

-- namespace A { void f(int); } using A::f; namespace A { void f(char); }
abbrev used : List CxxFact
used = unit ∷ space_in 0 ∷ function 1 x int ∷ using 0 x 2 ∷ function 1 x char ∷ []

-- 7.3.3 p9
using-brings-no-later-one : named x used 0 ≡ set (2 ∷ [])
unfolding nominates reached shows spread with_facts with_scopes clash declared_in declares_member member_named member_in member_by member_of members_in not_redeclared own_ways ways ways_after with_base found_in_scope ordinary_in sightings_at standing_shown is_pending leads_to searched standing_in first_common first_space up entities found_of odd_pair is_by_friend is_function_at least_of named_by sighting_in standing unhidden
using-brings-no-later-one = refl

-- namespace A { struct x; void x(); } using A::x twice: p10
abbrev hiding : List CxxFact
hiding = unit ∷ space_in 0 ∷ class_name 1 x 0 ∷ function 1 x int ∷ []

-- 7.3.3 p10
using-brings-hidden-class : brought (graph_of hiding) (s 1) x 9 ≡ set (2 ∷ 3 ∷ [])
unfolding nominates reached shows spread with_facts with_scopes clash declared_in declares_member member_named member_in member_by member_of members_in not_redeclared own_ways ways ways_after with_base found_in_scope ordinary_in sightings_at standing_shown is_pending leads_to searched standing_in first_common first_space up entities found_of odd_pair is_by_friend is_function_at least_of named_by sighting_in standing unhidden
using-brings-hidden-class = refl

-- ---- 3.4.6: names of namespaces

-- namespace N { } namespace M = N; and an object in a block
abbrev alias : List CxxFact
alias = unit ∷ space_name 0 n 1 ∷ space_in 0 ∷ block_in 0 ∷ object 2 n ∷ []

-- objects are passed over
namespaces-alone : ordinary (graph_of alias) namespaces_only (s 2) n 9 ≡ set (1 ∷ [])
unfolding nominates reached shows spread with_facts with_scopes clash declared_in declares_member member_named member_in member_by member_of members_in not_redeclared own_ways ways ways_after with_base found_in_scope ordinary_in sightings_at standing_shown is_pending leads_to searched standing_in first_common first_space up entities found_of odd_pair is_by_friend is_function_at least_of named_by sighting_in standing unhidden
namespaces-alone = refl

object-in-block : named n alias 2 ≡ set (4 ∷ [])
unfolding nominates reached shows spread with_facts with_scopes clash declared_in declares_member member_named member_in member_by member_of members_in not_redeclared own_ways ways ways_after with_base found_in_scope ordinary_in sightings_at standing_shown is_pending leads_to searched standing_in first_common first_space up entities found_of odd_pair is_by_friend is_function_at least_of named_by sighting_in standing unhidden
object-in-block = refl

-- ---- 11.4, 7.3.1.2: friends

-- class A { friend void x(int); }; the function and the friend fact stand one behind the other
abbrev friend : List CxxFact
friend = unit ∷ class_name 0 n 0 ∷ class_in 0 0 ∷ function 0 x int ∷ put 1 unnamed (facts.friend (c 0) (f 3)) ∷ end_of 1 0 ∷ []

friend-is-not-seen : named x friend 0 ≡ empty
unfolding nominates reached shows spread with_facts with_scopes clash declared_in declares_member member_named member_in member_by member_of members_in not_redeclared own_ways ways ways_after with_base found_in_scope ordinary_in sightings_at standing_shown is_pending leads_to searched standing_in first_common first_space up entities found_of odd_pair is_by_friend is_function_at least_of named_by sighting_in standing unhidden
friend-is-not-seen = refl

-- the same, and void x(int); behind the class
abbrev friend-again : List CxxFact
friend-again = unit ∷ class_name 0 n 0 ∷ class_in 0 0 ∷ function 0 x int ∷ put 1 unnamed (facts.friend (c 0) (f 3)) ∷ end_of 1 0 ∷ put 0 x (facts.function (from int) member.Free no_flags 0 (Some (f 3))) ∷ []

-- its number is that of its first declaration
friend-declared-again : named x friend-again 0 ≡ set (3 ∷ [])
unfolding nominates reached shows spread with_facts with_scopes clash declared_in declares_member member_named member_in member_by member_of members_in not_redeclared own_ways ways ways_after with_base found_in_scope ordinary_in sightings_at standing_shown is_pending leads_to searched standing_in first_common first_space up entities found_of odd_pair is_by_friend is_function_at least_of named_by sighting_in standing unhidden
friend-declared-again = refl

-- ---- 10.2: members

-- struct L { int x; }; struct A : L { }; struct B : L { }; struct D : A, B { };
abbrev diamond : List CxxFact
diamond = unit ∷ class_in 0 0 ∷ data_member 1 x ∷ end_of 1 0 ∷ class_in 0 1 ∷ base_of 2 1 0 1 ∷ end_of 2 1 ∷ class_in 0 2 ∷ base_of 3 2 0 1 ∷ end_of 3 2 ∷ class_in 0 3 ∷ base_of 4 3 1 1 ∷ base_of 4 3 2 2 ∷ end_of 4 3 ∷ []

-- the two paths
two-subobjects : member_at x diamond 3 ≡ Ok (among.Ambiguous (record { fact = f 2; path = 1 ∷ 1 ∷ [] }) (record { fact = f 2; path = 2 ∷ 1 ∷ [] }))
unfolding nominates reached shows spread with_facts with_scopes clash declared_in declares_member member_named member_in member_by member_of members_in not_redeclared own_ways ways ways_after with_base found_in_scope ordinary_in sightings_at standing_shown is_pending leads_to searched standing_in first_common first_space up entities found_of odd_pair is_by_friend is_function_at least_of named_by sighting_in standing unhidden
two-subobjects = refl

one-subobject : member_at x diamond 1 ≡ Ok (among.Set (f 2 ∷ []) (1 ∷ []))
unfolding nominates reached shows spread with_facts with_scopes clash declared_in declares_member member_named member_in member_by member_of members_in not_redeclared own_ways ways ways_after with_base found_in_scope ordinary_in sightings_at standing_shown is_pending leads_to searched standing_in first_common first_space up entities found_of odd_pair is_by_friend is_function_at least_of named_by sighting_in standing unhidden
one-subobject = refl

-- the same with a static member
abbrev static-diamond : List CxxFact
static-diamond = unit ∷ class_in 0 0 ∷ static_member 1 x ∷ end_of 1 0 ∷ class_in 0 1 ∷ base_of 2 1 0 1 ∷ end_of 2 1 ∷ class_in 0 2 ∷ base_of 3 2 0 1 ∷ end_of 3 2 ∷ class_in 0 3 ∷ base_of 4 3 1 1 ∷ base_of 4 3 2 2 ∷ end_of 4 3 ∷ []

-- 10.2 p2: the least path
static-member-of-two-subobjects : member_at x static-diamond 3 ≡ Ok (among.Set (f 2 ∷ []) (1 ∷ 1 ∷ []))
unfolding nominates reached shows spread with_facts with_scopes clash declared_in declares_member member_named member_in member_by member_of members_in not_redeclared own_ways ways ways_after with_base found_in_scope ordinary_in sightings_at standing_shown is_pending leads_to searched standing_in first_common first_space up entities found_of odd_pair is_by_friend is_function_at least_of named_by sighting_in standing unhidden
static-member-of-two-subobjects = refl

-- struct A { int x; }; struct B { int x; }; struct C : A, B { }; struct D : C { int x; };
abbrev two-bases : List CxxFact
two-bases = unit ∷ class_in 0 0 ∷ data_member 1 x ∷ end_of 1 0 ∷ class_in 0 1 ∷ data_member 2 x ∷ end_of 2 1 ∷ class_in 0 2 ∷ base_of 3 2 0 1 ∷ base_of 3 2 1 2 ∷ end_of 3 2 ∷ class_in 0 3 ∷ base_of 4 3 2 1 ∷ data_member 4 x ∷ end_of 4 3 ∷ []

members-of-two-classes : member_at x two-bases 2 ≡ Ok (among.Ambiguous (record { fact = f 2; path = 1 ∷ [] }) (record { fact = f 5; path = 2 ∷ [] }))
unfolding nominates reached shows spread with_facts with_scopes clash declared_in declares_member member_named member_in member_by member_of members_in not_redeclared own_ways ways ways_after with_base found_in_scope ordinary_in sightings_at standing_shown is_pending leads_to searched standing_in first_common first_space up entities found_of odd_pair is_by_friend is_function_at least_of named_by sighting_in standing unhidden
members-of-two-classes = refl

derived-hides : member_at x two-bases 3 ≡ Ok (among.Set (f 13 ∷ []) [])
unfolding nominates reached shows spread with_facts with_scopes clash declared_in declares_member member_named member_in member_by member_of members_in not_redeclared own_ways ways ways_after with_base found_in_scope ordinary_in sightings_at standing_shown is_pending leads_to searched standing_in first_common first_space up entities found_of odd_pair is_by_friend is_function_at least_of named_by sighting_in standing unhidden
derived-hides = refl

-- 3.4.1: a block of a member function
found-in-class-scope : named x (unit ∷ class_in 0 0 ∷ data_member 1 x ∷ end_of 1 0 ∷ block_in 1 ∷ []) 2 ≡ Ok (found.Member (c 0) (among.Set (f 2 ∷ []) []))
unfolding nominates reached shows spread with_facts with_scopes clash declared_in declares_member member_named member_in member_by member_of members_in not_redeclared own_ways ways ways_after with_base found_in_scope ordinary_in sightings_at standing_shown is_pending leads_to searched standing_in first_common first_space up entities found_of odd_pair is_by_friend is_function_at least_of named_by sighting_in standing unhidden
found-in-class-scope = refl

-- ---- 3.4.1: the scopes in turn

-- extern int x; namespace A { namespace N { void x(int); } }, and a body with A as its scope
abbrev outside-in : List CxxFact
outside-in = unit ∷ object 0 x ∷ space_in 0 ∷ space_in 1 ∷ function 2 x int ∷ put 1 unnamed (facts.scope (Some (s 1)) kind.Parameters) ∷ block_in 3 ∷ []

-- p6: the unit's x, since A has none
innermost-has-none : named x outside-in 4 ≡ set (1 ∷ [])
unfolding nominates reached shows spread with_facts with_scopes clash declared_in declares_member member_named member_in member_by member_of members_in not_redeclared own_ways ways ways_after with_base found_in_scope ordinary_in sightings_at standing_shown is_pending leads_to searched standing_in first_common first_space up entities found_of odd_pair is_by_friend is_function_at least_of named_by sighting_in standing unhidden
innermost-has-none = refl

-- N's own
inner-namespace-first : named x outside-in 2 ≡ set (4 ∷ [])
unfolding nominates reached shows spread with_facts with_scopes clash declared_in declares_member member_named member_in member_by member_of members_in not_redeclared own_ways ways ways_after with_base found_in_scope ordinary_in sightings_at standing_shown is_pending leads_to searched standing_in first_common first_space up entities found_of odd_pair is_by_friend is_function_at least_of named_by sighting_in standing unhidden
inner-namespace-first = refl

nothing-anywhere : named n outside-in 4 ≡ empty
unfolding nominates reached shows spread with_facts with_scopes clash declared_in declares_member member_named member_in member_by member_of members_in not_redeclared own_ways ways ways_after with_base found_in_scope ordinary_in sightings_at standing_shown is_pending leads_to searched standing_in first_common first_space up entities found_of odd_pair is_by_friend is_function_at least_of named_by sighting_in standing unhidden
nothing-anywhere = refl

-- int x; void f() { int x; { int x; } }
abbrev shadowing : List CxxFact
shadowing = unit ∷ object 0 x ∷ block_in 0 ∷ object 1 x ∷ block_in 1 ∷ object 2 x ∷ []

innermost-block : named x shadowing 2 ≡ set (5 ∷ [])
unfolding nominates reached shows spread with_facts with_scopes clash declared_in declares_member member_named member_in member_by member_of members_in not_redeclared own_ways ways ways_after with_base found_in_scope ordinary_in sightings_at standing_shown is_pending leads_to searched standing_in first_common first_space up entities found_of odd_pair is_by_friend is_function_at least_of named_by sighting_in standing unhidden
innermost-block = refl

outer-block : named x shadowing 1 ≡ set (3 ∷ [])
unfolding nominates reached shows spread with_facts with_scopes clash declared_in declares_member member_named member_in member_by member_of members_in not_redeclared own_ways ways ways_after with_base found_in_scope ordinary_in sightings_at standing_shown is_pending leads_to searched standing_in first_common first_space up entities found_of odd_pair is_by_friend is_function_at least_of named_by sighting_in standing unhidden
outer-block = refl

unit-itself : named x shadowing 0 ≡ set (1 ∷ [])
unfolding nominates reached shows spread with_facts with_scopes clash declared_in declares_member member_named member_in member_by member_of members_in not_redeclared own_ways ways ways_after with_base found_in_scope ordinary_in sightings_at standing_shown is_pending leads_to searched standing_in first_common first_space up entities found_of odd_pair is_by_friend is_function_at least_of named_by sighting_in standing unhidden
unit-itself = refl

-- void f(int x) { x; }
abbrev parameters : List CxxFact
parameters = unit ∷ object 0 x ∷ put 0 unnamed (facts.scope (Some (s 0)) kind.Parameters) ∷ object 1 x ∷ block_in 1 ∷ []

parameter-hides-outer : named x parameters 2 ≡ set (3 ∷ [])
unfolding nominates reached shows spread with_facts with_scopes clash declared_in declares_member member_named member_in member_by member_of members_in not_redeclared own_ways ways ways_after with_base found_in_scope ordinary_in sightings_at standing_shown is_pending leads_to searched standing_in first_common first_space up entities found_of odd_pair is_by_friend is_function_at least_of named_by sighting_in standing unhidden
parameter-hides-outer = refl

-- 3.3.1: a declaration of a namespace behind the cut is not seen
seen-from-where-it-stands : ordinary (graph_of shadowing) any_name (s 0) x 1 ≡ empty
unfolding nominates reached shows spread with_facts with_scopes clash declared_in declares_member member_named member_in member_by member_of members_in not_redeclared own_ways ways ways_after with_base found_in_scope ordinary_in sightings_at standing_shown is_pending leads_to searched standing_in first_common first_space up entities found_of odd_pair is_by_friend is_function_at least_of named_by sighting_in standing unhidden
seen-from-where-it-stands = refl

seen-after-its-declarator : ordinary (graph_of shadowing) any_name (s 0) x 2 ≡ set (1 ∷ [])
unfolding nominates reached shows spread with_facts with_scopes clash declared_in declares_member member_named member_in member_by member_of members_in not_redeclared own_ways ways ways_after with_base found_in_scope ordinary_in sightings_at standing_shown is_pending leads_to searched standing_in first_common first_space up entities found_of odd_pair is_by_friend is_function_at least_of named_by sighting_in standing unhidden
seen-after-its-declarator = refl

-- whatever the cut
a-block-is-read-in-order : ordinary (graph_of shadowing) any_name (s 2) x 0 ≡ set (5 ∷ [])
unfolding nominates reached shows spread with_facts with_scopes clash declared_in declares_member member_named member_in member_by member_of members_in not_redeclared own_ways ways ways_after with_base found_in_scope ordinary_in sightings_at standing_shown is_pending leads_to searched standing_in first_common first_space up entities found_of odd_pair is_by_friend is_function_at least_of named_by sighting_in standing unhidden
a-block-is-read-in-order = refl

-- ---- 3.4.1: classes and their bases

-- class B { int x; }; namespace M { namespace N { class X : public B { void f(); }; } } with int x in N, M and the unit
abbrev b-and-x : List CxxFact
b-and-x = unit ∷ class_in 0 0 ∷ data_member 1 x ∷ end_of 1 0 ∷ object 0 x ∷ space_in 0 ∷ object 2 x ∷ space_in 2 ∷ object 3 x ∷ class_in 3 1 ∷ base_of 4 1 0 1 ∷ end_of 4 1 ∷ block_in 4 ∷ []

-- p8: the base's x comes before those of N, M and the unit
base-before-namespaces : named x b-and-x 5 ≡ Ok (found.Member (c 1) (among.Set (f 2 ∷ []) (1 ∷ [])))
unfolding nominates reached shows spread with_facts with_scopes clash declared_in declares_member member_named member_in member_by member_of members_in not_redeclared own_ways ways ways_after with_base found_in_scope ordinary_in sightings_at standing_shown is_pending leads_to searched standing_in first_common first_space up entities found_of odd_pair is_by_friend is_function_at least_of named_by sighting_in standing unhidden
base-before-namespaces = refl

namespace-itself : named x b-and-x 3 ≡ set (8 ∷ [])
unfolding nominates reached shows spread with_facts with_scopes clash declared_in declares_member member_named member_in member_by member_of members_in not_redeclared own_ways ways ways_after with_base found_in_scope ordinary_in sightings_at standing_shown is_pending leads_to searched standing_in first_common first_space up entities found_of odd_pair is_by_friend is_function_at least_of named_by sighting_in standing unhidden
namespace-itself = refl

-- class A { int x; class B { void g(); }; };: B's bodies see A's x
abbrev nested-class : List CxxFact
nested-class = unit ∷ class_in 0 0 ∷ data_member 1 x ∷ class_in 1 1 ∷ end_of 2 1 ∷ end_of 1 0 ∷ block_in 2 ∷ []

enclosing-class : named x nested-class 3 ≡ Ok (found.Member (c 0) (among.Set (f 2 ∷ []) []))
unfolding nominates reached shows spread with_facts with_scopes clash declared_in declares_member member_named member_in member_by member_of members_in not_redeclared own_ways ways ways_after with_base found_in_scope ordinary_in sightings_at standing_shown is_pending leads_to searched standing_in first_common first_space up entities found_of odd_pair is_by_friend is_function_at least_of named_by sighting_in standing unhidden
enclosing-class = refl

-- ---- 3.4.3: before `::`, and 3.4.4: elaborated names

-- class A { static int x; }; int main() { int N; N::x; }: example of 3.4.3 p1, with N for A
abbrev holders : List CxxFact
holders = unit ∷ class_name 0 n 0 ∷ class_in 0 0 ∷ static_member 1 x ∷ end_of 1 0 ∷ block_in 0 ∷ object 2 n ∷ []

object-does-not-hide-before-colons : ordinary (graph_of holders) before_colons (s 2) n 9 ≡ set (1 ∷ [])
unfolding nominates reached shows spread with_facts with_scopes clash declared_in declares_member member_named member_in member_by member_of members_in not_redeclared own_ways ways ways_after with_base found_in_scope ordinary_in sightings_at standing_shown is_pending leads_to searched standing_in first_common first_space up entities found_of odd_pair is_by_friend is_function_at least_of named_by sighting_in standing unhidden
object-does-not-hide-before-colons = refl

object-hides-elsewhere : named n holders 2 ≡ set (6 ∷ [])
unfolding nominates reached shows spread with_facts with_scopes clash declared_in declares_member member_named member_in member_by member_of members_in not_redeclared own_ways ways ways_after with_base found_in_scope ordinary_in sightings_at standing_shown is_pending leads_to searched standing_in first_common first_space up entities found_of odd_pair is_by_friend is_function_at least_of named_by sighting_in standing unhidden
object-hides-elsewhere = refl

-- 3.4.4: class N
elaborated-name : ordinary (graph_of holders) types_only (s 2) n 9 ≡ set (1 ∷ [])
unfolding nominates reached shows spread with_facts with_scopes clash declared_in declares_member member_named member_in member_by member_of members_in not_redeclared own_ways ways ways_after with_base found_in_scope ordinary_in sightings_at standing_shown is_pending leads_to searched standing_in first_common first_space up entities found_of odd_pair is_by_friend is_function_at least_of named_by sighting_in standing unhidden
elaborated-name = refl

no-namespace-of-that-name : ordinary (graph_of holders) namespaces_only (s 2) n 9 ≡ empty
unfolding nominates reached shows spread with_facts with_scopes clash declared_in declares_member member_named member_in member_by member_of members_in not_redeclared own_ways ways ways_after with_base found_in_scope ordinary_in sightings_at standing_shown is_pending leads_to searched standing_in first_common first_space up entities found_of odd_pair is_by_friend is_function_at least_of named_by sighting_in standing unhidden
no-namespace-of-that-name = refl

-- 3.4.3.1
member-by-colons : member_at x holders 0 ≡ Ok (among.Set (f 3 ∷ []) [])
unfolding nominates reached shows spread with_facts with_scopes clash declared_in declares_member member_named member_in member_by member_of members_in not_redeclared own_ways ways ways_after with_base found_in_scope ordinary_in sightings_at standing_shown is_pending leads_to searched standing_in first_common first_space up entities found_of odd_pair is_by_friend is_function_at least_of named_by sighting_in standing unhidden
member-by-colons = refl

-- ---- 3.4.3.2: namespaces

-- namespace Y { void x(int); } namespace Z { void x(char); } namespace A { using namespace Y; } namespace B { using namespace Z; } namespace AB { using namespace A; using namespace B; }
abbrev afg : List CxxFact
afg = unit ∷ space_in 0 ∷ function 1 x int ∷ space_in 0 ∷ function 2 x char ∷ space_in 0 ∷ directive 3 1 ∷ space_in 0 ∷ directive 4 2 ∷ space_in 0 ∷ directive 5 3 ∷ directive 5 4 ∷ []

-- p2: AB::f finds those of Y and Z
functions-of-both : within x afg 5 ≡ set (2 ∷ 4 ∷ [])
unfolding nominates reached shows spread with_facts with_scopes clash declared_in declares_member member_named member_in member_by member_of members_in not_redeclared own_ways ways ways_after with_base found_in_scope ordinary_in sightings_at standing_shown is_pending leads_to searched standing_in first_common first_space up entities found_of odd_pair is_by_friend is_function_at least_of named_by sighting_in standing unhidden
functions-of-both = refl

of-one : within x afg 3 ≡ set (2 ∷ [])
unfolding nominates reached shows spread with_facts with_scopes clash declared_in declares_member member_named member_in member_by member_of members_in not_redeclared own_ways ways ways_after with_base found_in_scope ordinary_in sightings_at standing_shown is_pending leads_to searched standing_in first_common first_space up entities found_of odd_pair is_by_friend is_function_at least_of named_by sighting_in standing unhidden
of-one = refl

behind-the-cut : qualified (graph_of afg) any_name (s 5) x 4 ≡ empty
unfolding nominates reached shows spread with_facts with_scopes clash declared_in declares_member member_named member_in member_by member_of members_in not_redeclared own_ways ways ways_after with_base found_in_scope ordinary_in sightings_at standing_shown is_pending leads_to searched standing_in first_common first_space up entities found_of odd_pair is_by_friend is_function_at least_of named_by sighting_in standing unhidden
behind-the-cut = refl

-- int x; namespace A { }: ::x, and A::x
abbrev unit-and-namespace : List CxxFact
unit-and-namespace = unit ∷ object 0 x ∷ space_in 0 ∷ []

of-the-unit : within x unit-and-namespace 0 ≡ set (1 ∷ [])
unfolding nominates reached shows spread with_facts with_scopes clash declared_in declares_member member_named member_in member_by member_of members_in not_redeclared own_ways ways ways_after with_base found_in_scope ordinary_in sightings_at standing_shown is_pending leads_to searched standing_in first_common first_space up entities found_of odd_pair is_by_friend is_function_at least_of named_by sighting_in standing unhidden
of-the-unit = refl

qualified-looks-not-outside : within x unit-and-namespace 1 ≡ empty
unfolding nominates reached shows spread with_facts with_scopes clash declared_in declares_member member_named member_in member_by member_of members_in not_redeclared own_ways ways ways_after with_base found_in_scope ordinary_in sightings_at standing_shown is_pending leads_to searched standing_in first_common first_space up entities found_of odd_pair is_by_friend is_function_at least_of named_by sighting_in standing unhidden
qualified-looks-not-outside = refl

-- ---- 7.3.1.1: unnamed namespaces

-- namespace { int x; } and its directive
abbrev unnamed-space : List CxxFact
unnamed-space = unit ∷ space_in 0 ∷ space_name 0 unnamed 1 ∷ directive 0 1 ∷ object 1 x ∷ []

member-of-unnamed : named x unnamed-space 0 ≡ set (4 ∷ [])
unfolding nominates reached shows spread with_facts with_scopes clash declared_in declares_member member_named member_in member_by member_of members_in not_redeclared own_ways ways ways_after with_base found_in_scope ordinary_in sightings_at standing_shown is_pending leads_to searched standing_in first_common first_space up entities found_of odd_pair is_by_friend is_function_at least_of named_by sighting_in standing unhidden
member-of-unnamed = refl

member-of-unnamed-qualified : within x unnamed-space 0 ≡ set (4 ∷ [])
unfolding nominates reached shows spread with_facts with_scopes clash declared_in declares_member member_named member_in member_by member_of members_in not_redeclared own_ways ways ways_after with_base found_in_scope ordinary_in sightings_at standing_shown is_pending leads_to searched standing_in first_common first_space up entities found_of odd_pair is_by_friend is_function_at least_of named_by sighting_in standing unhidden
member-of-unnamed-qualified = refl

-- namespace { int x; } int x;: p1
abbrev unnamed-beside : List CxxFact
unnamed-beside = unit ∷ space_in 0 ∷ space_name 0 unnamed 1 ∷ directive 0 1 ∷ object 1 x ∷ object 0 x ∷ []

-- both are there
unnamed-and-global : named x unnamed-beside 0 ≡ two 4 5
unfolding nominates reached shows spread with_facts with_scopes clash declared_in declares_member member_named member_in member_by member_of members_in not_redeclared own_ways ways ways_after with_base found_in_scope ordinary_in sightings_at standing_shown is_pending leads_to searched standing_in first_common first_space up entities found_of odd_pair is_by_friend is_function_at least_of named_by sighting_in standing unhidden
unnamed-and-global = refl

-- the own one comes first
global-by-colons : within x unnamed-beside 0 ≡ set (5 ∷ [])
unfolding nominates reached shows spread with_facts with_scopes clash declared_in declares_member member_named member_in member_by member_of members_in not_redeclared own_ways ways ways_after with_base found_in_scope ordinary_in sightings_at standing_shown is_pending leads_to searched standing_in first_common first_space up entities found_of odd_pair is_by_friend is_function_at least_of named_by sighting_in standing unhidden
global-by-colons = refl

-- ---- 7.3.1, 7.3.2: namespaces opened again, and aliases

-- namespace N { } namespace N { } namespace M = N;
abbrev opened-again : List CxxFact
opened-again = unit ∷ space_in 0 ∷ space_name 0 n 1 ∷ space_name 0 n 1 ∷ block_in 0 ∷ put 2 n (facts.namespace (s 1)) ∷ []

one-namespace : named n opened-again 0 ≡ set (2 ∷ [])
unfolding nominates reached shows spread with_facts with_scopes clash declared_in declares_member member_named member_in member_by member_of members_in not_redeclared own_ways ways ways_after with_base found_in_scope ordinary_in sightings_at standing_shown is_pending leads_to searched standing_in first_common first_space up entities found_of odd_pair is_by_friend is_function_at least_of named_by sighting_in standing unhidden
one-namespace = refl

alias-in-a-block : named n opened-again 2 ≡ set (5 ∷ [])
unfolding nominates reached shows spread with_facts with_scopes clash declared_in declares_member member_named member_in member_by member_of members_in not_redeclared own_ways ways ways_after with_base found_in_scope ordinary_in sightings_at standing_shown is_pending leads_to searched standing_in first_common first_space up entities found_of odd_pair is_by_friend is_function_at least_of named_by sighting_in standing unhidden
alias-in-a-block = refl

-- ---- 7.3.3: using-declarations

-- namespace A { void x(int); } namespace B { void x(char); } void h() { using A::x; using B::x; }
abbrev two-used : List CxxFact
two-used = unit ∷ space_in 0 ∷ function 1 x int ∷ space_in 0 ∷ function 2 x char ∷ block_in 0 ∷ using 3 x 2 ∷ using 3 x 4 ∷ []

-- p11
both-are-brought : named x two-used 3 ≡ set (2 ∷ 4 ∷ [])
unfolding nominates reached shows spread with_facts with_scopes clash declared_in declares_member member_named member_in member_by member_of members_in not_redeclared own_ways ways ways_after with_base found_in_scope ordinary_in sightings_at standing_shown is_pending leads_to searched standing_in first_common first_space up entities found_of odd_pair is_by_friend is_function_at least_of named_by sighting_in standing unhidden
both-are-brought = refl

-- namespace B { void x(int); } void x(char); void f() { using B::x; }
abbrev used-beside-own : List CxxFact
used-beside-own = unit ∷ space_in 0 ∷ function 1 x int ∷ function 0 x char ∷ block_in 0 ∷ using 2 x 2 ∷ []

using-hides-outer-functions : named x used-beside-own 2 ≡ set (2 ∷ [])
unfolding nominates reached shows spread with_facts with_scopes clash declared_in declares_member member_named member_in member_by member_of members_in not_redeclared own_ways ways ways_after with_base found_in_scope ordinary_in sightings_at standing_shown is_pending leads_to searched standing_in first_common first_space up entities found_of odd_pair is_by_friend is_function_at least_of named_by sighting_in standing unhidden
using-hides-outer-functions = refl

-- namespace A { int x; } using A::x; using A::x;: p8
abbrev used-twice : List CxxFact
used-twice = unit ∷ space_in 0 ∷ object 1 x ∷ using 0 x 2 ∷ using 0 x 2 ∷ []

one-entity-said-twice : named x used-twice 0 ≡ set (2 ∷ [])
unfolding nominates reached shows spread with_facts with_scopes clash declared_in declares_member member_named member_in member_by member_of members_in not_redeclared own_ways ways ways_after with_base found_in_scope ordinary_in sightings_at standing_shown is_pending leads_to searched standing_in first_common first_space up entities found_of odd_pair is_by_friend is_function_at least_of named_by sighting_in standing unhidden
one-entity-said-twice = refl

-- namespace A { int x; } namespace B { using A::x; }: B::x is A::x
abbrev used-chain : List CxxFact
used-chain = unit ∷ space_in 0 ∷ object 1 x ∷ space_in 0 ∷ using 2 x 2 ∷ []

through-a-using : within x used-chain 2 ≡ set (2 ∷ [])
unfolding nominates reached shows spread with_facts with_scopes clash declared_in declares_member member_named member_in member_by member_of members_in not_redeclared own_ways ways ways_after with_base found_in_scope ordinary_in sightings_at standing_shown is_pending leads_to searched standing_in first_common first_space up entities found_of odd_pair is_by_friend is_function_at least_of named_by sighting_in standing unhidden
through-a-using = refl

-- using B::x brings A's
its-own-declaration : brought (graph_of used-chain) (s 2) x 9 ≡ set (2 ∷ [])
unfolding nominates reached shows spread with_facts with_scopes clash declared_in declares_member member_named member_in member_by member_of members_in not_redeclared own_ways ways ways_after with_base found_in_scope ordinary_in sightings_at standing_shown is_pending leads_to searched standing_in first_common first_space up entities found_of odd_pair is_by_friend is_function_at least_of named_by sighting_in standing unhidden
its-own-declaration = refl

nothing-to-bring : brought (graph_of used-chain) (s 2) n 9 ≡ empty
unfolding nominates reached shows spread with_facts with_scopes clash declared_in declares_member member_named member_in member_by member_of members_in not_redeclared own_ways ways ways_after with_base found_in_scope ordinary_in sightings_at standing_shown is_pending leads_to searched standing_in first_common first_space up entities found_of odd_pair is_by_friend is_function_at least_of named_by sighting_in standing unhidden
nothing-to-bring = refl

-- void f() { using A::x; } twice over, with a directive beside it
abbrev same-object : List CxxFact
same-object = unit ∷ space_in 0 ∷ object 1 x ∷ directive 0 1 ∷ using 0 x 2 ∷ []

-- one entity
object-by-two-ways : named x same-object 0 ≡ set (2 ∷ [])
unfolding nominates reached shows spread with_facts with_scopes clash declared_in declares_member member_named member_in member_by member_of members_in not_redeclared own_ways ways ways_after with_base found_in_scope ordinary_in sightings_at standing_shown is_pending leads_to searched standing_in first_common first_space up entities found_of odd_pair is_by_friend is_function_at least_of named_by sighting_in standing unhidden
object-by-two-ways = refl

-- ---- 7.1.3: names of types

-- namespace A { typedef int x; } namespace B { typedef int x; } both nominated
abbrev synonyms : List CxxFact
synonyms = unit ∷ space_in 0 ∷ put 1 x (facts.synonym int) ∷ space_in 0 ∷ put 2 x (facts.synonym int) ∷ directive 0 1 ∷ directive 0 2 ∷ []

one-type-twice : named x synonyms 0 ≡ set (2 ∷ [])
unfolding nominates reached shows spread with_facts with_scopes clash declared_in declares_member member_named member_in member_by member_of members_in not_redeclared own_ways ways ways_after with_base found_in_scope ordinary_in sightings_at standing_shown is_pending leads_to searched standing_in first_common first_space up entities found_of odd_pair is_by_friend is_function_at least_of named_by sighting_in standing unhidden
one-type-twice = refl

-- the same with two types
abbrev other-synonyms : List CxxFact
other-synonyms = unit ∷ space_in 0 ∷ put 1 x (facts.synonym int) ∷ space_in 0 ∷ put 2 x (facts.synonym char) ∷ directive 0 1 ∷ directive 0 2 ∷ []

two-types : named x other-synonyms 0 ≡ two 2 4
unfolding nominates reached shows spread with_facts with_scopes clash declared_in declares_member member_named member_in member_by member_of members_in not_redeclared own_ways ways ways_after with_base found_in_scope ordinary_in sightings_at standing_shown is_pending leads_to searched standing_in first_common first_space up entities found_of odd_pair is_by_friend is_function_at least_of named_by sighting_in standing unhidden
two-types = refl

-- class x and a typedef of it, in two namespaces
abbrev class-and-synonym : List CxxFact
class-and-synonym = unit ∷ space_in 0 ∷ class_name 1 x 0 ∷ space_in 0 ∷ put 2 x (facts.synonym (class_type 0)) ∷ directive 0 1 ∷ directive 0 2 ∷ []

class-by-another-name : named x class-and-synonym 0 ≡ set (2 ∷ [])
unfolding nominates reached shows spread with_facts with_scopes clash declared_in declares_member member_named member_in member_by member_of members_in not_redeclared own_ways ways ways_after with_base found_in_scope ordinary_in sightings_at standing_shown is_pending leads_to searched standing_in first_common first_space up entities found_of odd_pair is_by_friend is_function_at least_of named_by sighting_in standing unhidden
class-by-another-name = refl

-- ---- 7.3.4: what is ambiguous

-- two functions in two namespaces, and an object in a third
abbrev functions-and-object : List CxxFact
functions-and-object = unit ∷ space_in 0 ∷ function 1 x int ∷ space_in 0 ∷ function 2 x char ∷ space_in 0 ∷ object 3 x ∷ directive 0 1 ∷ directive 0 2 ∷ directive 0 3 ∷ []

-- the first function, and the object
least-that-is-no-overload : named x functions-and-object 0 ≡ two 2 6
unfolding nominates reached shows spread with_facts with_scopes clash declared_in declares_member member_named member_in member_by member_of members_in not_redeclared own_ways ways ways_after with_base found_in_scope ordinary_in sightings_at standing_shown is_pending leads_to searched standing_in first_common first_space up entities found_of odd_pair is_by_friend is_function_at least_of named_by sighting_in standing unhidden
least-that-is-no-overload = refl

only-what-is-nominated-so-far : ordinary (graph_of functions-and-object) any_name (s 0) x 9 ≡ set (2 ∷ 4 ∷ [])
unfolding nominates reached shows spread with_facts with_scopes clash declared_in declares_member member_named member_in member_by member_of members_in not_redeclared own_ways ways ways_after with_base found_in_scope ordinary_in sightings_at standing_shown is_pending leads_to searched standing_in first_common first_space up entities found_of odd_pair is_by_friend is_function_at least_of named_by sighting_in standing unhidden
only-what-is-nominated-so-far = refl

-- ---- 10.2, 7.3.3: members

-- struct B { void x(int); void x(char); }; struct D : B { using B::x; void x(int); };
abbrev using-in-class : List CxxFact
using-in-class = unit ∷ class_in 0 0 ∷ put 1 x (facts.function (from int) member.Nonstatic no_flags 0 None) ∷ put 1 x (facts.function (from char) member.Nonstatic no_flags 0 None) ∷ end_of 1 0 ∷ class_in 0 1 ∷ base_of 2 1 0 1 ∷ using 2 x 2 ∷ using 2 x 3 ∷ put 2 x (facts.function (from int) member.Nonstatic no_flags 0 None) ∷ end_of 2 1 ∷ []

-- p12: B::x(char), and D's x(int)
own-function-hides-brought : member_at x using-in-class 1 ≡ Ok (among.Set (f 3 ∷ f 9 ∷ []) [])
unfolding nominates reached shows spread with_facts with_scopes clash declared_in declares_member member_named member_in member_by member_of members_in not_redeclared own_ways ways ways_after with_base found_in_scope ordinary_in sightings_at standing_shown is_pending leads_to searched standing_in first_common first_space up entities found_of odd_pair is_by_friend is_function_at least_of named_by sighting_in standing unhidden
own-function-hides-brought = refl

without-using : member_at x using-in-class 0 ≡ Ok (among.Set (f 2 ∷ f 3 ∷ []) [])
unfolding nominates reached shows spread with_facts with_scopes clash declared_in declares_member member_named member_in member_by member_of members_in not_redeclared own_ways ways ways_after with_base found_in_scope ordinary_in sightings_at standing_shown is_pending leads_to searched standing_in first_common first_space up entities found_of odd_pair is_by_friend is_function_at least_of named_by sighting_in standing unhidden
without-using = refl

-- struct A { int x; }; struct B : A { }; struct C : B { }; struct D : C { };
abbrev far-base : List CxxFact
far-base = unit ∷ class_in 0 0 ∷ data_member 1 x ∷ end_of 1 0 ∷ class_in 0 1 ∷ base_of 2 1 0 1 ∷ end_of 2 1 ∷ class_in 0 2 ∷ base_of 3 2 1 1 ∷ end_of 3 2 ∷ class_in 0 3 ∷ base_of 4 3 2 1 ∷ end_of 4 3 ∷ []

path-of-three : member_at x far-base 3 ≡ Ok (among.Set (f 2 ∷ []) (1 ∷ 1 ∷ 1 ∷ []))
unfolding nominates reached shows spread with_facts with_scopes clash declared_in declares_member member_named member_in member_by member_of members_in not_redeclared own_ways ways ways_after with_base found_in_scope ordinary_in sightings_at standing_shown is_pending leads_to searched standing_in first_common first_space up entities found_of odd_pair is_by_friend is_function_at least_of named_by sighting_in standing unhidden
path-of-three = refl

no-such-member : member_at n far-base 3 ≡ Ok among.Empty
unfolding nominates reached shows spread with_facts with_scopes clash declared_in declares_member member_named member_in member_by member_of members_in not_redeclared own_ways ways ways_after with_base found_in_scope ordinary_in sightings_at standing_shown is_pending leads_to searched standing_in first_common first_space up entities found_of odd_pair is_by_friend is_function_at least_of named_by sighting_in standing unhidden
no-such-member = refl

-- struct L { int x; }; struct A : L { int x; }; struct B : L { }; struct D : A, B { };: the L of B is not hidden
abbrev one-way-hidden : List CxxFact
one-way-hidden = unit ∷ class_in 0 0 ∷ data_member 1 x ∷ end_of 1 0 ∷ class_in 0 1 ∷ base_of 2 1 0 1 ∷ data_member 2 x ∷ end_of 2 1 ∷ class_in 0 2 ∷ base_of 3 2 0 1 ∷ end_of 3 2 ∷ class_in 0 3 ∷ base_of 4 3 1 1 ∷ base_of 4 3 2 2 ∷ end_of 4 3 ∷ []

other-subobject-is-not-hidden : member_at x one-way-hidden 3 ≡ Ok (among.Ambiguous (record { fact = f 6; path = 1 ∷ [] }) (record { fact = f 2; path = 2 ∷ 1 ∷ [] }))
unfolding nominates reached shows spread with_facts with_scopes clash declared_in declares_member member_named member_in member_by member_of members_in not_redeclared own_ways ways ways_after with_base found_in_scope ordinary_in sightings_at standing_shown is_pending leads_to searched standing_in first_common first_space up entities found_of odd_pair is_by_friend is_function_at least_of named_by sighting_in standing unhidden
other-subobject-is-not-hidden = refl

-- struct V { typedef int x; }; struct A : V { }; struct B : V { }; struct D : A, B { };
abbrev type-twice : List CxxFact
type-twice = unit ∷ class_in 0 0 ∷ put 1 x (facts.synonym int) ∷ end_of 1 0 ∷ class_in 0 1 ∷ base_of 2 1 0 1 ∷ end_of 2 1 ∷ class_in 0 2 ∷ base_of 3 2 0 1 ∷ end_of 3 2 ∷ class_in 0 3 ∷ base_of 4 3 1 1 ∷ base_of 4 3 2 2 ∷ end_of 4 3 ∷ []

-- no ambiguity
type-of-two-subobjects : member_at x type-twice 3 ≡ Ok (among.Set (f 2 ∷ []) (1 ∷ 1 ∷ []))
unfolding nominates reached shows spread with_facts with_scopes clash declared_in declares_member member_named member_in member_by member_of members_in not_redeclared own_ways ways ways_after with_base found_in_scope ordinary_in sightings_at standing_shown is_pending leads_to searched standing_in first_common first_space up entities found_of odd_pair is_by_friend is_function_at least_of named_by sighting_in standing unhidden
type-of-two-subobjects = refl

-- the same with a static function and a nonstatic one
abbrev mixed-statics : List CxxFact
mixed-statics = unit ∷ class_in 0 0 ∷ put 1 x (facts.function (from int) member.Static no_flags 0 None) ∷ put 1 x (facts.function (from char) member.Nonstatic no_flags 0 None) ∷ end_of 1 0 ∷ class_in 0 1 ∷ base_of 2 1 0 1 ∷ end_of 2 1 ∷ class_in 0 2 ∷ base_of 3 2 0 1 ∷ end_of 3 2 ∷ class_in 0 3 ∷ base_of 4 3 1 1 ∷ base_of 4 3 2 2 ∷ end_of 4 3 ∷ []

first-and-first-nonstatic : member_at x mixed-statics 3 ≡ Ok (among.Ambiguous (record { fact = f 2; path = 1 ∷ 1 ∷ [] }) (record { fact = f 3; path = 2 ∷ 1 ∷ [] }))
unfolding nominates reached shows spread with_facts with_scopes clash declared_in declares_member member_named member_in member_by member_of members_in not_redeclared own_ways ways ways_after with_base found_in_scope ordinary_in sightings_at standing_shown is_pending leads_to searched standing_in first_common first_space up entities found_of odd_pair is_by_friend is_function_at least_of named_by sighting_in standing unhidden
first-and-first-nonstatic = refl

-- struct S { struct x { }; int x; };: 3.3.7 in a class
abbrev class-and-data : List CxxFact
class-and-data = unit ∷ class_in 0 0 ∷ class_name 1 x 1 ∷ data_member 1 x ∷ end_of 1 0 ∷ []

data-hides-class : member_at x class-and-data 0 ≡ Ok (among.Set (f 3 ∷ []) [])
unfolding nominates reached shows spread with_facts with_scopes clash declared_in declares_member member_named member_in member_by member_of members_in not_redeclared own_ways ways ways_after with_base found_in_scope ordinary_in sightings_at standing_shown is_pending leads_to searched standing_in first_common first_space up entities found_of odd_pair is_by_friend is_function_at least_of named_by sighting_in standing unhidden
data-hides-class = refl

types-alone : member_named (graph_of class-and-data) types_only (c 0) x ≡ Ok (among.Set (f 2 ∷ []) [])
unfolding nominates reached shows spread with_facts with_scopes clash declared_in declares_member member_named member_in member_by member_of members_in not_redeclared own_ways ways ways_after with_base found_in_scope ordinary_in sightings_at standing_shown is_pending leads_to searched standing_in first_common first_space up entities found_of odd_pair is_by_friend is_function_at least_of named_by sighting_in standing unhidden
types-alone = refl

-- 9 p2: the class itself
injected-name : member_at n (unit ∷ class_name 0 n 0 ∷ class_in 0 0 ∷ put 1 n (facts.injected (c 0)) ∷ end_of 1 0 ∷ []) 0 ≡ Ok (among.Set (f 3 ∷ []) [])
unfolding nominates reached shows spread with_facts with_scopes clash declared_in declares_member member_named member_in member_by member_of members_in not_redeclared own_ways ways ways_after with_base found_in_scope ordinary_in sightings_at standing_shown is_pending leads_to searched standing_in first_common first_space up entities found_of odd_pair is_by_friend is_function_at least_of named_by sighting_in standing unhidden
injected-name = refl
