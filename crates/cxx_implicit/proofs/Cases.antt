-- The members that some classes declare by themselves, each as two compilers have it.
use Rattle.std.specs.Prelude.{ℕ, ◌≡◌, Bool, true, false, List, [], ◌∷◌, ◌++◌, Some, None, codes, refl}
use Rattle.cxx_model.specs.declared.base.Base.TheVariants as base
use Rattle.cxx_model.specs.declared.facts.Access.TheVariants.{Private, Public}
use Rattle.cxx_model.specs.declared.facts.FunctionFlags.{FunctionFlags}
use Rattle.cxx_model.specs.declared.facts.MemberKind.{MemberKind}
use Rattle.cxx_model.specs.declared.facts.MemberKind.TheVariants as member
use Rattle.cxx_model.specs.declared.facts.ScopeKind.TheVariants as kind
use Rattle.cxx_model.specs.declared.types.Cv.{Cv}
use Rattle.cxx_model.specs.Facts.Declarations as facts
use Rattle.cxx_model.specs.Facts.Declarations.{CxxFact, CxxGraph, CxxName, Declares, operator_function, spelled, unnamed}
use Rattle.cxx_model.specs.Types.Trees.{CxxType, CxxTypes, array_of, class_type, function_of, fundamental, no_types, number_bound, pointer_to, qualified, reference_to, type_then}
use Rattle.cxx_implicit.specs.Members.{implicit_members}

-- ---- how rows are written

abbrev no_cv : Cv
no_cv = record { is_const = false; is_volatile = false }

abbrev const : CxxType → CxxType
const t = qualified (record { is_const = true; is_volatile = false }) t

abbrev volatile : CxxType → CxxType
volatile t = qualified (record { is_const = false; is_volatile = true }) t

abbrev const_volatile : CxxType → CxxType
const_volatile t = qualified (record { is_const = true; is_volatile = true }) t

abbrev int : CxxType
int = fundamental base.Int

abbrev void : CxxType
void = fundamental base.Void

abbrev one : CxxType → CxxTypes
one t = type_then t no_types

abbrev two : CxxType → CxxType → CxxTypes
two t u = type_then t (one u)

-- the first class is A, the second one B
abbrev A : CxxType
A = class_type 0

abbrev B : CxxType
B = class_type 1

abbrev put : ℕ → CxxName → Declares → CxxFact
put scope name what = record { place = record { line = 1; column = 1 }; scope = scope; name = name; access = Public; what = what }

abbrev flags : Bool → FunctionFlags
flags is_implicit = record { is_virtual = false; is_pure = false; is_explicit = false; is_implicit = is_implicit }

-- members of A, which stand in scope 1, and of B in scope 2
abbrev constructor : ℕ → CxxTypes → ℕ → CxxFact
constructor scope ts defaults = put scope unnamed (facts.function (function_of void ts false no_cv) member.Constructor (flags false) defaults None)

abbrev assignment : ℕ → CxxType → CxxFact
assignment scope t = put scope (operator_function 23) (facts.function (function_of void (one t) false no_cv) member.Nonstatic (flags false) 0 None)

abbrev data_member : ℕ → MemberKind → CxxType → CxxFact
data_member scope kind t = put scope (spelled (codes "x")) (facts.object t kind false None None)

abbrev a_is_base_of_b : CxxFact
a_is_base_of_b = record (put 2 unnamed (facts.ancestor (record { 0 = 1 }) (record { 0 = 0 }) 1 Private)) { access = Private }

abbrev begins : ℕ → Bool → List CxxFact
begins n is_union = put 0 (spelled (codes "C")) (facts.class (record { 0 = n }) is_union) ∷ put 0 unnamed (facts.scope (Some (record { 0 = 0 })) (kind.Class (record { 0 = n }))) ∷ []

abbrev a_with : Bool → List CxxFact → List CxxFact
a_with is_union members = put 0 unnamed (facts.scope None kind.Space) ∷ (begins 0 is_union ++ members)

abbrev graph : List CxxFact → CxxGraph
graph all = record { facts = all; classes = None ∷ None ∷ []; patterns = [] }

-- what A has by itself, where it has these members
abbrev of_a : List CxxFact → List CxxFact
of_a members = implicit_members (graph (a_with false members)) 0 1 (record { line = 1; column = 1 })

abbrev of_union : List CxxFact → List CxxFact
of_union members = implicit_members (graph (a_with true members)) 0 1 (record { line = 1; column = 1 })

-- what B has by itself, where it and A have these members
abbrev of_b : List CxxFact → List CxxFact → List CxxFact
of_b before members = implicit_members (graph (a_with false before ++ (put 1 unnamed (facts.complete (record { 0 = 0 })) ∷ (begins 1 false ++ members)))) 1 2 (record { line = 1; column = 1 })

-- ---- what is expected

abbrev default_in : ℕ → CxxFact
default_in scope = put scope unnamed (facts.function (function_of void no_types false no_cv) member.Constructor (flags true) 0 None)

abbrev copy_in : ℕ → CxxType → CxxFact
copy_in scope t = put scope unnamed (facts.function (function_of void (one (reference_to t)) false no_cv) member.Constructor (flags true) 0 None)

abbrev assign_in : ℕ → CxxType → CxxType → CxxFact
assign_in scope class t = put scope (operator_function 23) (facts.function (function_of (reference_to class) (one (reference_to t)) false no_cv) member.Nonstatic (flags true) 0 None)

-- ---- classes

-- `struct A {};`
no_members : of_a [] ≡ default_in 1 ∷ copy_in 1 (const A) ∷ assign_in 1 A (const A) ∷ []
unfolding implicit_members
no_members = refl

-- `struct A { A(); };`
declared_default_constructor : of_a (constructor 1 no_types 0 ∷ []) ≡ copy_in 1 (const A) ∷ assign_in 1 A (const A) ∷ []
unfolding implicit_members
declared_default_constructor = refl

-- `struct A { A(int); };`
constructor_of_int : of_a (constructor 1 (one int) 0 ∷ []) ≡ copy_in 1 (const A) ∷ assign_in 1 A (const A) ∷ []
unfolding implicit_members
constructor_of_int = refl

-- `struct A { template<class T> A(T); };`
template_of_constructors : of_a (put 1 unnamed (facts.template (record { 0 = 0 }) member.Constructor 0 false None) ∷ []) ≡ copy_in 1 (const A) ∷ assign_in 1 A (const A) ∷ []
unfolding implicit_members
template_of_constructors = refl

-- `struct A { A &operator=(A); };`
assignment_of_a_value : of_a (assignment 1 A ∷ []) ≡ default_in 1 ∷ copy_in 1 (const A) ∷ []
unfolding implicit_members
assignment_of_a_value = refl

-- `struct A { A &operator=(int); };`
assignment_of_int : of_a (assignment 1 int ∷ []) ≡ default_in 1 ∷ copy_in 1 (const A) ∷ assign_in 1 A (const A) ∷ []
unfolding implicit_members
assignment_of_int = refl

-- `struct A { A(const A &, int = 0); };`
copy_with_a_default_argument : of_a (constructor 1 (two (reference_to (const A)) int) 1 ∷ []) ≡ assign_in 1 A (const A) ∷ []
unfolding implicit_members
copy_with_a_default_argument = refl

-- `struct A { A(const A &, int); };`
no_copy_without_it : of_a (constructor 1 (two (reference_to (const A)) int) 0 ∷ []) ≡ copy_in 1 (const A) ∷ assign_in 1 A (const A) ∷ []
unfolding implicit_members
no_copy_without_it = refl

-- `union A { int x; };`
a_union : of_union (data_member 1 member.Nonstatic int ∷ []) ≡ default_in 1 ∷ copy_in 1 (const A) ∷ assign_in 1 A (const A) ∷ []
unfolding implicit_members
a_union = refl

-- `struct A { A(A &); }; struct B { A x; };`
member_is_copied_from_no_const : of_b (constructor 1 (one (reference_to A)) 0 ∷ assign_in 1 A (const A) ∷ []) (data_member 2 member.Nonstatic A ∷ []) ≡ default_in 2 ∷ copy_in 2 B ∷ assign_in 2 B (const B) ∷ []
unfolding implicit_members
member_is_copied_from_no_const = refl

-- `struct A { A(A &); }; struct B : A {};`
base_is_copied_from_no_const : of_b (constructor 1 (one (reference_to A)) 0 ∷ assign_in 1 A (const A) ∷ []) (a_is_base_of_b ∷ []) ≡ default_in 2 ∷ copy_in 2 B ∷ assign_in 2 B (const B) ∷ []
unfolding implicit_members
base_is_copied_from_no_const = refl

-- `struct A { A(A &); }; struct B { A x[2][3]; };`
elements_are_copied_from_no_const : of_b (constructor 1 (one (reference_to A)) 0 ∷ assign_in 1 A (const A) ∷ []) (data_member 2 member.Nonstatic (array_of (array_of A (number_bound 3)) (number_bound 2)) ∷ []) ≡ default_in 2 ∷ copy_in 2 B ∷ assign_in 2 B (const B) ∷ []
unfolding implicit_members
elements_are_copied_from_no_const = refl

-- `struct A { A(A &); }; struct B { const A x; };`
const_member_is_copied_from_no_const : of_b (constructor 1 (one (reference_to A)) 0 ∷ assign_in 1 A (const A) ∷ []) (data_member 2 member.Nonstatic (const A) ∷ []) ≡ default_in 2 ∷ copy_in 2 B ∷ assign_in 2 B (const B) ∷ []
unfolding implicit_members
const_member_is_copied_from_no_const = refl

-- `struct A { A(A &); }; struct B { A &x; static A x; A *x; };`
no_part_is_of_the_class : of_b (constructor 1 (one (reference_to A)) 0 ∷ assign_in 1 A (const A) ∷ []) (data_member 2 member.Nonstatic (reference_to A) ∷ data_member 2 member.Static A ∷ data_member 2 member.Nonstatic (pointer_to A) ∷ []) ≡ default_in 2 ∷ copy_in 2 (const B) ∷ assign_in 2 B (const B) ∷ []
unfolding implicit_members
no_part_is_of_the_class = refl

-- `struct A { A(A &); A(const A &); }; struct B { A x; };`
member_is_copied_from_both : of_b (constructor 1 (one (reference_to A)) 0 ∷ constructor 1 (one (reference_to (const A))) 0 ∷ assign_in 1 A (const A) ∷ []) (data_member 2 member.Nonstatic A ∷ []) ≡ default_in 2 ∷ copy_in 2 (const B) ∷ assign_in 2 B (const B) ∷ []
unfolding implicit_members
member_is_copied_from_both = refl

-- `struct A { A(volatile A &); }; struct B { A x; };`
member_is_copied_from_volatile : of_b (constructor 1 (one (reference_to (volatile A))) 0 ∷ assign_in 1 A (const A) ∷ []) (data_member 2 member.Nonstatic A ∷ []) ≡ default_in 2 ∷ copy_in 2 B ∷ assign_in 2 B (const B) ∷ []
unfolding implicit_members
member_is_copied_from_volatile = refl

-- `struct A { A(const volatile A &); }; struct B { A x; };`
member_is_copied_from_const_volatile : of_b (constructor 1 (one (reference_to (const_volatile A))) 0 ∷ assign_in 1 A (const A) ∷ []) (data_member 2 member.Nonstatic A ∷ []) ≡ default_in 2 ∷ copy_in 2 (const B) ∷ assign_in 2 B (const B) ∷ []
unfolding implicit_members
member_is_copied_from_const_volatile = refl

-- `struct A {}; struct B { A x; };`
member_has_an_implicit_copy : of_b (default_in 1 ∷ copy_in 1 (const A) ∷ assign_in 1 A (const A) ∷ []) (data_member 2 member.Nonstatic A ∷ []) ≡ default_in 2 ∷ copy_in 2 (const B) ∷ assign_in 2 B (const B) ∷ []
unfolding implicit_members
member_has_an_implicit_copy = refl

-- `struct A { A &operator=(A &); }; struct B { A x; };`
member_is_assigned_from_no_const : of_b (copy_in 1 (const A) ∷ assignment 1 (reference_to A) ∷ []) (data_member 2 member.Nonstatic A ∷ []) ≡ default_in 2 ∷ copy_in 2 (const B) ∷ assign_in 2 B B ∷ []
unfolding implicit_members
member_is_assigned_from_no_const = refl

-- `struct A { A &operator=(volatile A &); }; struct B : A {};`
base_is_assigned_from_volatile : of_b (copy_in 1 (const A) ∷ assignment 1 (reference_to (volatile A)) ∷ []) (a_is_base_of_b ∷ []) ≡ default_in 2 ∷ copy_in 2 (const B) ∷ assign_in 2 B B ∷ []
unfolding implicit_members
base_is_assigned_from_volatile = refl

-- `struct A { A &operator=(A); }; struct B { A x; };`
member_is_assigned_by_value : of_b (copy_in 1 (const A) ∷ assignment 1 A ∷ []) (data_member 2 member.Nonstatic A ∷ []) ≡ default_in 2 ∷ copy_in 2 (const B) ∷ assign_in 2 B (const B) ∷ []
unfolding implicit_members
member_is_assigned_by_value = refl
