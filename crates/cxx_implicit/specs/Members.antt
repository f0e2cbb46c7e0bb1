-- The members that a class declares by itself at its end (12.1, 12.8).
use Rattle.std.specs.Prelude.{ℕ, Bool, true, false, not, ◌&&◌, nat_eq, nat_le, if◌then◌else◌, List, ◌++◌, ◌+◌, filter, Option, Some, None}
use Rattle.std.specs.List.{list_all, list_any, filter_map}
use Rattle.std.specs.Option.{option_to_list}
use Rattle.cxx_model.specs.declared.base.Base.TheVariants.{Void}
use Rattle.cxx_model.specs.declared.facts.Access.TheVariants.{Public}
use Rattle.cxx_model.specs.declared.facts.FunctionFlags.{FunctionFlags}
use Rattle.cxx_model.specs.declared.facts.MemberKind.{MemberKind}
use Rattle.cxx_model.specs.declared.facts.MemberKind.TheVariants as member
use Rattle.cxx_model.specs.declared.place.Place.{Place}
use Rattle.cxx_model.specs.declared.punct.TheConstants as punct
use Rattle.cxx_model.specs.declared.types.ClassId.{ClassId}
use Rattle.cxx_model.specs.declared.types.Cv.{Cv}
use Rattle.cxx_model.specs.Facts.Declarations as facts
use Rattle.cxx_model.specs.Facts.Declarations.{CxxFact, CxxGraph, CxxName, Declares, operator_function, unnamed}
use Rattle.cxx_model.specs.Types.Trees.{CxxType, CxxTypes, array_of, class_type, function_of, fundamental, no_types, reference_to, type_then, with_cv}
use Rattle.cxx_meaning.specs.Conversions.Kinds.{CxxKind, cv_of, kind_of, no_cv, of_class}
use Rattle.cxx_meaning.specs.Lookups.Member.{class_of_scope, is_of_class}
use Rattle.cxx_implicit.specs.declared.deciding.Implied.{Implied}
use Rattle.cxx_implicit.specs.declared.passing.Passing.{Passing}
use Rattle.cxx_implicit.specs.declared.passing.Passing.TheVariants as passing

-- ---- what is said of a class

-- The class of which a declaration says something: of a base that of which it is a base (10), of each other one that to
-- whose scope it belongs (9.2).
abbrev pub concerned : Option ClassId → Declares → Option ClassId
concerned holder (facts.ancestor class parent index access) = Some class
concerned holder _ = holder

abbrev pub is_said_of : List CxxFact → ℕ → CxxFact → Bool
is_said_of all class fact = is_of_class (record { 0 = class }) (concerned (class_of_scope all (record { 0 = fact.scope })) fact.what)

-- the members and the bases that a class declares
abbrev pub declarations_of : List CxxFact → ℕ → List CxxFact
declarations_of all class = filter (is_said_of all class) all

-- ---- how a function takes an object of a class

abbrev pub class_of_kind : CxxKind → Option ClassId
class_of_kind (of_class n) = Some (record { 0 = n })
class_of_kind _ = None

-- 3.9.3: the class that a type is, its cv words aside
abbrev pub class_named : CxxType → Option ClassId
class_named t = class_of_kind (kind_of t)

abbrev pub is_class : ℕ → CxxType → Bool
is_class class t = is_of_class (record { 0 = class }) (class_named t)

abbrev pub by_value : Bool → Passing
by_value true = passing.Value
by_value false = passing.Other

abbrev pub by_reference : Bool → Bool → Passing
by_reference true true = passing.ConstReference
by_reference true false = passing.Reference
by_reference false is_const = passing.Other

-- 12.8: the class itself, a reference to it, or a reference to a const one; `volatile` makes no difference
abbrev pub passing_in : ℕ → CxxType → Passing
passing_in class (reference_to t) = by_reference (is_class class t) (cv_of t).is_const
passing_in class t = by_value (is_class class t)

abbrev pub passing_of : ℕ → Option CxxType → Passing
passing_of class None = passing.Other
passing_of class (Some t) = passing_in class t

abbrev pub count_types : CxxTypes → ℕ
count_types no_types = 0
count_types (type_then t ts) = count_types ts + 1

-- 8.3.6: the first of some parameters, where each further one has a default argument
abbrev pub lone_of : ℕ → CxxTypes → Option CxxType
lone_of defaults no_types = None
lone_of defaults (type_then t ts) = if nat_le (count_types ts) defaults then Some t else None

abbrev pub lone_parameter : ℕ → CxxType → Option CxxType
lone_parameter defaults (function_of r ts ellipsis cv) = lone_of defaults ts
lone_parameter defaults _ = None

-- ---- constructors and assignments

abbrev pub is_constructor_kind : MemberKind → Bool
is_constructor_kind member.Constructor = true
is_constructor_kind _ = false

abbrev pub is_nonstatic_kind : MemberKind → Bool
is_nonstatic_kind member.Nonstatic = true
is_nonstatic_kind _ = false

-- 12.1: a constructor, or a template of constructors (14.5.2)
abbrev pub is_constructor : Declares → Bool
is_constructor (facts.function of kind flags defaults first) = is_constructor_kind kind
is_constructor (facts.template number kind defaults is_explicit first) = is_constructor_kind kind
is_constructor _ = false

-- 13.5.3
abbrev pub is_assignment : CxxName → Bool
is_assignment (operator_function number) = nat_eq number punct.EQUALS
is_assignment _ = false

-- 12.8: How a constructor takes the object of the class that is copied. A template is no copy constructor.
abbrev pub copied_by : ℕ → Declares → Passing
copied_by class (facts.function of kind flags defaults first) = if is_constructor_kind kind then passing_of class (lone_parameter defaults of) else passing.Other
copied_by class _ = passing.Other

-- 12.8: How a nonstatic assignment operator takes the object of the class that is assigned, as its only parameter. A
-- template is no copy assignment operator.
abbrev pub assigned_by : ℕ → CxxName → Declares → Passing
assigned_by class name (facts.function of kind flags defaults first) = if is_nonstatic_kind kind && is_assignment name then passing_of class (lone_parameter 0 of) else passing.Other
assigned_by class name _ = passing.Other

abbrev pub is_any_reference : Passing → Bool
is_any_reference passing.Reference = true
is_any_reference passing.ConstReference = true
is_any_reference _ = false

abbrev pub is_const_reference : Passing → Bool
is_const_reference passing.ConstReference = true
is_const_reference _ = false

abbrev pub is_any : Passing → Bool
is_any passing.Other = false
is_any _ = true

-- 3.9.3: an object that is const may be passed
abbrev pub takes_const : Passing → Bool
takes_const passing.Value = true
takes_const passing.ConstReference = true
takes_const _ = false

-- 12.8: a constructor whose first parameter is a reference to the class, each further one having a default argument
abbrev pub is_copy_constructor : ℕ → CxxFact → Bool
is_copy_constructor class fact = is_any_reference (copied_by class fact.what)

abbrev pub is_copy_constructor_of_const : ℕ → CxxFact → Bool
is_copy_constructor_of_const class fact = is_const_reference (copied_by class fact.what)

-- 12.8: a nonstatic `operator=` whose only parameter is the class or a reference to it
abbrev pub is_copy_assignment : ℕ → CxxFact → Bool
is_copy_assignment class fact = is_any (assigned_by class fact.name fact.what)

abbrev pub is_copy_assignment_of_const : ℕ → CxxFact → Bool
is_copy_assignment_of_const class fact = takes_const (assigned_by class fact.name fact.what)

-- ---- what a class declares

abbrev pub has_constructor : CxxGraph → ℕ → Bool
has_constructor graph class = list_any (λ fact. is_constructor fact.what) (declarations_of graph.facts class)

abbrev pub has_copy_constructor : CxxGraph → ℕ → Bool
has_copy_constructor graph class = list_any (is_copy_constructor class) (declarations_of graph.facts class)

abbrev pub has_copy_constructor_of_const : CxxGraph → ℕ → Bool
has_copy_constructor_of_const graph class = list_any (is_copy_constructor_of_const class) (declarations_of graph.facts class)

abbrev pub has_copy_assignment : CxxGraph → ℕ → Bool
has_copy_assignment graph class = list_any (is_copy_assignment class) (declarations_of graph.facts class)

abbrev pub has_copy_assignment_of_const : CxxGraph → ℕ → Bool
has_copy_assignment_of_const graph class = list_any (is_copy_assignment_of_const class) (declarations_of graph.facts class)

-- 8.3.4: the class of which an object is made, or each element of an array
abbrev pub class_of_part : CxxType → Option ClassId
class_of_part (array_of t bound) = class_of_part t
class_of_part t = class_named t

-- 10, 9.2: the class of a direct base, or of a nonstatic data member; a reference is no part (8.3.2)
abbrev pub part_in : Declares → Option ClassId
part_in (facts.ancestor class parent index access) = Some parent
part_in (facts.object of kind is_mutable value first) = if is_nonstatic_kind kind then class_of_part of else None
part_in _ = None

abbrev pub parts_of : CxxGraph → ℕ → List ClassId
parts_of graph class = filter_map (λ fact. part_in fact.what) (declarations_of graph.facts class)

abbrev pub only_const : Bool → Cv
only_const is_const = record { is_const = is_const; is_volatile = false }

-- 12.8: the cv words of what the parameter of the implicit copy constructor refers to: `const` where each part has a copy
-- constructor that takes a reference to a const object
abbrev pub copied_cv : CxxGraph → ℕ → Cv
copied_cv graph class = only_const (list_all (λ part. has_copy_constructor_of_const graph part.0) (parts_of graph class))

-- 12.8: the same of the implicit copy assignment operator
abbrev pub assigned_cv : CxxGraph → ℕ → Cv
assigned_cv graph class = only_const (list_all (λ part. has_copy_assignment_of_const graph part.0) (parts_of graph class))

abbrev pub unless : Bool → Cv → Option Cv
unless true cv = None
unless false cv = Some cv

-- 12.1, 12.8: which members a class declares by itself
abbrev pub implied : CxxGraph → ℕ → Implied
implied graph class = record {
  default_constructor = not (has_constructor graph class);
  copy_constructor = unless (has_copy_constructor graph class) (copied_cv graph class);
  copy_assignment = unless (has_copy_assignment graph class) (assigned_cv graph class);
}

-- ---- their declarations

-- 12.1: `X()`
abbrev pub default_constructor_type : CxxType
default_constructor_type = function_of (fundamental Void) no_types false no_cv

-- 8.3.2
abbrev pub reference_to_class : ℕ → Cv → CxxType
reference_to_class class cv = reference_to (with_cv cv (class_type class))

-- 12.8: `X(const X &)` or `X(X &)`
abbrev pub copy_constructor_type : ℕ → Cv → CxxType
copy_constructor_type class cv = function_of (fundamental Void) (type_then (reference_to_class class cv) no_types) false no_cv

-- 12.8: `X &operator=(const X &)` or `X &operator=(X &)`
abbrev pub copy_assignment_type : ℕ → Cv → CxxType
copy_assignment_type class cv = function_of (reference_to (class_type class)) (type_then (reference_to_class class cv) no_types) false no_cv

abbrev pub implicit_flags : FunctionFlags
implicit_flags = record { is_virtual = false; is_pure = false; is_explicit = false; is_implicit = true }

-- a public member of the class in whose scope it stands
abbrev pub implicit_member : ℕ → Place → CxxName → MemberKind → CxxType → CxxFact
implicit_member scope place name kind t = record { place = place; scope = scope; name = name; access = Public; what = facts.function t kind implicit_flags 0 None }

abbrev pub default_constructor : Bool → ℕ → Place → Option CxxFact
default_constructor false scope place = None
default_constructor true scope place = Some (implicit_member scope place unnamed member.Constructor default_constructor_type)

abbrev pub copy_constructor : Option Cv → ℕ → ℕ → Place → Option CxxFact
copy_constructor None class scope place = None
copy_constructor (Some cv) class scope place = Some (implicit_member scope place unnamed member.Constructor (copy_constructor_type class cv))

abbrev pub copy_assignment : Option Cv → ℕ → ℕ → Place → Option CxxFact
copy_assignment None class scope place = None
copy_assignment (Some cv) class scope place = Some (implicit_member scope place (operator_function punct.EQUALS) member.Nonstatic (copy_assignment_type class cv))

abbrev pub members_by : Implied → ℕ → ℕ → Place → List CxxFact
members_by which class scope place = option_to_list (default_constructor which.default_constructor scope place) ++ (option_to_list (copy_constructor which.copy_constructor class scope place) ++ option_to_list (copy_assignment which.copy_assignment class scope place))

-- 12.1, 12.8: The members that a class with a scope declares by itself at its end, in order, at a place.
unfoldable pub implicit_members : CxxGraph → ℕ → ℕ → Place → List CxxFact
implicit_members graph class scope place = members_by (implied graph class) class scope place
