-- Argument-dependent lookup (3.4.2).
use Rattle.std.specs.Prelude.{◌≡◌, ◌<◌, ◌⊎◌, ℕ, zero, suc, ◌+◌, Bool, false, nat_eq, nat_lt, ◌&&◌, if◌then◌else◌, List, [], ◌∷◌, ◌++◌, length, map, filter, find, Option, Some, None, Result, Ok, Err}
use Rattle.std.specs.List.{slice_get, list_any}
use Rattle.cxx_model.specs.declared.lookup.Associated.{Associated}
use Rattle.cxx_model.specs.declared.types.ClassId.{ClassId}
use Rattle.cxx_model.specs.declared.types.FactId.{FactId}
use Rattle.cxx_model.specs.declared.types.Cv.{Cv}
use Rattle.cxx_model.specs.declared.types.ScopeId.{ScopeId}
use Rattle.cxx_model.specs.Facts.Declarations as facts
use Rattle.cxx_model.specs.Facts.Declarations.{CxxFact, CxxGraph, CxxName, CxxSpecialisation, Declares}
use Rattle.cxx_model.specs.Facts.Entities.{is_space}
use Rattle.cxx_model.specs.Facts.Pending.{is_pending}
use Rattle.cxx_model.specs.Types.Same.{same_type}
use Rattle.cxx_model.specs.Types.Trees.{CxxType, fundamental, class_type, enumeration, pointer_to, reference_to, array_of, function_of, qualified, type_parameter, specialisation, nested_in, CxxTypes, no_types, type_then, CxxBound, CxxArgument, type_argument, value_argument, formula_argument, CxxArguments, no_arguments, argument_then}
use Rattle.cxx_meaning.specs.Lookups.Gathered.{gathered}
use Rattle.cxx_meaning.specs.Lookups.Member.{class_of_scope}
use Rattle.cxx_meaning.specs.Lookups.Scopes.{home, kind_of}
use Rattle.cxx_meaning.specs.Lookups.Sightings.{Sighting, entities, is_named, sighting_of, standing}
use Rattle.cxx_meaning.specs.Lookups.Wanted.{any_name, is_function}

-- What the types of some arguments lead to: a type that stands in one of them, or a base of a class that does.
pub data Part : Type 0 where
  of_type : CxxType → Part
  of_base : ℕ → Part

abbrev pub same_part : Part → Part → Bool
same_part (of_type one) (of_type two) = same_type one two
same_part (of_base m) (of_base n) = nat_eq m n
same_part _ _ = false

-- ---- the steps

-- 10: before the bases that come later, where a fact is of a direct base of a class
abbrev pub base_before : ℕ → Declares → List Part → List Part
base_before class (facts.ancestor derived parent index access) later = if nat_eq derived.0 class then of_base parent.0 ∷ later else later
base_before class _ later = later

-- 10: the direct bases of a class, in order
abbrev pub bases_of : List CxxFact → ℕ → List Part
bases_of [] class = []
bases_of (fact ∷ others) class = base_before class fact.what (bases_of others class)

-- each of some types
abbrev pub each_of : CxxTypes → List Part
each_of no_types = []
each_of (type_then t ts) = of_type t ∷ each_of ts

-- the types among the arguments of a template; values and templates contribute nothing
abbrev pub types_among : CxxArguments → List Part
types_among no_arguments = []
types_among (argument_then a others) = by a (types_among others)
  where
    by : CxxArgument → List Part → List Part
    by (type_argument t) later = of_type t ∷ later
    by _ later = later

-- the types among the arguments of a specialisation, where a class is one
abbrev pub arguments_for : Option (Option CxxSpecialisation) → List Part
arguments_for (Some (Some of)) = types_among of.arguments
arguments_for _ = []

-- 3.4.2: A class leads to its bases, and where it is a specialisation to the types among the arguments; a base leads to
-- its own bases alone. A pointer, a reference and an array lead to the element, and a function to the result and the
-- parameters.
abbrev pub leads_to : CxxGraph → Part → List Part
leads_to graph (of_base n) = bases_of graph.facts n
leads_to graph (of_type (class_type n)) = bases_of graph.facts n ++ arguments_for (slice_get graph.classes n)
leads_to graph (of_type (pointer_to t)) = of_type t ∷ []
leads_to graph (of_type (reference_to t)) = of_type t ∷ []
leads_to graph (of_type (array_of t bound)) = of_type t ∷ []
leads_to graph (of_type (qualified cv t)) = of_type t ∷ []
leads_to graph (of_type (function_of r ts ellipsis cv)) = of_type r ∷ each_of ts
leads_to graph (of_type (specialisation n arguments)) = types_among arguments
leads_to graph (of_type _) = []

-- ---- the least set

abbrev pub holds_part : List Part → Part → Bool
holds_part parts part = list_any (same_part part) parts

abbrev pub with_part : List Part → Part → List Part
with_part parts part = if holds_part parts part then parts else parts ++ part ∷ []

-- a list with those of another that it does not hold, at its end
unfoldable pub with_parts : List Part → List Part → List Part
with_parts parts [] = parts
with_parts parts (part ∷ others) = with_parts (with_part parts part) others

-- What follows from a list of parts, each once: every part of it, in turn, adds those to which it leads. There are no
-- more turns than the first number says.
unfoldable pub followed : (Part → List Part) → ℕ → ℕ → List Part → List Part
followed next zero place found = found
followed next (suc room) place found = by (slice_get found place) (λ part. followed next room (place + 1) (with_parts found (next part)))
  where
    by : Option Part → (Part → List Part) → List Part
    by None go_on = found
    by (Some part) go_on = go_on part

-- a type, and the types that stand in it
abbrev mutual
  pub types_in : CxxType → List Part
  types_in (pointer_to t) = of_type (pointer_to t) ∷ types_in t
  types_in (reference_to t) = of_type (reference_to t) ∷ types_in t
  types_in (array_of t bound) = of_type (array_of t bound) ∷ types_in t
  types_in (qualified cv t) = of_type (qualified cv t) ∷ types_in t
  types_in (function_of r ts ellipsis cv) = of_type (function_of r ts ellipsis cv) ∷ (types_in r ++ types_in_each ts)
  types_in (specialisation n arguments) = of_type (specialisation n arguments) ∷ types_in_arguments arguments
  types_in (fundamental base) = of_type (fundamental base) ∷ []
  types_in (class_type n) = of_type (class_type n) ∷ []
  types_in (enumeration n) = of_type (enumeration n) ∷ []
  types_in (type_parameter depth index) = of_type (type_parameter depth index) ∷ []
  types_in (nested_in t word) = of_type (nested_in t word) ∷ []

  pub types_in_each : CxxTypes → List Part
  types_in_each no_types = []
  types_in_each (type_then t ts) = types_in t ++ types_in_each ts

  pub types_in_arguments : CxxArguments → List Part
  types_in_arguments no_arguments = []
  types_in_arguments (argument_then a others) = types_in_argument a ++ types_in_arguments others

  pub types_in_argument : CxxArgument → List Part
  types_in_argument (type_argument t) = types_in t
  types_in_argument (value_argument value t) = []
  types_in_argument (formula_argument f) = []

abbrev pub types_in_all : List CxxType → List Part
types_in_all [] = []
types_in_all (t ∷ ts) = types_in t ++ types_in_all ts

-- the types that stand in the arguments of specialisations
abbrev pub types_of_class : Option CxxSpecialisation → List Part
types_of_class None = []
types_of_class (Some of) = types_in_arguments of.arguments

abbrev pub types_of_classes : List (Option CxxSpecialisation) → List Part
types_of_classes [] = []
types_of_classes (class ∷ classes) = types_of_class class ++ types_of_classes classes

abbrev pub parent_before : Declares → List Part → List Part
parent_before (facts.ancestor derived parent index access) later = of_base parent.0 ∷ later
parent_before _ later = later

-- every class that is a direct base of one
abbrev pub all_bases : List CxxFact → List Part
all_bases [] = []
all_bases (fact ∷ others) = parent_before fact.what (all_bases others)

-- Whatever some types can lead to is among these, so there are no more parts.
unfoldable pub everything : CxxGraph → List CxxType → List Part
everything graph types = types_in_all types ++ (types_of_classes graph.classes ++ all_bases graph.facts)

-- what the types of some arguments lead to, each once
unfoldable pub parts : CxxGraph → List CxxType → List Part
parts graph types = followed (leads_to graph) (length (everything graph types)) 0 (with_parts [] (map of_type types))

-- ---- where they are declared

-- the scope of the first of some facts that pass a test
abbrev pub first_scope : (Declares → Bool) → List CxxFact → Option ScopeId
first_scope test [] = None
first_scope test (fact ∷ others) = if test fact.what then Some (record { 0 = fact.scope }) else first_scope test others

abbrev pub declares_class : ℕ → Declares → Bool
declares_class n (facts.class class is_union) = nat_eq class.0 n
declares_class n _ = false

abbrev pub declares_enumeration : ℕ → Declares → Bool
declares_enumeration n (facts.enumeration number) = nat_eq number n
declares_enumeration n _ = false

abbrev pub declares_template : ℕ → Declares → Bool
declares_template n (facts.template template member defaults is_explicit first) = nat_eq template.0 n
declares_template n _ = false

abbrev pub scope_of_class : CxxGraph → ℕ → Option ScopeId
scope_of_class graph n = first_scope (declares_class n) graph.facts

abbrev pub scope_of_enumeration : CxxGraph → ℕ → Option ScopeId
scope_of_enumeration graph n = first_scope (declares_enumeration n) graph.facts

abbrev pub scope_of_template : CxxGraph → ℕ → Option ScopeId
scope_of_template graph n = first_scope (declares_template n) graph.facts

-- the scope of the template of a class, where it is a specialisation
abbrev pub scope_of_pattern : CxxGraph → Option (Option CxxSpecialisation) → Option ScopeId
scope_of_pattern graph (Some (Some of)) = scope_of_template graph of.template
scope_of_pattern graph _ = None

-- 3.4.2: the scope in which what a part names is declared
abbrev pub scope_of : CxxGraph → Part → Option ScopeId
scope_of graph (of_base n) = scope_of_class graph n
scope_of graph (of_type (class_type n)) = scope_of_class graph n
scope_of graph (of_type (enumeration n)) = scope_of_enumeration graph n
scope_of graph (of_type _) = None

-- 14.7.1: the scope in which the template of a specialisation is declared
abbrev pub template_scope_of : CxxGraph → Part → Option ScopeId
template_scope_of graph (of_base n) = scope_of_pattern graph (slice_get graph.classes n)
template_scope_of graph (of_type (class_type n)) = scope_of_pattern graph (slice_get graph.classes n)
template_scope_of graph (of_type (specialisation n _)) = scope_of_template graph n
template_scope_of graph (of_type _) = None

-- The scope of an enumeration or of the template of a specialisation, of which the class is associated where they are its
-- members. The class of which a class is a member is not, nor is that of which the template of a base is one.
abbrev pub member_scope_of : CxxGraph → Part → Option ScopeId
member_scope_of graph (of_base n) = None
member_scope_of graph (of_type (class_type n)) = scope_of_pattern graph (slice_get graph.classes n)
member_scope_of graph (of_type (enumeration n)) = scope_of_enumeration graph n
member_scope_of graph (of_type (specialisation n _)) = scope_of_template graph n
member_scope_of graph (of_type _) = None

-- ---- ascending lists, each number once

abbrev pub with_number : ℕ → List ℕ → List ℕ
with_number n [] = n ∷ []
with_number n (x ∷ xs) = if nat_lt x n then x ∷ with_number n xs else if nat_eq x n then x ∷ xs else n ∷ x ∷ xs

abbrev pub with_option : Option ℕ → List ℕ → List ℕ
with_option None xs = xs
with_option (Some n) xs = with_number n xs

-- what each of some parts gives, beside what is there
unfoldable pub collected : (Part → Option ℕ) → List ℕ → List Part → List ℕ
collected give found [] = found
collected give found (part ∷ others) = collected give (with_option (give part) found) others

-- each number is less than those behind it
abbrev pub ComesBefore : ℕ → List ℕ → Type 0
ComesBefore n [] = Unit {0}
ComesBefore n (x ∷ xs) = n < x

abbrev pub Ascends : List ℕ → Type 0
Ascends [] = Unit {0}
Ascends (x ∷ xs) = ComesBefore x xs × Ascends xs

-- ---- associated classes and namespaces

-- a class, or a base of one
abbrev pub class_of : Part → Option ℕ
class_of (of_base n) = Some n
class_of (of_type (class_type n)) = Some n
class_of (of_type _) = None

abbrev pub number_of_class : Option ClassId → Option ℕ
number_of_class None = None
number_of_class (Some class) = Some class.0

-- 9.2: the class to which a scope belongs
abbrev pub class_at_scope : CxxGraph → Option ScopeId → Option ℕ
class_at_scope graph None = None
class_at_scope graph (Some scope) = number_of_class (class_of_scope graph.facts scope)

-- 7.3.1: the innermost namespace of a scope
abbrev pub space_at_scope : CxxGraph → Option ScopeId → Option ℕ
space_at_scope graph None = None
space_at_scope graph (Some scope) = Some (home graph.facts scope).0

-- the classes among some parts, ascending
abbrev pub own_classes : List Part → List ℕ
own_classes parts = collected class_of [] parts

-- the classes of which parts are members
abbrev pub with_member_classes : CxxGraph → List Part → List ℕ → List ℕ
with_member_classes graph parts found = collected (λ part. class_at_scope graph (member_scope_of graph part)) found parts

-- the namespaces of what parts name
abbrev pub with_spaces : CxxGraph → List Part → List ℕ → List ℕ
with_spaces graph parts found = collected (λ part. space_at_scope graph (scope_of graph part)) found parts

-- the namespaces of the templates of specialisations
abbrev pub with_template_spaces : CxxGraph → List Part → List ℕ → List ℕ
with_template_spaces graph parts found = collected (λ part. space_at_scope graph (template_scope_of graph part)) found parts

abbrev pub spaces_of : CxxGraph → List Part → List ℕ
spaces_of graph parts = with_template_spaces graph parts (with_spaces graph parts [])

abbrev pub sets_of : CxxGraph → List Part → Associated
sets_of graph parts = record { classes = with_member_classes graph parts (own_classes parts); spaces = spaces_of graph parts }

-- the least pending class of some, or the sets
abbrev pub unless_pending : Option ℕ → Associated → Result Associated ClassId
unless_pending None sets = Ok sets
unless_pending (Some n) sets = Err (record { 0 = n })

-- 3.4.2: the associated classes and namespaces of the types of some arguments, or the least class that has to be complete
-- first
unfoldable pub associated : CxxGraph → List CxxType → Result Associated ClassId
associated graph types = unless_pending (find (is_pending graph) (own_classes (parts graph types))) (sets_of graph (parts graph types))

-- ---- what is found

abbrev pub functions_among : CxxGraph → List Sighting → List Sighting
functions_among graph sightings = filter (λ one. is_function graph one.what) sightings

abbrev pub space_id : ℕ → ScopeId
space_id n = record { 0 = n }

-- the declarations of a name in some namespaces; their directives are not followed
unfoldable pub standing_in_each : CxxGraph → ℕ → CxxName → List ℕ → List Sighting
standing_in_each graph cut name [] = []
standing_in_each graph cut name (space ∷ others) = standing graph cut any_name name (space_id space) ++ standing_in_each graph cut name others

-- 11.4: what a friend declaration of one of some classes declares
abbrev pub target_of : List ℕ → Declares → Option FactId
target_of classes (facts.friend class target) = if list_any (nat_eq class.0) classes then Some target else None
target_of classes _ = None

-- a declaration of the name in a namespace: a friend that is a member of another class is not found by its arguments
abbrev pub is_target : CxxGraph → CxxName → CxxFact → Bool
is_target graph name fact = is_space (kind_of graph.facts (record { 0 = fact.scope })) && is_named name fact

-- a fact, where it is one
abbrev pub target_named : CxxGraph → CxxName → FactId → Option CxxFact → Option Sighting
target_named graph name target None = None
target_named graph name target (Some fact) = if is_target graph name fact then Some (sighting_of graph.facts target.0 fact) else None

abbrev pub target_by : CxxGraph → CxxName → Option FactId → Option Sighting
target_by graph name None = None
target_by graph name (Some target) = target_named graph name target (slice_get graph.facts target.0)

-- a declaration of the name by a friend declaration of one of some classes
unfoldable pub befriended : CxxGraph → CxxName → List ℕ → ℕ → CxxFact → Option Sighting
befriended graph name classes number fact = target_by graph name (target_of classes fact.what)

-- 3.4.2: the functions and function templates of a name in the associated namespaces, as far as they are seen at a cut,
-- and those that the associated classes declare as friends, also where nothing else declares them; ascending
unfoldable pub adl : CxxGraph → Associated → CxxName → ℕ → List FactId
adl graph sets name cut = entities (functions_among graph (standing_in_each graph cut name sets.spaces ++ gathered (befriended graph name sets.classes) 0 graph.facts))

-- ---- 3.4.2 in words

abbrev pub Holds : {A : Type 0} → List A → A → Type 0
Holds [] x = ⊥
Holds (y ∷ ys) x = (x ≡ y) ⊎ Holds ys x

abbrev pub IsOneOf : CxxType → CxxTypes → Type 0
IsOneOf t no_types = ⊥
IsOneOf t (type_then u us) = (t ≡ u) ⊎ IsOneOf t us

-- a type is among the arguments of a template
abbrev pub IsTypeArgument : CxxType → CxxArguments → Type 0
IsTypeArgument t no_arguments = ⊥
IsTypeArgument t (argument_then (type_argument u) others) = (t ≡ u) ⊎ IsTypeArgument t others
IsTypeArgument t (argument_then (value_argument value u) others) = IsTypeArgument t others
IsTypeArgument t (argument_then (formula_argument f) others) = IsTypeArgument t others

-- 10: a class is a direct base of another
abbrev pub SaysBase : ℕ → ℕ → Declares → Type 0
SaysBase class base (facts.ancestor derived parent index access) = (derived.0 ≡ class) × (parent.0 ≡ base)
SaysBase class base _ = ⊥

abbrev pub IsBase : List CxxFact → ℕ → ℕ → Type 0
IsBase [] class base = ⊥
IsBase (fact ∷ others) class base = SaysBase class base fact.what ⊎ IsBase others class base

-- A type stands in those of some arguments, or a class is a base of one that does.
pub data IsReached (graph : CxxGraph) (types : List CxxType) : Part → Type 0 where
  given : (t : CxxType) → Holds types t → IsReached graph types (of_type t)
  pointed : (t : CxxType) → IsReached graph types (of_type (pointer_to t)) → IsReached graph types (of_type t)
  referred : (t : CxxType) → IsReached graph types (of_type (reference_to t)) → IsReached graph types (of_type t)
  element : (t : CxxType) (bound : CxxBound) → IsReached graph types (of_type (array_of t bound)) → IsReached graph types (of_type t)
  without_cv : (t : CxxType) (cv : Cv) → IsReached graph types (of_type (qualified cv t)) → IsReached graph types (of_type t)
  result : (r : CxxType) (ts : CxxTypes) (ellipsis : Bool) (cv : Cv) → IsReached graph types (of_type (function_of r ts ellipsis cv)) → IsReached graph types (of_type r)
  parameter : (t r : CxxType) (ts : CxxTypes) (ellipsis : Bool) (cv : Cv) → IsReached graph types (of_type (function_of r ts ellipsis cv)) → IsOneOf t ts → IsReached graph types (of_type t)
  base : (class parent : ℕ) → IsReached graph types (of_type (class_type class)) → IsBase graph.facts class parent → IsReached graph types (of_base parent)
  base_of_base : (class parent : ℕ) → IsReached graph types (of_base class) → IsBase graph.facts class parent → IsReached graph types (of_base parent)
  argument : (t : CxxType) (class : ℕ) (of : CxxSpecialisation) → IsReached graph types (of_type (class_type class)) → slice_get graph.classes class ≡ Some (Some of) → IsTypeArgument t of.arguments → IsReached graph types (of_type t)
  argument_of : (t : CxxType) (n : ℕ) (arguments : CxxArguments) → IsReached graph types (of_type (specialisation n arguments)) → IsTypeArgument t arguments → IsReached graph types (of_type t)

-- a class that is reached, of which the bases are asked
abbrev pub IsAskedClass : CxxGraph → List CxxType → ℕ → Type 0
IsAskedClass graph types n = (part : Part) × IsReached graph types part × (class_of part ≡ Some n)

-- An associated class is one that is reached, or one of which an enumeration or the template of a specialisation that is
-- reached is a member.
abbrev pub IsAssociatedClass : CxxGraph → List CxxType → ℕ → Type 0
IsAssociatedClass graph types n = (part : Part) × IsReached graph types part × ((class_of part ≡ Some n) ⊎ (class_at_scope graph (member_scope_of graph part) ≡ Some n))

-- An associated namespace is the innermost one of a class, of an enumeration or of the template of a specialisation that
-- is reached.
abbrev pub IsAssociatedSpace : CxxGraph → List CxxType → ℕ → Type 0
IsAssociatedSpace graph types n = (part : Part) × IsReached graph types part × ((space_at_scope graph (scope_of graph part) ≡ Some n) ⊎ (space_at_scope graph (template_scope_of graph part) ≡ Some n))
