-- What a name means in an expression (3.3.7, 3.4, 5.1, 7.2).
use Rattle.std.specs.Prelude.{ℕ, ℤ, Bool, true, false, ◌&&◌, nat_eq, if◌then◌else◌, ◌-◌, List, [], ◌∷◌, length, Option, Some, None, Ok, Err}
use Rattle.std.specs.List.{slice_get}
use Rattle.cxx_model.specs.declared.base.Base.{Base}
use Rattle.cxx_model.specs.declared.fault.FaultText.TheVariants as says
use Rattle.cxx_model.specs.declared.facts.MemberKind.{MemberKind}
use Rattle.cxx_model.specs.declared.facts.MemberKind.TheVariants as member
use Rattle.cxx_model.specs.declared.fault.LeftOut.TheVariants as form
use Rattle.cxx_model.specs.declared.place.Place.{Place}
use Rattle.cxx_model.specs.declared.types.ClassId.{ClassId}
use Rattle.cxx_model.specs.declared.sequence.ConstantKind.TheVariants as constant
use Rattle.cxx_model.specs.Facts.Declarations as facts
use Rattle.cxx_model.specs.Facts.Declarations.{CxxFact, CxxGraph, Declares}
use Rattle.cxx_model.specs.Facts.Entities.{first_or, has_no_bound}
use Rattle.cxx_model.specs.Stops.{Stopped, fault, undeclared_at}
use Rattle.cxx_model.specs.Types.Integral.{promoted_of_values}
use Rattle.cxx_model.specs.Types.Trees.{CxxType, class_type, enumeration, fundamental}
use Rattle.cxx_meaning.specs.Conversions.Sizes.{referred}
use Rattle.cxx_meaning.specs.Conversions.Standard.{CxxOperand}
use Rattle.cxx_meaning.specs.Lookups.Member.{class_of_scope}
use Rattle.cxx_meaning.specs.Lookups.Wanted.{hides_types}
use Rattle.cxx_reading.specs.Paths.{wrong_kind_at}
use Rattle.cxx_reading.specs.Reads.{Asks}
use Rattle.cxx_reading.specs.Seen.{Numbered, declared_in, kept}
use Rattle.cxx_reading.specs.State.{CxxState}
use Rattle.cxx_reading.specs.Trees.{CxxPath, CxxPathPart, CxxTree, Label, no_part, tree_of}
use Rattle.cxx_expr.specs.Asking.{◌>>=◌, give, stop}
use Rattle.cxx_expr.specs.Operands.{object_operand}
use Rattle.cxx_expr.specs.Questions.{Questions}

-- ---- what is meant

-- the entity that a name means, by its first declaration, and what the name gives
pub record Means : Type 0 where
  pub target : ℕ
  pub operand : CxxOperand
  -- 7.2
  pub is_enumerator : Bool

-- the type that an object or a function has by a declaration
abbrev pub type_declared : Declares → Option CxxType
type_declared (facts.object of kind is_mutable value first) = Some of
type_declared (facts.function of kind flags defaults first) = Some of
type_declared _ = None

abbrev pub type_by_fact : Option CxxFact → Option CxxType
type_by_fact None = None
type_by_fact (Some fact) = type_declared fact.what

abbrev pub or_own : CxxType → Option CxxType → CxxType
or_own own None = own
or_own own (Some of) = of

abbrev pub same_place : Place → Place → Bool
same_place one two = nat_eq one.line two.line && nat_eq one.column two.column

-- the type by a further declaration of an object
abbrev pub type_again : ℕ → Declares → Option CxxType
type_again target (facts.object of kind is_mutable value (Some first)) = if nat_eq first.0 target then Some of else None
type_again target _ = None

-- the same, where it stands at a place
abbrev pub known_at : ℕ → Place → CxxFact → Option CxxType
known_at target place fact = if same_place fact.place place then type_again target fact.what else None

abbrev pub first_type : Option CxxType → Option CxxType → Option CxxType
first_type None later = later
first_type (Some of) later = Some of

abbrev pub known_among : ℕ → Place → List Numbered → Option CxxType
known_among target place [] = None
known_among target place (one ∷ others) = first_type (known_at target place one.fact) (known_among target place others)

-- 8.3.4, 8.5.1: The bound that the initializer of an array gives stands in a further declaration at the same place.
abbrev pub in_full : CxxGraph → ℕ → CxxFact → CxxType → CxxType
in_full graph target fact of = if has_no_bound of then or_own of (known_among target fact.place (declared_in graph fact.scope fact.name)) else of

abbrev pub in_full_by : CxxGraph → ℕ → Option CxxFact → CxxType → CxxType
in_full_by graph target None of = of
in_full_by graph target (Some fact) of = in_full graph target fact of

-- 3.5: An object or a function has the type of its first declaration, with the bound that its own initializer gives. A
-- reference is what it refers to.
abbrev pub type_of_first : CxxGraph → ℕ → CxxType → CxxType
type_of_first graph target own = referred (in_full_by graph target (slice_get graph.facts target) (or_own own (type_by_fact (slice_get graph.facts target))))

abbrev pub means_object : CxxGraph → ℕ → CxxType → Means
means_object graph target own = record { target = target; operand = object_operand (type_of_first graph target own); is_enumerator = false }

-- 7.2: An enumerator is of its enumeration. While the list of that is read, it is of the first type that holds its value.
abbrev pub is_open_list : Option ℕ → ℕ → Bool
is_open_list None n = false
is_open_list (Some m) n = nat_eq m n

abbrev pub base_or_list : ℕ → Option Base → CxxType
base_or_list n None = enumeration n
base_or_list n (Some of) = fundamental of

abbrev pub enumerator_type : Option ℕ → ℕ → ℤ → CxxType
enumerator_type list n value = if is_open_list list n then base_or_list n (promoted_of_values (value ∷ [])) else enumeration n

abbrev pub means_enumerator : Option ℕ → ℕ → ℕ → ℤ → Means
means_enumerator list number n value = record { target = number; operand = record { of = enumerator_type list n value; lvalue = false; constant = constant.No }; is_enumerator = true }

-- ---- functions

-- whether a declaration is one of the function with this first declaration
abbrev pub is_function_with : ℕ → ℕ → Declares → Bool
is_function_with target number (facts.function of kind flags defaults first) = nat_eq (first_or number first) target
is_function_with target number _ = false

abbrev pub are_one_function : ℕ → List Numbered → Bool
are_one_function target [] = true
are_one_function target (one ∷ others) = is_function_with target one.number one.fact.what && are_one_function target others

-- 13.4: where a name means several functions, or a template of them, it depends on its use which it means
abbrev pub several_at : Place → Stopped
several_at place = fault place (says.LeftOut form.AddressOfSeveralFunctions)

-- ---- by the declarations

-- 3.3.7: what hides the types of its scope
abbrev pub values_among : CxxGraph → List Numbered → List Numbered
values_among graph all = kept (hides_types graph) all

-- why a name means no value, by its declarations
abbrev pub no_value_at : CxxPathPart → List Numbered → Stopped
no_value_at part [] = undeclared_at part.place part.word
no_value_at part (one ∷ others) = wrong_kind_at part one.fact.place

-- whether a declaration is that of a function
abbrev pub declares_function : Declares → Bool
declares_function (facts.function of kind flags defaults first) = true
declares_function _ = false

abbrev pub is_function_fact : Option CxxFact → Bool
is_function_fact None = false
is_function_fact (Some fact) = declares_function fact.what

unfoldable pub is_function_at : CxxGraph → ℕ → Bool
is_function_at graph target = is_function_fact (slice_get graph.facts target)

abbrev pub is_nonstatic : MemberKind → Bool
is_nonstatic member.Nonstatic = true
is_nonstatic _ = false

-- 9.3: what belongs to an object of its class is not named without one
abbrev pub means_object_by : Place → Bool → Means → Asks CxxState Means
means_object_by place true means = stop (fault place says.OperandsDoNotFit)
means_object_by place false means = give means

abbrev pub means_function : Place → CxxGraph → MemberKind → ℕ → CxxType → List Numbered → Asks CxxState Means
means_function place graph kind target own all state =
    if are_one_function target all then means_object_by place (is_nonstatic kind) (means_object graph target own) state else Err (several_at place)

abbrev pub means_first : Place → CxxGraph → Option ℕ → List Numbered → ℕ → Declares → Asks CxxState Means
means_first place graph list all number (facts.object of kind is_mutable value first) = means_object_by place (is_nonstatic kind) (means_object graph (first_or number first) of)
means_first place graph list all number (facts.enumerator n value) = give (means_enumerator list number n value)
means_first place graph list all number (facts.function of kind flags defaults first) = means_function place graph kind (first_or number first) of all
means_first place graph list all number _ = stop (several_at place)

abbrev pub means_value : CxxPathPart → Place → List Numbered → List Numbered → Asks CxxState Means
means_value part place all [] state = Err (no_value_at part all)
means_value part place all (one ∷ others) state = means_first place state.graph state.here.enumeration (one ∷ others) one.number one.fact.what state

-- what a name means that has these declarations
unfoldable pub meant_by : CxxPathPart → Place → List Numbered → Asks CxxState Means
meant_by part place all state = means_value part place all (values_among state.graph all) state

-- ---- the tree

abbrev pub no_path : CxxPath
no_path = record { global = false; parts = [] }

abbrev pub path_or : Option CxxPath → CxxPath
path_or None = no_path
path_or (Some path) = path

abbrev pub is_none_left : {A : Type 0} → List A → Bool
is_none_left [] = true
is_none_left (x ∷ xs) = false

-- the name that is written
abbrev pub path_in : Label → CxxPath
path_in label = path_or label.path

abbrev pub part_or : Option CxxPathPart → CxxPathPart
part_or None = no_part
part_or (Some part) = part

abbrev pub last_part : CxxPath → Option CxxPathPart
last_part path = slice_get path.parts (length path.parts - 1)

-- the last word of it, that is looked up
abbrev pub word_in : Label → CxxPathPart
word_in label = part_or (last_part (path_in label))

-- 9.4: whether a declaration is that of a static member
abbrev pub is_static : MemberKind → Bool
is_static member.Static = true
is_static _ = false

abbrev pub is_static_member : Declares → Bool
is_static_member (facts.object of kind is_mutable value first) = is_static kind
is_static_member (facts.function of kind flags defaults first) = is_static kind
is_static_member _ = false

abbrev pub class_or_none : Option ClassId → Option CxxType
class_or_none None = None
class_or_none (Some class) = Some (class_type class.0)

abbrev pub class_if : CxxGraph → ℕ → Bool → Option CxxType
class_if graph scope true = class_or_none (class_of_scope graph.facts (record { 0 = scope }))
class_if graph scope false = None

abbrev pub class_of_fact : CxxGraph → Option CxxFact → Option CxxType
class_of_fact graph None = None
class_of_fact graph (Some fact) = class_if graph fact.scope (is_static_member fact.what)

-- 9.4: the class that declares what is named, where that is a static member
unfoldable pub static_class : CxxGraph → ℕ → Option CxxType
static_class graph target = class_of_fact graph (slice_get graph.facts target)

-- the type of the name of a static member is its class
abbrev pub named_tree : Label → Means → Option CxxType → CxxTree
named_tree label means class = tree_of (record label { of = class; operand = Some means.operand; target = Some means.target }) []

abbrev pub named_as : Label → Means → Asks CxxState CxxTree
named_as label means state = Ok (named_tree label means (static_class state.graph means.target), state)

-- A name that has these declarations, as an expression without an object: what it means, which is noted.
unfoldable pub named : Questions → Label → List Numbered → Asks CxxState CxxTree
named q label all = do
  means ← meant_by (word_in label) label.place all
  noted ← q.bound label.place means.target
  named_as label means
