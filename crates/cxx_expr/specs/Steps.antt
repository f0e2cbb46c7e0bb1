-- The object of a member, as one of the class that is written before it and of the class that declares it (5.2.5, 10.2).
use Rattle.std.specs.Prelude.{ℕ, Bool, true, false, ◌||◌, nat_eq, if◌then◌else◌, List, [], ◌∷◌, Option, Some, None, Ok, Err, codes}
use Rattle.std.specs.List.{slice_get}
use Rattle.cxx_model.specs.declared.fault.FaultText.TheVariants as says
use Rattle.cxx_model.specs.declared.place.Place.{Place}
use Rattle.cxx_model.specs.Facts.Declarations.{CxxFact, CxxGraph}
use Rattle.cxx_model.specs.Stops.{Answer, fault}
use Rattle.cxx_model.specs.Types.Trees.{CxxType, class_type, reference_to, with_cv}
use Rattle.cxx_meaning.specs.Conversions.Derived.{is_derived}
use Rattle.cxx_meaning.specs.Conversions.Kinds.{CxxKind, cv_of, kind_of, of_class}
use Rattle.cxx_meaning.specs.Lookups.Member.{class_of_scope}
use Rattle.cxx_reading.specs.Initializers.{operand_of}
use Rattle.cxx_reading.specs.Linked.{scope_id}
use Rattle.cxx_reading.specs.Reads.{Asks}
use Rattle.cxx_reading.specs.State.{CxxState}
use Rattle.cxx_reading.specs.Trees.{CxxPath, CxxTree, Label, is_plain_path, tree_of}
use Rattle.cxx_expr.specs.declared.production.TheConstants as production
use Rattle.cxx_expr.specs.Asking.{give}
use Rattle.cxx_expr.specs.Bases.{one_base}
use Rattle.cxx_expr.specs.Converting.{convert}
use Rattle.cxx_expr.specs.Names.{class_or_none, is_static_member}
use Rattle.cxx_expr.specs.Operands.{object_operand}
use Rattle.cxx_expr.specs.Questions.{Questions}

-- ---- classes

abbrev pub class_in : CxxKind → Option ℕ
class_in (of_class n) = Some n
class_in _ = None

-- the class of a type, cv words aside
abbrev pub class_of : CxxType → Option ℕ
class_of of = class_in (kind_of of)

-- the type of the class that declares a member
abbrev pub declaring_by : CxxGraph → Option CxxFact → Option CxxType
declaring_by graph None = None
declaring_by graph (Some fact) = class_or_none (class_of_scope graph.facts (scope_id fact.scope))

unfoldable pub declaring : CxxGraph → ℕ → Option CxxType
declaring graph target = declaring_by graph (slice_get graph.facts target)

-- 9.4: a static member is the same for each object
abbrev pub is_static_fact : Option CxxFact → Bool
is_static_fact None = false
is_static_fact (Some fact) = is_static_member fact.what

unfoldable pub is_static_at : CxxGraph → ℕ → Bool
is_static_at graph target = is_static_fact (slice_get graph.facts target)

abbrev pub is_one_class : Option ℕ → Option ℕ → Bool
is_one_class (Some n) (Some m) = nat_eq n m
is_one_class _ _ = false

-- a class, where it is not that of an object
abbrev pub unless_same : CxxType → Option CxxType → Option CxxType
unless_same own None = None
unless_same own (Some of) = if is_one_class (class_of own) (class_of of) then None else Some of

-- 3.4.3.1: the type of the class that qualifiers mean, where there are some
abbrev pub type_or_none : Option ℕ → Option CxxType
type_or_none None = None
type_or_none (Some n) = Some (class_type n)

abbrev pub written : CxxPath → Option ℕ → Option CxxType
written path class = if is_plain_path path then None else type_or_none class

-- The class that the plain form writes before a member, given the type of its object, what is written, and the class that
-- declares it. An object that is converted shows which member it is, and a class before it says that the function itself is
-- called and none that overrides it (10.3 p12); a value is not converted, and no object tells which static member is meant.
abbrev pub class_before : Bool → CxxType → Option CxxType → Option CxxType → Option CxxType
class_before true own None declared = None
class_before true own (Some of) declared = declared
class_before false own (Some of) declared = Some of
class_before false own None declared = unless_same own declared

abbrev pub or_own : Option CxxType → CxxType → CxxType
or_own None own = own
or_own (Some of) own = of

-- ---- whether an object is one of a class

abbrev pub is_same_or_base : CxxGraph → Option ℕ → Option ℕ → Bool
is_same_or_base graph (Some n) (Some m) = nat_eq n m || is_derived graph n m
is_same_or_base graph _ _ = true

-- 5.2.5: an object of one class is one of another, which is the same or a base
abbrev pub within : CxxGraph → Place → CxxType → Option CxxType → Answer (Unit {0})
within graph place from None = Ok tt
within graph place from (Some to) = if is_same_or_base graph (class_of from) (class_of to) then Ok tt else Err (fault place says.OperandsDoNotFit)

abbrev pub then_within : CxxGraph → Place → CxxType → Option CxxType → Answer (Unit {0}) → Answer (Unit {0})
then_within graph place from to (Ok one) = within graph place from to
then_within graph place from to (Err why) = Err why

-- 5.2.5, 9.4: a member that is the same for each object is one of the class that is written before it, or of the object's own,
-- and of the class that declares it
abbrev pub shared : CxxGraph → Place → CxxType → Option CxxType → Option CxxType → Answer (Unit {0})
shared graph place of class declared = then_within graph place (or_own class of) declared (within graph place of class)

-- ---- the object

-- what a pointer points to
abbrev pub pointed_label : Label → CxxType → Label
pointed_label label of = record label { production = production.PREFIX; spelling = codes "*"; path = None; operand = Some (object_operand of); of = None; target = None; call = None }

-- what `->` selects from, as an object
abbrev pub object_called : CxxTree → CxxType → CxxTree → CxxTree
object_called callee of one = if nat_eq callee.label.production production.ARROW then tree_of (pointed_label callee.label of) (one ∷ []) else one

-- a member of an object, with the class that stands before it
abbrev pub member_over : CxxTree → CxxTree → Option CxxType → CxxTree
member_over tree object class = tree_of (record tree.label { production = production.MEMBER; of = class }) (object ∷ [])

-- ---- a step

-- a class, with the words of the object
abbrev pub base_reference : CxxType → CxxType → CxxType
base_reference of base = reference_to (with_cv (cv_of of) base)

abbrev pub kept_by : CxxTree → CxxState → Answer (Unit {0}) → Answer (CxxTree × CxxState)
kept_by object state (Ok one) = Ok (object, state)
kept_by object state (Err why) = Err why

-- 10.2: an object is converted; a value is as it is, where it has one such subobject
abbrev pub stepped : Questions → Place → CxxType → CxxType → CxxType → CxxTree → Asks CxxState CxxTree
stepped q place of from to object state =
    if (operand_of object).lvalue then convert q place (base_reference of to) object state else kept_by object state (one_base state.graph place (object_operand from) to)

abbrev pub step_between : Questions → Place → CxxType → CxxType → CxxType → ℕ → ℕ → CxxTree → Asks CxxState CxxTree
step_between q place of from to n m object state =
    if nat_eq n m then Ok (object, state) else (
    if is_derived state.graph n m then stepped q place of from to object state else
    Err (fault place says.OperandsDoNotFit))

abbrev pub step_by : Questions → Place → CxxType → CxxType → CxxType → Option ℕ → Option ℕ → CxxTree → Asks CxxState CxxTree
step_by q place of from to (Some n) (Some m) object = step_between q place of from to n m object
step_by q place of from to one other object = give object

-- 5.2.5: an object of a type, as one of the class of a second type, as one of that of a third, which is the same or a base
unfoldable pub step : Questions → Place → CxxType → CxxType → CxxType → CxxTree → Asks CxxState CxxTree
step q place of from to object = step_by q place of from to (class_of from) (class_of to) object

abbrev pub step_to : Questions → Place → CxxType → CxxType → Option CxxType → CxxTree → Asks CxxState CxxTree
step_to q place of from None object = give object
step_to q place of from (Some to) object = step q place of from to object
