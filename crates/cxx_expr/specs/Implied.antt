-- `this` (9.3.2), and members that are named without an object in the body of a function that has one (9.3.1).
use Rattle.std.specs.Prelude.{ℕ, Bool, true, false, ◌||◌, nat_eq, if◌then◌else◌, List, [], ◌∷◌, Option, Some, None, codes}
use Rattle.cxx_model.specs.declared.fault.FaultText.TheVariants as says
use Rattle.cxx_model.specs.declared.types.ClassId.{ClassId}
use Rattle.cxx_model.specs.Facts.Declarations as facts
use Rattle.cxx_model.specs.Facts.Declarations.{CxxGraph, Declares}
use Rattle.cxx_model.specs.Types.Trees.{CxxType, pointer_to}
use Rattle.cxx_meaning.specs.Conversions.Derived.{is_derived}
use Rattle.cxx_meaning.specs.Lookups.Member.{class_of_scope}
use Rattle.cxx_reading.specs.Initializers.{value_operand}
use Rattle.cxx_reading.specs.Linked.{scope_id}
use Rattle.cxx_reading.specs.Reads.{Asks}
use Rattle.cxx_reading.specs.Seen.{Numbered}
use Rattle.cxx_reading.specs.State.{CxxState}
use Rattle.cxx_reading.specs.Trees.{CxxTree, Label, tree_of}
use Rattle.cxx_this.specs.This.{this_object}
use Rattle.cxx_expr.specs.declared.production.TheConstants as production
use Rattle.cxx_expr.specs.Asking.{◌>>=◌, fault_at, give}
use Rattle.cxx_expr.specs.Members.{class_of_object, selected_among}
use Rattle.cxx_expr.specs.Names.{is_nonstatic, named, path_in, values_among}
use Rattle.cxx_expr.specs.Operands.{given_over, object_operand}
use Rattle.cxx_expr.specs.Questions.{Questions}
use Rattle.cxx_expr.specs.Steps.{pointed_label, written}

-- ---- `this`

abbrev pub this_by : CxxTree → Option CxxType → Asks CxxState CxxTree
this_by tree None = fault_at tree.label.place says.OperandsDoNotFit
this_by tree (Some of) = give (given_over tree (value_operand (pointer_to of)) [])

-- 9.3.2: a pointer to the object for which the function is called; where there is none it is no expression
unfoldable pub this : CxxTree → Asks CxxState CxxTree
this tree state = this_by tree (this_object state) state

-- ---- the object of a member

abbrev pub is_or_derived : CxxGraph → ℕ → Option ClassId → Bool
is_or_derived graph n None = false
is_or_derived graph n (Some class) = nat_eq n class.0 || is_derived graph n class.0

abbrev pub has_members_by : CxxGraph → Option ℕ → ℕ → Bool
has_members_by graph None scope = false
has_members_by graph (Some n) scope = is_or_derived graph n (class_of_scope graph.facts (scope_id scope))

-- whether an object of a type has the members that a scope declares: its class is that of the scope, or derived from it
abbrev pub has_members : CxxGraph → CxxType → ℕ → Bool
has_members graph of scope = has_members_by graph (class_of_object (object_operand of)) scope

abbrev pub object_if : CxxType → Bool → Option CxxType
object_if of true = Some of
object_if of false = None

abbrev pub object_with : CxxGraph → ℕ → Option CxxType → Option CxxType
object_with graph scope None = None
object_with graph scope (Some of) = object_if of (has_members graph of scope)

-- 9.3.1, 13.3.1.1.1 p3: the type of `*this`, where that has the members that a scope declares
unfoldable pub object_for : CxxState → ℕ → Option CxxType
object_for state scope = object_with state.graph scope (this_object state)

-- ---- its tree, which stands for the name that is written

-- `this`
abbrev pub this_tree : Label → CxxType → CxxTree
this_tree label of = tree_of (record label { production = production.THIS; spelling = codes "this"; path = None; operand = Some (value_operand (pointer_to of)); of = None; target = None; call = None }) []

-- `*this`
abbrev pub object_tree : Label → CxxType → CxxTree
object_tree label of = tree_of (pointed_label label of) (this_tree label of ∷ [])

-- a name as `.` selects it; the spelling tells whether it is called (5.2.2), or that its object is not written
abbrev pub member_label : Label → List ℕ → Label
member_label label spelling = record label { production = production.MEMBER; spelling = spelling }

-- ---- a member that is not called

-- 9.2: whether a declaration is that of a data member of each object of its class
abbrev pub is_data_member : Declares → Bool
is_data_member (facts.object of kind is_mutable value first) = is_nonstatic kind
is_data_member _ = false

-- the object to which the first of some declarations belongs, where that is a data member and there is one
abbrev pub object_of_first : CxxState → List Numbered → Option CxxType
object_of_first state [] = None
object_of_first state (one ∷ others) = if is_data_member one.fact.what then object_for state one.fact.scope else None

-- 9.3.1: it is a member of `*this`, and of the class that is written before it
unfoldable pub member_named : Questions → Label → List Numbered → CxxType → Asks CxxState CxxTree
member_named q label all of state = selected_among q (tree_of (member_label label (codes "this")) []) (object_operand of) (object_tree label of ∷ []) (written (path_in label) (q.qualifier (path_in label) state)) all state

abbrev pub named_by : Questions → Label → List Numbered → Option CxxType → Asks CxxState CxxTree
named_by q label all None = named q label all
named_by q label all (Some of) = member_named q label all of

-- A name that has these declarations, as an expression.
unfoldable pub named_here : Questions → Label → List Numbered → Asks CxxState CxxTree
named_here q label all state = named_by q label all (object_of_first state (values_among state.graph all)) state

unfoldable pub name : Questions → CxxTree → Asks CxxState CxxTree
name q tree = do
  all ← q.name (path_in tree.label)
  named_here q tree.label all
