-- `sizeof` (5.3.3).
use Rattle.std.specs.Prelude.{ℕ, nat_eq, if◌then◌else◌, decimal, codes, List, ◌++◌, Option, Some, None, Result, Ok, Err}
use Rattle.cxx_model.specs.declared.base.Base.TheVariants as base
use Rattle.cxx_model.specs.declared.fault.FaultText.{FaultText}
use Rattle.cxx_model.specs.declared.fault.FaultText.TheVariants as says
use Rattle.cxx_model.specs.Facts.Declarations.{CxxFact}
use Rattle.cxx_model.specs.Facts.Entities.{object_type}
use Rattle.cxx_model.specs.Facts.Here.{cut_of}
use Rattle.cxx_model.specs.Types.Trees.{CxxType, fundamental}
use Rattle.cxx_meaning.specs.declared.size.SizeReason.{SizeReason}
use Rattle.cxx_meaning.specs.declared.size.SizeReason.TheVariants as reason
use Rattle.cxx_meaning.specs.Conversions.Kinds.{is_array, kind_of}
use Rattle.cxx_meaning.specs.Conversions.Sizes.{referred}
use Rattle.cxx_meaning.specs.Conversions.Standard.{CxxOperand, is_class}
use Rattle.cxx_reading.specs.Initializers.{operand_or, value_operand}
use Rattle.cxx_reading.specs.Reads.{Asks}
use Rattle.cxx_reading.specs.State.{CxxState}
use Rattle.cxx_reading.specs.Trees.{CxxTree, CxxTrees, Label, no_trees, tree_then}
use Rattle.cxx_expr.specs.declared.production.TheConstants as production
use Rattle.cxx_expr.specs.Asking.{◌>>=◌, fault_at, give}
use Rattle.cxx_expr.specs.Questions.{Questions}

-- ---- what is measured

abbrev pub type_in : Label → CxxType
type_in label = (operand_or label.operand).of

abbrev pub or_its : CxxType → Option CxxType → CxxType
or_its own None = own
or_its own (Some of) = referred of

-- 3.9, 8.3.4: a later declaration of an object may give the bound of an array
abbrev pub type_of_target : List CxxFact → ℕ → CxxType → Option ℕ → CxxType
type_of_target all cut own None = own
type_of_target all cut own (Some target) = or_its own (object_type all target cut)

-- the type of the first of some expressions; one in brackets is what stands in them
unfoldable pub type_of_operand : List CxxFact → ℕ → CxxTrees → CxxType
type_of_operand all cut no_trees = fundamental base.Void
type_of_operand all cut (tree_then label children next) =
    if nat_eq label.production production.PARENTHESIS then type_of_operand all cut children else (
    if nat_eq label.production production.NAME then type_of_target all cut (type_in label) label.target else
    type_in label)

abbrev pub or_written : CxxType → Option CxxType → CxxType
or_written own None = own
or_written own (Some of) = of

-- the type that is written, or that of the operand
unfoldable pub measured : CxxTree → CxxState → CxxType
measured tree state = or_written (type_of_operand state.graph.facts (cut_of state.graph.facts state.here) tree.children) tree.label.of

-- ---- the size

-- an array and a class are not complete; a function and `void` have no size
abbrev pub no_size_text : CxxType → FaultText
no_size_text of = if is_array of then says.IncompleteClass else (if is_class (kind_of of) then says.IncompleteClass else says.OperandsDoNotFit)

abbrev pub spelled_as : CxxTree → List ℕ → CxxOperand → CxxTree
spelled_as tree text operand = record { label = record tree.label { spelling = text; operand = Some operand }; children = tree.children }

abbrev pub size_tree : CxxTree → ℕ → CxxTree
size_tree tree n = spelled_as tree (decimal n ++ codes "UL") (value_operand (fundamental base.UnsignedLong))

abbrev pub size_by : CxxTree → CxxType → Result ℕ SizeReason → Asks CxxState CxxTree
size_by tree of (Ok n) = give (size_tree tree n)
size_by tree of (Err reason.TooLarge) = fault_at tree.label.start says.ConstantOverflow
size_by tree of (Err reason.NoSize) = fault_at tree.label.start (no_size_text (referred of))

unfoldable pub size : Questions → CxxTree → Asks CxxState CxxTree
size q tree state = (q.size (measured tree state) >>= size_by tree (measured tree state)) state
