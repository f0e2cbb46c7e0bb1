-- What an expression gives (3.10), conversions that nothing spells (clause 4), and the calls that a reading keeps (13.3).
use Rattle.std.specs.Prelude.{false, if◌then◌else◌, [], ◌∷◌, ◌++◌, Option, Some, None}
use Rattle.cxx_model.specs.declared.base.Base.TheVariants.{Void}
use Rattle.cxx_model.specs.declared.sequence.ConstantKind.TheVariants as constant
use Rattle.cxx_model.specs.Types.Trees.{CxxType, fundamental, unqualified}
use Rattle.cxx_meaning.specs.Conversions.Kinds.{kind_of}
use Rattle.cxx_meaning.specs.Conversions.Standard.{CxxOperand, is_class}
use Rattle.cxx_reading.specs.Productions as production
use Rattle.cxx_reading.specs.State.{CxxState, CxxCall}
use Rattle.cxx_reading.specs.Trees.{CxxTree, tree_of}

-- ---- trees

abbrev pub void_operand : CxxOperand
void_operand = record { of = fundamental Void; lvalue = false; constant = constant.No }

abbrev pub operand_or : Option CxxOperand → CxxOperand
operand_or None = void_operand
operand_or (Some operand) = operand

-- what an expression gives
abbrev pub operand_of : CxxTree → CxxOperand
operand_of tree = operand_or tree.label.operand

-- 3.10 p9: a value of a class has the cv words of its type, and any other value has none
abbrev pub value_type : CxxType → CxxType
value_type of = if is_class (kind_of of) then of else unqualified of

-- 3.10: a value of a type
abbrev pub value_operand : CxxType → CxxOperand
value_operand of = record { of = value_type of; lvalue = false; constant = constant.No }

-- clause 4: a conversion that nothing spells covers the tokens of what it converts
abbrev pub conversion_tree : CxxType → CxxTree → CxxTree
conversion_tree of operand = tree_of (record operand.label { production = production.cast; spelling = []; path = None; of = Some of; operand = Some (value_operand of); target = None; call = None }) (operand ∷ [])

-- ---- calls

abbrev pub with_call : CxxCall → CxxState → CxxState
with_call call state = record state { calls = state.calls ++ call ∷ [] }
