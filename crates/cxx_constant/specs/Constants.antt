-- The value of an integral constant expression (5.19), over the trees of a reading. Conversions are trees too, so an
-- operator has operands of the types that it wants.
use Rattle.std.specs.Prelude.{ℤ, pos, if◌then◌else◌, nat_eq, List, [], ◌∷◌, Option, Some, None, Result, Ok, Err}
use Rattle.cxx_model.specs.declared.base.Base.{Base}
use Rattle.cxx_model.specs.Facts.Declarations.{CxxGraph}
use Rattle.cxx_computed.specs.declared.operators.BinaryOperator.{BinaryOperator}
use Rattle.cxx_computed.specs.declared.operators.UnaryOperator.{UnaryOperator}
use Rattle.cxx_computed.specs.declared.operators.ValueFault.{ValueFault}
use Rattle.cxx_computed.specs.declared.operators.ValueFault.TheVariants as fault
use Rattle.cxx_computed.specs.Formulas.{value_as}
use Rattle.cxx_computed.specs.Values.{binary_value, converted_value, is_shift, is_zero, unary_value}
use Rattle.cxx_reading.specs.Productions as reading
use Rattle.cxx_reading.specs.Trees.{CxxTree, CxxTrees, Label, no_trees, tree_then}
use Rattle.cxx_constant.specs.declared.form.Form.{Form}
use Rattle.cxx_constant.specs.declared.form.Form.TheVariants as form
use Rattle.cxx_constant.specs.Forms.{form_of, kind_of_expression}

-- Why an expression has no value, with the part of it that is no constant, or whose operator gives no value.
pub data CxxFault : Type 0 where
  not_constant : CxxTree → CxxFault
  -- 5: the result is none of the values of its type
  overflow : CxxTree → CxxFault
  -- 5.6
  divide_by_zero : CxxTree → CxxFault

abbrev pub CxxValue : Type 0
CxxValue = Result ℤ CxxFault

infixl 10 ◌then◌
abbrev pub ◌then◌ : CxxValue → (ℤ → CxxValue) → CxxValue
(Ok x) then f = f x
(Err e) then f = Err e

abbrev pub fault_in : CxxTree → ValueFault → CxxFault
fault_in tree fault.Overflow = overflow tree
fault_in tree fault.DivideByZero = divide_by_zero tree

-- what an operator gives, where it is the one of a tree
abbrev pub of_tree : CxxTree → Result ℤ ValueFault → CxxValue
of_tree tree (Ok value) = Ok value
of_tree tree (Err why) = Err (fault_in tree why)

-- A part of an expression.
pub record Part : Type 0 where
  pub label : Label
  -- the first part of it from the left that is no constant, where there is one
  pub missing : Option CxxTree
  -- its value, or the first fault from the left
  pub value : CxxValue

-- What is made of the operands of an operator, where there are as many as it has; no tree of a reading has others.
abbrev pub of_one : {A : Type 0} → A → (Part → A) → List Part → A
of_one other make (part ∷ []) = make part
of_one other make _ = other

abbrev pub of_two : {A : Type 0} → A → (Part → Part → A) → List Part → A
of_two other make (left ∷ right ∷ []) = make left right
of_two other make _ = other

abbrev pub of_three : {A : Type 0} → A → (Part → Part → Part → A) → List Part → A
of_three other make (test ∷ left ∷ right ∷ []) = make test left right
of_three other make _ = other

-- ---- parts that are no constants

-- of two, the one that stands to the left
abbrev pub or_else : Option CxxTree → Option CxxTree → Option CxxTree
or_else None other = other
or_else (Some part) other = Some part

abbrev pub missing_of_two : Part → Part → Option CxxTree
missing_of_two left right = or_else left.missing right.missing

abbrev pub missing_of_three : Part → Part → Part → Option CxxTree
missing_of_three test left right = or_else test.missing (or_else left.missing right.missing)

abbrev pub missing_by : CxxTree → Form → List Part → Option CxxTree
missing_by tree (form.Value own) parts = None
missing_by tree form.Cast parts = of_one (Some tree) (λ part. part.missing) parts
missing_by tree (form.Unary operator of) parts = of_one (Some tree) (λ part. part.missing) parts
missing_by tree (form.Binary operator of) parts = of_two (Some tree) missing_of_two parts
missing_by tree form.And parts = of_two (Some tree) missing_of_two parts
missing_by tree form.Or parts = of_two (Some tree) missing_of_two parts
missing_by tree form.Conditional parts = of_three (Some tree) missing_of_three parts
missing_by tree form.Other parts = Some tree

-- ---- values

abbrev pub refused : CxxTree → CxxValue
refused tree = Err (not_constant tree)

-- A part that is not evaluated has to be a constant too; what its operators would give does not count.
abbrev pub unless_missing : Option CxxTree → CxxValue → CxxValue
unless_missing None value = value
unless_missing (Some part) value = Err (not_constant part)

-- 5.6 to 5.13: an operator on two values of one type; the right operand of a shift has its own
abbrev pub operated : BinaryOperator → Base → ℤ → ℤ → Result ℤ ValueFault
operated operator of one two = binary_value operator of (converted_value of one) (if is_shift operator then two else converted_value of two)

abbrev pub unary_then : CxxTree → UnaryOperator → Base → CxxValue → CxxValue
unary_then tree operator of one = one then λ v. of_tree tree (unary_value operator of (converted_value of v))

abbrev pub unary_of : CxxTree → UnaryOperator → Base → Part → CxxValue
unary_of tree operator of part = unary_then tree operator of part.value

abbrev pub binary_then : CxxTree → BinaryOperator → Base → CxxValue → CxxValue → CxxValue
binary_then tree operator of one two = one then λ v. two then λ w. of_tree tree (operated operator of v w)

abbrev pub binary_of : CxxTree → BinaryOperator → Base → Part → Part → CxxValue
binary_of tree operator of left right = binary_then tree operator of left.value right.value

-- a value that is taken, with an operand behind it that is not
abbrev pub checked : CxxValue → Option CxxTree → CxxValue
checked value missing = value then λ v. unless_missing missing (Ok v)

-- 5.14: the right operand is evaluated where the left one is true
abbrev pub conjunction : Part → Part → CxxValue
conjunction left right = left.value then λ v. if is_zero v then checked (Ok (pos 0)) right.missing else right.value

-- 5.15: and here where it is false
abbrev pub disjunction : Part → Part → CxxValue
disjunction left right = left.value then λ v. if is_zero v then right.value else checked (Ok (pos 1)) right.missing

-- 5.16: one of the two is evaluated
abbrev pub choice : Part → Part → Part → CxxValue
choice test left right = test.value then λ v. if is_zero v then unless_missing left.missing right.value else checked left.value right.missing

abbrev pub value_by : CxxTree → Form → List Part → CxxValue
value_by tree (form.Value own) parts = of_tree tree own
value_by tree form.Cast parts = of_one (refused tree) (λ part. part.value) parts
value_by tree (form.Unary operator of) parts = of_one (refused tree) (unary_of tree operator of) parts
value_by tree (form.Binary operator of) parts = of_two (refused tree) (binary_of tree operator of) parts
value_by tree form.And parts = of_two (refused tree) conjunction parts
value_by tree form.Or parts = of_two (refused tree) disjunction parts
value_by tree form.Conditional parts = of_three (refused tree) choice parts
value_by tree form.Other parts = refused tree

-- 4.7, 4.12: a value as the type of its expression has it
abbrev pub typed : Label → CxxValue → CxxValue
typed label value = value then λ v. Ok (value_as (kind_of_expression label) v)

-- ---- trees

abbrev pub labels : List Part → List Label
labels [] = []
labels (part ∷ parts) = part.label ∷ labels parts

-- what stands last, alone
abbrev pub last_of : {A : Type 0} → A → List A → A
last_of one [] = one
last_of one (next ∷ others) = last_of next others

abbrev pub last_alone : {A : Type 0} → List A → List A
last_alone [] = []
last_alone (one ∷ others) = last_of one others ∷ []

-- The operands of an expression, of all that it is written with. Before that of a cast stand the trees of the type.
abbrev pub operands_in : {A : Type 0} → Label → List A → List A
operands_in label parts = if nat_eq label.production reading.cast then last_alone parts else parts

abbrev pub part_as : CxxTree → Form → List Part → Part
part_as tree is operands = record { label = tree.label; missing = missing_by tree is operands; value = typed tree.label (value_by tree is operands) }

abbrev pub part_over : CxxGraph → CxxTree → List Part → Part
part_over graph tree operands = part_as tree (form_of graph tree.label (labels operands)) operands

abbrev pub part_by : CxxGraph → CxxTree → List Part → Part
part_by graph tree parts = part_over graph tree (operands_in tree.label parts)

abbrev pub parts : CxxGraph → CxxTrees → List Part
parts graph no_trees = []
parts graph (tree_then label children next) = part_by graph (record { label = label; children = children }) (parts graph children) ∷ parts graph next

unfoldable pub part_of : CxxGraph → CxxTree → Part
part_of graph tree = part_by graph tree (parts graph tree.children)

-- 5.19: the value of an expression, or the first part of it from the left that is no constant or gives no value
unfoldable pub constant : CxxGraph → CxxTree → CxxValue
constant graph tree = (part_of graph tree).value
