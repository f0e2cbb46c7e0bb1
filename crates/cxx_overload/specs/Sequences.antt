-- Implicit conversion sequences of arguments, and how two of them stand to each other (13.3.3.1, 13.3.3.2), where no
-- class is asked for a conversion.
use Rattle.std.specs.Prelude.{Bool, true, false, not, ◌&&◌, List, [], ◌∷◌, Option, Some, None, Ok}
use Rattle.std.specs.List.{list_any}
use Rattle.cxx_model.specs.declared.sequence.Order.{Order}
use Rattle.cxx_model.specs.declared.sequence.Order.TheVariants.{Better, Worse, Same}
use Rattle.cxx_model.specs.Choice.Better.{is_better_order, is_worse_order}
use Rattle.cxx_model.specs.Facts.Declarations.{CxxGraph}
use Rattle.cxx_model.specs.Types.Trees.{CxxType}
use Rattle.cxx_meaning.specs.Conversions.Asking.{Asked, ◌>>=◌}
use Rattle.cxx_meaning.specs.Conversions.Order.{order_of}
use Rattle.cxx_meaning.specs.Conversions.Standard.{CxxOperand, CxxStandard, standard_sequence}

-- 13.3.3.1
pub data CxxSequence : Type 0 where
  -- 13.3.3.1.1
  by_standard : CxxStandard → CxxSequence
  -- 13.3.3.1.3
  by_ellipsis : CxxSequence
  -- the argument is not converted, or meets no parameter
  no_sequence : CxxSequence

abbrev pub found_sequence : Option CxxStandard → CxxSequence
found_sequence None = no_sequence
found_sequence (Some one) = by_standard one

-- an argument behind the last parameter
abbrev pub sequence_beyond : Bool → CxxSequence
sequence_beyond true = by_ellipsis
sequence_beyond false = no_sequence

-- 13.3.2: an argument meets the first of the parameters that are left, and where none is, the ellipsis
abbrev pub sequence_of : CxxGraph → CxxOperand → List CxxType → Bool → Asked CxxSequence
sequence_of graph operand [] ellipsis = Ok (sequence_beyond ellipsis)
sequence_of graph operand (parameter ∷ others) ellipsis = do
  found ← standard_sequence graph operand parameter
  Ok (found_sequence found)

abbrev pub behind : {A : Type 0} → List A → List A
behind [] = []
behind (first ∷ others) = others

-- one for each argument
abbrev pub sequences_of : CxxGraph → List CxxOperand → List CxxType → Bool → Asked (List CxxSequence)
sequences_of graph [] parameters ellipsis = Ok []
sequences_of graph (operand ∷ operands) parameters ellipsis = do
  first ← sequence_of graph operand parameters ellipsis
  others ← sequences_of graph operands (behind parameters) ellipsis
  Ok (first ∷ others)

-- 13.3.3.2: a standard sequence is better than an ellipsis
abbrev pub order_between : CxxGraph → CxxSequence → CxxSequence → Order
order_between graph (by_standard one) (by_standard two) = order_of graph one two
order_between graph (by_standard one) by_ellipsis = Better
order_between graph by_ellipsis (by_standard two) = Worse
order_between graph _ _ = Same

-- 13.3.3: Of two functions whose sequences compare so, operand by operand, the first is better.
abbrev pub is_better_by : List Order → Bool
is_better_by orders = not (list_any is_worse_order orders) && list_any is_better_order orders
