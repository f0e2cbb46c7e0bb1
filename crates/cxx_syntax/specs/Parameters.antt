-- Parameters, as the code reads them.
use Rattle.std.specs.Prelude.{List, length}
use Rattle.cxx_model.specs.Types.Trees.{CxxType}
use Rattle.cxx_reading.specs.Declarators as definition
use Rattle.cxx_reading.specs.Declarators.{parameter_type}
use Rattle.cxx_reading.specs.Kinds.{Fallback, Kinds}
use Rattle.cxx_reading.specs.Reads as reads
use Rattle.cxx_reading.specs.Reads.{Ahead, Reads, ask, got, give, looked, ◌>>=◌}
use Rattle.cxx_reading.specs.Syntax.{default_at, list_ended, parameter_fits, parameter_tree, place_of_declarator, specified_type, turn_result, with_parameter}
use Rattle.cxx_reading.specs.Trees.{CxxTree}
use Rattle.cxx_cursor.specs.declared.declarator.ParameterTypes.{ParameterTypes}
use Rattle.cxx_cursor.specs.declared.turn.Turn.{Turn}
use Rattle.cxx_cursor.specs.Views.{AreParameters, IsTurn, parameters_of, turn_at}
use Rattle.cxx_tree.specs.Held.{Held}

abbrev pub parameters_turn : Held → Turn ParameterTypes ParameterTypes → reads.Turn definition.ParameterTypes definition.ParameterTypes
parameters_turn held = turn_at (parameters_of held) (parameters_of held)

abbrev pub IsParametersTurn : Held → Turn ParameterTypes ParameterTypes → Type 0
IsParametersTurn held = IsTurn (AreParameters held) (AreParameters held)

-- the type of a parameter, where there may be such a one
unfoldable pub parameter_typed : {S : Type 0} → definition.Specifiers → definition.Declarator → Reads S CxxType
parameter_typed specifiers declarator = do
  fits ← parameter_fits specifiers declarator
  give (parameter_type declarator.layers (specified_type specifiers))

-- the list with that parameter
abbrev pub parameter_added : {S : Type 0} → Ahead → Ahead → definition.Specifiers → definition.Declarator → CxxType → List CxxTree → definition.ParameterTypes → Reads S definition.ParameterTypes
parameter_added from to specifiers declarator of default so_far state ahead = got (with_parameter of (parameter_tree specifiers declarator of default from to ahead) so_far) state ahead

-- the same behind a parameter that is declared, whose declarator ends before the tokens of `to`
unfoldable pub parameter_behind : {S : Type 0} → Fallback S → Ahead → Ahead → definition.Specifiers → definition.Declarator → CxxType → definition.ParameterTypes → Reads S definition.ParameterTypes
parameter_behind fallback from to specifiers declarator of so_far = do
  default ← default_at fallback (length so_far.types) of
  parameter_added from to specifiers declarator of default so_far

-- a parameter whose specifiers and declarator were read
unfoldable pub parameter_declared : {S : Type 0} → Kinds S → Fallback S → Ahead → definition.Specifiers → definition.Declarator → definition.ParameterTypes → Reads S definition.ParameterTypes
parameter_declared asks fallback from specifiers declarator so_far = do
  of ← parameter_typed specifiers declarator
  to ← looked
  declared ← ask (asks.parameter declarator.name (place_of_declarator declarator to) of)
  parameter_behind fallback from to specifiers declarator of so_far

-- an ellipsis alone
abbrev pub ellipsis_alone : {S : Type 0} → definition.ParameterTypes → Reads S definition.ParameterTypes
ellipsis_alone so_far = list_ended so_far >>= turn_result
