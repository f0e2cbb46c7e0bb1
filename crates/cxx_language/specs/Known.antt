-- What an initializer makes known: the value of a constant (5.19) and the bound of an array (8.3.4).
use Rattle.std.specs.Prelude.{ℕ, ℤ, Bool, true, false, not, ◌&&◌, ◌||◌, if◌then◌else◌, List, [], ◌∷◌, Option, Some, None, Ok, Err}
use Rattle.cxx_model.specs.declared.facts.MemberKind.TheVariants as member
use Rattle.cxx_model.specs.Facts.Declarations as facts
use Rattle.cxx_model.specs.Facts.Declarations.{CxxGraph, Declares, spelled}
use Rattle.cxx_model.specs.Stops.{◌>>=◌}
use Rattle.cxx_model.specs.Text.Lexemes.{Lexeme}
use Rattle.cxx_model.specs.Types.Trees.{CxxType}
use Rattle.cxx_meaning.specs.Conversions.Kinds.{CxxKind, arithmetic, enumerated, kind_of, cv_of}
use Rattle.cxx_meaning.specs.Conversions.Standard.{is_floating}
use Rattle.cxx_constant.specs.Constants.{CxxValue, constant}
use Rattle.cxx_reading.specs.Declaring.{added, fact_here, number_id}
use Rattle.cxx_reading.specs.Reads.{Asks}
use Rattle.cxx_reading.specs.State.{CxxState}
use Rattle.cxx_reading.specs.Trees.{CxxTree, children_of}
use Rattle.cxx_reading.specs.Units.{is_unbounded}
use Rattle.cxx_answers.specs.Typed.{entity_number, type_or}

-- 5.19, 7.1.5.1: whether objects of a type are constants: const, not volatile, and of an integral type or an enumeration
abbrev pub is_integral_kind : CxxKind → Bool
is_integral_kind (arithmetic of) = not (is_floating of)
is_integral_kind (enumerated n) = true
is_integral_kind _ = false

abbrev pub is_constant_type : CxxType → Bool
is_constant_type of = ((cv_of of).is_const && not (cv_of of).is_volatile) && is_integral_kind (kind_of of)

abbrev pub value_of : CxxValue → Option ℤ
value_of (Ok value) = Some value
value_of (Err why) = None

-- the value of what is converted to the type of the object
abbrev pub value_of_parts : CxxGraph → List CxxTree → Option ℤ
value_of_parts graph (one ∷ []) = value_of (constant graph one)
value_of_parts graph _ = None

abbrev pub known_value : CxxGraph → CxxType → CxxTree → Option ℤ
known_value graph of tree = if is_constant_type of then value_of_parts graph (children_of tree) else None

-- the type of the object with the bound that its initializer gives
abbrev pub type_known : CxxType → CxxTree → CxxType
type_known of tree = type_or of tree.label.of

abbrev pub is_some_value : Option ℤ → Bool
is_some_value None = false
is_some_value (Some value) = true

-- a further declaration of an object, with what its initializer makes known
abbrev pub known_object : ℕ → CxxType → Option ℤ → Declares
known_object entity of value = facts.object of member.Free false value (Some (number_id entity))

abbrev pub known_answer : ℕ × CxxState → Unit {0} × CxxState
known_answer one = (tt, one.1)

-- What the initializer of the object with a declaration makes known is noted behind it.
unfoldable pub noted : Lexeme → ℕ → CxxType → CxxTree → Asks CxxState (Unit {0})
noted name number of tree state = do
  answer ← added (fact_here state (spelled name.spelling) name.place (known_object (entity_number state number) (type_known of tree) (known_value state.graph of tree))) state
  Ok (known_answer answer)

-- only where it makes something known
unfoldable pub note_known : Lexeme → ℕ → CxxType → CxxTree → Asks CxxState (Unit {0})
note_known name number of tree state = if is_unbounded of || is_some_value (known_value state.graph of tree) then noted name number of tree state else Ok (tt, state)
