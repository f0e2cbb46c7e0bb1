-- What the code answers, seen as the definitions have it.
use Rattle.std.specs.Prelude.{ℕ, ◌≡◌, List, Option, Some, None, Result, Ok, Err, ℤ}
use Rattle.std.specs.Option.{option_map}
use Rattle.cxx_model.specs.declared.types.ClassId.{ClassId}
use Rattle.cxx_model.specs.Facts.Graph.{Graph}
use Rattle.cxx_model.specs.Types.Trees.{CxxType}
use Rattle.cxx_meaning.specs.Conversions.Asking.{Asked}
use Rattle.cxx_meaning.specs.Conversions.Kinds.{CxxKind}
use Rattle.cxx_computed.specs.declared.formulas.ComputeStop.{ComputeStop}
use Rattle.cxx_computed.specs.declared.formulas.ComputeStop.TheVariants as stop
use Rattle.cxx_computed.specs.declared.constants.Constant.{Constant}
use Rattle.cxx_computed.specs.Formulas.{CxxConstant}
use Rattle.cxx_standard.specs.declared.kinds.TypeKind.{TypeKind}
use Rattle.cxx_standard.specs.Views.{kind_at, IsKindInRange}

abbrev pub constant_at : List CxxType → Constant → CxxConstant
constant_at types part = record { of = kind_at types part.of; value = part.value }

abbrev pub constants_at : List CxxType → Option Constant → Option CxxConstant
constants_at types found = option_map (constant_at types) found

abbrev pub kinds_at : List CxxType → Option TypeKind → Option CxxKind
kinds_at types found = option_map (kind_at types) found

abbrev pub number_of : Option ClassId → Option ℕ
number_of None = None
number_of (Some class) = Some class.0

-- What is answered: the value, that there is none, or the class that must be complete first.
abbrev pub Computes : Result ℤ ComputeStop → Asked (Option ℤ) → Type 0
Computes (Ok value) asked = asked ≡ Ok (Some value)
Computes (Err stop.NoValue) asked = asked ≡ Ok None
Computes (Err (stop.Needs class)) asked = asked ≡ Err class

abbrev pub AreConstantsInRange : Graph → List CxxType → Option Constant → Type 0
AreConstantsInRange graph types None = Unit {0}
AreConstantsInRange graph types (Some part) = IsKindInRange graph (kind_at types part.of)
