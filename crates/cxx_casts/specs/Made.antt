-- The types between two casts, made, and what `(T)e` stands for.
use Rattle.std.specs.Prelude.{ℕ, ◌≡◌, ◌<◌, ◌∷◌, true, false, List, length, Option, Some, None, Result, Ok, Err, IfSome}
use Rattle.std.specs.Option.{option_map}
use Rattle.cxx_model.specs.declared.memory.OutOfMemory.{OutOfMemory}
use Rattle.cxx_model.specs.declared.stop.Wait.{Wait}
use Rattle.cxx_model.specs.declared.stop.Wait.TheVariants as wait
use Rattle.cxx_model.specs.declared.types.TypeId.{TypeId}
use Rattle.cxx_model.specs.Facts.Fitted.{Fitted}
use Rattle.cxx_model.specs.Facts.Graph.{Graph}
use Rattle.cxx_model.specs.Types.Numbers.{type_at, Keeps}
use Rattle.cxx_model.specs.Types.Trees.{CxxType, pointer_to, reference_to}
use Rattle.cxx_meaning.specs.Conversions.Asking.{Asked}
use Rattle.cxx_meaning.specs.Conversions.Casts.{CxxCast, by_const, by_static, by_static_and_const, by_reinterpret, by_reinterpret_and_const, cast_operand, with_added}
use Rattle.cxx_meaning.specs.Conversions.Standard.{CxxOperand}
use Rattle.cxx_model.specs.declared.sequence.ConstantKind.TheVariants as constant
use Rattle.cxx_meaning.specs.Conversions.Kinds.{cv_of, signature}
use Rattle.cxx_meaning.specs.Conversions.Pointers.{leveled}
use Rattle.cxx_casts.specs.declared.explicit.CastSteps.{CastSteps}
use Rattle.cxx_casts.specs.declared.explicit.CastSteps.TheVariants as steps
use Rattle.cxx_casts.specs.declared.middle.Aims.{Aims}
use Rattle.cxx_casts.specs.declared.middle.Aims.TheVariants as aims

-- ---- the type between

-- a type with the cv words of another, as far as both go
abbrev pub with_words : CxxType → CxxType → CxxType
with_words one two = leveled (cv_of one ∷ signature one) two

abbrev pub aim_at : List CxxType → Aims → Option CxxType
aim_at types aims.Nowhere = None
aim_at types (aims.Pointers one two) = Some (pointer_to (with_words (type_at types one.0) (type_at types two.0)))
aim_at types (aims.Objects one two) = Some (reference_to (with_words (type_at types one.0) (type_at types two.0)))
aim_at types (aims.MorePointers one two) = Some (pointer_to (with_added (type_at types one.0) (type_at types two.0)))
aim_at types (aims.MoreObjects one two) = Some (reference_to (with_added (type_at types one.0) (type_at types two.0)))

abbrev pub IsAimBelow : ℕ → Aims → Type 0
IsAimBelow count aims.Nowhere = Unit {0}
IsAimBelow count (aims.Pointers one two) = (one.0 < count) × (two.0 < count)
IsAimBelow count (aims.Objects one two) = (one.0 < count) × (two.0 < count)
IsAimBelow count (aims.MorePointers one two) = (one.0 < count) × (two.0 < count)
IsAimBelow count (aims.MoreObjects one two) = (one.0 < count) × (two.0 < count)

abbrev pub some_of : Result TypeId OutOfMemory → Result (Option TypeId) OutOfMemory
some_of (Ok number) = Ok (Some number)
some_of (Err fault) = Err fault

-- what a cast gives to a type that has no cv words of its own and is of no class
abbrev pub bare_operand : CxxType → CxxOperand
bare_operand (reference_to t) = record { of = t; lvalue = true; constant = constant.No }
bare_operand t = record { of = t; lvalue = false; constant = constant.No }

-- a number of the list, whose type is such a one
pub record IsBareBelow (types : List CxxType) (number : TypeId) : Type 0 where
  pub known : number.0 < length types
  pub bare : cast_operand (type_at types number.0) ≡ bare_operand (type_at types number.0)

abbrev pub middle_at : List CxxType → Option TypeId → Option CxxType
middle_at types None = None
middle_at types (Some number) = Some (type_at types number.0)

abbrev pub IsMaybeMade : List CxxType → Result (Option TypeId) OutOfMemory → Option CxxType → Type 0
IsMaybeMade new (Ok middle) t = IfSome middle (λ number. IsBareBelow new number) × (middle_at new middle ≡ t)
IsMaybeMade new (Err fault) t = Unit {0}

-- A type is made where one is wanted: each earlier number keeps its type, and the graph and the table stay fitted.
pub record MayMake (graph : Graph) (old new : List CxxType) (result : Result (Option TypeId) OutOfMemory) (t : Option CxxType) : Type 0 where
  pub keeps : Keeps old new
  pub made : IsMaybeMade new result t
  pub fitted : Fitted graph new

-- ---- what `(T)e` stands for

abbrev pub cast_at : List CxxType → CastSteps → CxxCast
cast_at types steps.Const = by_const
cast_at types steps.Static = by_static
cast_at types (steps.StaticThenConst to) = by_static_and_const (type_at types to.0)
cast_at types steps.Reinterpret = by_reinterpret
cast_at types (steps.ReinterpretThenConst to) = by_reinterpret_and_const (type_at types to.0)

abbrev pub casts_at : List CxxType → Option CastSteps → Option CxxCast
casts_at types found = option_map (cast_at types) found

-- the number of a type in it is below a count
abbrev pub AreCastsBelow : ℕ → Option CastSteps → Type 0
AreCastsBelow count (Some (steps.StaticThenConst to)) = to.0 < count
AreCastsBelow count (Some (steps.ReinterpretThenConst to)) = to.0 < count
AreCastsBelow count _ = Unit {0}

abbrev pub IsCast : List CxxType → Result (Option CastSteps) Wait → Asked (Option CxxCast) → Type 0
IsCast new (Ok found) asked = AreCastsBelow (length new) found × (asked ≡ Ok (casts_at new found))
IsCast new (Err wait.OutOfMemory) asked = Unit {0}
IsCast new (Err (wait.Needs class)) asked = asked ≡ Err class

-- What a cast stands for, where it is allowed, or the class that must be complete first. Each earlier number keeps its
-- type, and the graph and the table stay fitted.
pub record Casts (graph : Graph) (old new : List CxxType) (result : Result (Option CastSteps) Wait) (asked : Asked (Option CxxCast)) : Type 0 where
  pub keeps : Keeps old new
  pub cast : IsCast new result asked
  pub fitted : Fitted graph new
