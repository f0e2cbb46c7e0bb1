-- What the code answers, seen as the definitions have it.
use Rattle.std.specs.Prelude.{ℕ, ◌≡◌, ◌<◌, List, [], ◌∷◌, length, Option, Some, None, Result, Ok, Err}
use Rattle.std.specs.Option.{option_map}
use Rattle.cxx_model.specs.declared.memory.OutOfMemory.{OutOfMemory}
use Rattle.cxx_model.specs.declared.sequence.Operand.{Operand}
use Rattle.cxx_model.specs.declared.sequence.StandardSequence.{StandardSequence}
use Rattle.cxx_model.specs.declared.types.Cv.{Cv}
use Rattle.cxx_model.specs.declared.types.TypeId.{TypeId}
use Rattle.cxx_model.specs.Facts.Graph.{Graph, enumerations}
use Rattle.cxx_model.specs.Types.Trees.{CxxType}
use Rattle.cxx_model.specs.Types.Numbers.{type_at}
use Rattle.cxx_meaning.specs.Conversions.Kinds.{CxxKind, no_value, arithmetic, enumerated, pointing, of_class, other, cv_of, signature}
use Rattle.cxx_meaning.specs.Conversions.Order.{CxxWay, between_pointers, to_void, between_classes, no_way}
use Rattle.cxx_meaning.specs.Conversions.Standard.{CxxOperand, CxxStandard}
use Rattle.cxx_standard.specs.declared.kinds.TypeKind.{TypeKind}
use Rattle.cxx_standard.specs.declared.kinds.TypeKind.TheVariants as kind
use Rattle.cxx_standard.specs.declared.order.Way.{Way}
use Rattle.cxx_standard.specs.declared.order.Way.TheVariants as way

abbrev pub kind_at : List CxxType → TypeKind → CxxKind
kind_at types kind.Void = no_value
kind_at types (kind.Arithmetic of) = arithmetic of
kind_at types (kind.Enumeration number) = enumerated number.0
kind_at types (kind.Pointer to) = pointing (type_at types to.0)
kind_at types (kind.Class class) = of_class class.0
kind_at types kind.Other = other

-- the number of a type in it is below a count
abbrev pub IsKindBelow : ℕ → TypeKind → Type 0
IsKindBelow count (kind.Pointer to) = to.0 < count
IsKindBelow count _ = Unit {0}

-- a class or an enumeration is there
abbrev pub IsKindInRange : Graph → CxxKind → Type 0
IsKindInRange graph (of_class n) = n < length graph.classes
IsKindInRange graph (enumerated n) = n < enumerations graph.facts
IsKindInRange graph _ = Unit {0}

-- the cv words of a type, and those behind each `*` in it
abbrev pub signature_at : List CxxType → Option TypeId → List Cv
signature_at types None = []
signature_at types (Some of) = cv_of (type_at types of.0) ∷ signature (type_at types of.0)

abbrev pub operand_at : List CxxType → Operand → CxxOperand
operand_at types operand = record { of = type_at types operand.of.0; lvalue = operand.lvalue; constant = operand.constant }

abbrev pub sequence_at : List CxxType → StandardSequence → CxxStandard
sequence_at types sequence = record { from = operand_at types sequence.from; to = type_at types sequence.to.0; first = sequence.first; second = sequence.second; third = sequence.third; binding = sequence.binding }

-- a sequence, where there is one
abbrev pub found_at : List CxxType → Option StandardSequence → Option CxxStandard
found_at types found = option_map (sequence_at types) found

-- the numbers of its two types are below a count
pub record IsSequenceBelow (count : ℕ) (sequence : StandardSequence) : Type 0 where
  pub from : sequence.from.of.0 < count
  pub to : sequence.to.0 < count

abbrev pub way_at : Way → CxxWay
way_at (way.Pointers one two) = between_pointers one.0 two.0
way_at (way.ToVoid one) = to_void one.0
way_at (way.Classes one two) = between_classes one.0 two.0
way_at way.Neither = no_way

-- each class that is named is there
abbrev pub IsWayInRange : Graph → CxxWay → Type 0
IsWayInRange graph (between_pointers m n) = (m < length graph.classes) × (n < length graph.classes)
IsWayInRange graph (to_void m) = m < length graph.classes
IsWayInRange graph (between_classes m n) = (m < length graph.classes) × (n < length graph.classes)
IsWayInRange graph no_way = Unit {0}

-- what is answered, unless memory ran out
abbrev pub Computes : {A : Type 0} → Result A OutOfMemory → A → Type 0
Computes (Ok x) answer = x ≡ answer
Computes (Err fault) answer = Unit {0}
