-- What the values of the code stand for, given the types and the facts of a state.
use Rattle.std.specs.Prelude.{ℕ, ◌<◌, List, length, Option, Some, None}
use Rattle.cxx_model.specs.declared.facts.Entity.{Entity}
use Rattle.cxx_model.specs.declared.facts.Entity.TheVariants as entity
use Rattle.cxx_model.specs.declared.facts.Name.{Name}
use Rattle.cxx_model.specs.declared.place.Place.{Place}
use Rattle.cxx_model.specs.declared.sequence.Operand.{Operand}
use Rattle.cxx_model.specs.declared.types.FactId.{FactId}
use Rattle.cxx_model.specs.Facts.Declarations.{name_at}
use Rattle.cxx_model.specs.Facts.Graph.{Graph, enumerations}
use Rattle.cxx_model.specs.Types.Numbers.{AreTypesBelow, type_at}
use Rattle.cxx_model.specs.Types.Trees.{CxxType}
use Rattle.cxx_names.specs.Named.{named_among}
use Rattle.cxx_standard.specs.Views.{operand_at}
use Rattle.cxx_tree.specs.Held.{Held}
use Rattle.cxx_expr.specs.Calls as calls
use Rattle.cxx_expr.specs.Names.{Means}
use Rattle.cxx_expr.specs.Operands.{object_operand}
use Rattle.cxx_expr.specs.Questions.{CxxQuestion}
use Rattle.cxx_expr.specs.Views.{numbered, operands_in, types_in}
use Rattle.cxx_called.specs.declared.names.Meant.{Meant}
use Rattle.cxx_called.specs.declared.signatures.Signature.{Signature}

-- ---- what a name means

abbrev pub means_of : Held → Meant → Means
means_of held meant = record { target = meant.target.0; operand = operand_at held.types meant.operand; is_enumerator = meant.is_enumerator }

-- the type of what it gives is there
abbrev pub IsMeant : Held → Meant → Type 0
IsMeant held meant = meant.operand.of.0 < length held.types

-- 7.2: the enumeration of an enumerator is there
abbrev pub IsOfThere : Graph → Entity → Type 0
IsOfThere graph (entity.Enumerator number value) = number.0 < enumerations graph.facts
IsOfThere graph _ = Unit {0}

-- those of some declarations that have a name
abbrev pub named_of : Held → Name → List FactId → List FactId
named_of held name numbers = named_among held.types held.graph.facts (name_at held.types name) numbers

-- ---- calls of members

-- the question of one, whose object has a type
abbrev pub asked_of : Held → Place → CxxType → List FactId → List Operand → CxxQuestion
asked_of held place of functions operands = record { place = place; word = None; functions = numbered held functions; object = Some (object_operand of); operands = operands_in held.types operands }

-- ---- types of functions

abbrev pub signature_at : List CxxType → Signature → calls.Signature
signature_at types signature = record { result = type_at types signature.result.0; parameters = types_in types signature.parameters; ellipsis = signature.ellipsis }

-- the types in it are there
pub record IsSignatureBelow (count : ℕ) (signature : Signature) : Type 0 where
  pub result : signature.result.0 < count
  pub parameters : AreTypesBelow count signature.parameters

abbrev pub found_signature : List CxxType → Option Signature → Option calls.Signature
found_signature types None = None
found_signature types (Some signature) = Some (signature_at types signature)

abbrev pub IsFoundBelow : ℕ → Option Signature → Type 0
IsFoundBelow count None = Unit {0}
IsFoundBelow count (Some signature) = IsSignatureBelow count signature
