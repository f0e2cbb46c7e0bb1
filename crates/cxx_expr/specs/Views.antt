-- What the values of the code stand for, given the types and the facts of a state.
use Rattle.std.specs.Prelude.{ℕ, ◌<◌, Bool, List, [], ◌∷◌, length, Option, Some, None}
use Rattle.std.specs.List.{slice_get}
use Rattle.cxx_model.specs.declared.place.Place.{Place}
use Rattle.cxx_model.specs.declared.sequence.Operand.{Operand}
use Rattle.cxx_model.specs.declared.types.ClassId.{ClassId}
use Rattle.cxx_model.specs.declared.types.FactId.{FactId}
use Rattle.cxx_model.specs.declared.types.TypeId.{TypeId}
use Rattle.cxx_model.specs.Facts.Declarations.{CxxFact, CxxGraph}
use Rattle.cxx_model.specs.Types.Numbers.{AreTypesBelow, type_at}
use Rattle.cxx_model.specs.Types.Trees.{CxxType}
use Rattle.cxx_meaning.specs.Conversions.Standard.{CxxOperand}
use Rattle.cxx_reading.specs.Seen.{Numbered}
use Rattle.cxx_standard.specs.Views.{operand_at}
use Rattle.cxx_tree.specs.Held.{Held, meaning}
use Rattle.cxx_expr.specs.declared.questions.Chosen.{Chosen}
use Rattle.cxx_expr.specs.Calls.{bare_word}
use Rattle.cxx_expr.specs.Questions.{CxxChosen, CxxQuestion}

-- ---- declarations

abbrev pub with_fact : ℕ → Option CxxFact → List Numbered → List Numbered
with_fact number None others = others
with_fact number (Some fact) others = record { number = number; fact = fact } ∷ others

-- the declarations that have some numbers
abbrev pub numbered_in : CxxGraph → List FactId → List Numbered
numbered_in graph [] = []
numbered_in graph (n ∷ numbers) = with_fact n.0 (slice_get graph.facts n.0) (numbered_in graph numbers)

abbrev pub numbered : Held → List FactId → List Numbered
numbered held numbers = numbered_in (meaning held).graph numbers

-- each number is that of a declaration
abbrev pub AreFactsBelow : ℕ → List FactId → Type 0
AreFactsBelow count [] = Unit {0}
AreFactsBelow count (n ∷ numbers) = (n.0 < count) × AreFactsBelow count numbers

abbrev pub AreFactsKnown : Held → List FactId → Type 0
AreFactsKnown held numbers = AreFactsBelow (length held.graph.facts) numbers

-- ---- classes

abbrev pub class_of_number : Held → ClassId → ℕ
class_of_number held class = class.0

abbrev pub class_of_option : Option ClassId → Option ℕ
class_of_option None = None
class_of_option (Some class) = Some class.0

abbrev pub IsClassKnown : Held → ClassId → Type 0
IsClassKnown held class = class.0 < length held.graph.classes

-- ---- lists of types and operands

abbrev pub types_in : List CxxType → List TypeId → List CxxType
types_in types [] = []
types_in types (n ∷ others) = type_at types n.0 ∷ types_in types others

abbrev pub operands_in : List CxxType → List Operand → List CxxOperand
operands_in types [] = []
operands_in types (operand ∷ others) = operand_at types operand ∷ operands_in types others

abbrev pub AreOperandsBelow : ℕ → List Operand → Type 0
AreOperandsBelow count [] = Unit {0}
AreOperandsBelow count (operand ∷ others) = (operand.of.0 < count) × AreOperandsBelow count others

-- ---- questions

abbrev pub question_of : Held → Place → Bool → List ℕ → List FactId → List Operand → CxxQuestion
question_of held place is_bare word functions operands = record { place = place; word = bare_word is_bare word; functions = numbered held functions; object = None; operands = operands_in held.types operands }

-- of a call of a member of an object
abbrev pub member_question_of : Held → Place → Operand → List FactId → List Operand → CxxQuestion
member_question_of held place object functions operands = record { place = place; word = None; functions = numbered held functions; object = Some (operand_at held.types object); operands = operands_in held.types operands }

abbrev pub chosen_of : Held → Chosen → CxxChosen
chosen_of held chosen = record { target = chosen.target.0; parameters = types_in held.types chosen.parameters; result = type_at held.types chosen.result.0; ellipsis = chosen.ellipsis; number = chosen.number }

-- the types of the function are there
pub record IsChosen (held : Held) (chosen : Chosen) : Type 0 where
  pub parameters : AreTypesBelow (length held.types) chosen.parameters
  pub result : chosen.result.0 < length held.types
