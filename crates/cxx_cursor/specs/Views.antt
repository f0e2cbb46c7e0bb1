-- What the values of the code stand for, given the types and trees of a state.
use Rattle.std.specs.Prelude.{ℕ, ℤ, pos, negsuc, ◌<◌, ◌^◌, length, List, [], ◌∷◌, Option, Some, None}
use Rattle.cxx_model.specs.declared.types.TreeId.{TreeId}
use Rattle.cxx_model.specs.declared.types.TypeId.{TypeId}
use Rattle.cxx_model.specs.Facts.Declarations.{type_of_option}
use Rattle.cxx_model.specs.Facts.Fitted.{IsTypeNumberBelow}
use Rattle.cxx_model.specs.Text.Lexemes.{Lexeme}
use Rattle.cxx_model.specs.Types.Trees.{CxxType}
use Rattle.cxx_model.specs.Types.Numbers.{type_at, AreTypesBelow}
use Rattle.cxx_reading.specs.Declarators as definition
use Rattle.cxx_reading.specs.Declarators.{pointer_layer, reference_layer, array_layer, function_layer, adjusted_types}
use Rattle.cxx_reading.specs.Trees.{CxxTree}
use Rattle.cxx_reading.specs.Reads as reads
use Rattle.cxx_reading.specs.Reads.{More, Done}
use Rattle.cxx_cursor.specs.declared.cursor.Spelled.{Spelled}
use Rattle.cxx_cursor.specs.declared.declarator.Declarator.{Declarator}
use Rattle.cxx_cursor.specs.declared.declarator.Layer.{Layer}
use Rattle.cxx_cursor.specs.declared.declarator.Layer.TheVariants as layer
use Rattle.cxx_cursor.specs.declared.declarator.ParameterTypes.{ParameterTypes}
use Rattle.cxx_cursor.specs.declared.name.NameToken.{NameToken}
use Rattle.cxx_cursor.specs.declared.specifiers.Specifiers.{Specifiers}
use Rattle.cxx_cursor.specs.declared.turn.Turn.{Turn}
use Rattle.cxx_cursor.specs.declared.turn.Turn.TheVariants as turn
use Rattle.cxx_tree.specs.Arena.{AreTreesBelow, bound_of, trees_in}
use Rattle.cxx_tree.specs.Held.{Held, trees}

abbrev pub lexeme_at : Spelled → Lexeme
lexeme_at token = record { kind = token.kind; place = token.place; spelling = token.spelling.now }

abbrev pub name_at : NameToken → Lexeme
name_at token = record { kind = token.kind; place = token.place; spelling = token.spelling }

abbrev pub name_of_option : Option NameToken → Option Lexeme
name_of_option None = None
name_of_option (Some token) = Some (name_at token)

-- ---- loops

abbrev pub turn_at : {X Y A B : Type 0} → (X → A) → (Y → B) → Turn X Y → reads.Turn A B
turn_at more done (turn.More x) = More (more x)
turn_at more done (turn.Done y) = Done (done y)

-- what is known of either
abbrev pub IsTurn : {X Y : Type 0} → (X → Type 0) → (Y → Type 0) → Turn X Y → Type 0
IsTurn more done (turn.More x) = more x
IsTurn more done (turn.Done y) = done y

-- ---- specifiers

abbrev pub specifiers_of : Held → Specifiers → definition.Specifiers
specifiers_of held s = record { storage = s.storage; is_inline = s.is_inline; cv = s.cv; words = s.words; named = type_of_option held.types s.named; stands_alone = s.stands_alone; parts = trees_in (trees held) s.parts }

pub record AreSpecifiers (held : Held) (s : Specifiers) : Type 0 where
  pub named : IsTypeNumberBelow (length held.types) s.named
  pub parts : AreTreesBelow (length (trees held)) s.parts

abbrev pub specifiers_turn : Held → Turn Specifiers Specifiers → reads.Turn definition.Specifiers definition.Specifiers
specifiers_turn held = turn_at (specifiers_of held) (specifiers_of held)

abbrev pub IsSpecifiersTurn : Held → Turn Specifiers Specifiers → Type 0
IsSpecifiersTurn held = IsTurn (AreSpecifiers held) (AreSpecifiers held)

-- ---- declarators

abbrev pub types_in : List CxxType → List TypeId → List CxxType
types_in types [] = []
types_in types (n ∷ others) = type_at types n.0 ∷ types_in types others

abbrev pub layer_in : List CxxType → Layer → definition.Layer
layer_in types (layer.Pointer cv) = pointer_layer cv
layer_in types layer.Reference = reference_layer
layer_in types (layer.Array bound) = array_layer (bound_of bound)
layer_in types (layer.Function parameters ellipsis scope) = function_layer (adjusted_types (types_in types parameters)) ellipsis scope.0

abbrev pub layers_in : List CxxType → List Layer → List definition.Layer
layers_in types [] = []
layers_in types (one ∷ others) = layer_in types one ∷ layers_in types others

abbrev pub IsLayerBelow : ℕ → Layer → Type 0
IsLayerBelow count (layer.Function parameters ellipsis scope) = AreTypesBelow count parameters
IsLayerBelow count _ = Unit {0}

abbrev pub AreLayersBelow : ℕ → List Layer → Type 0
AreLayersBelow count [] = Unit {0}
AreLayersBelow count (one ∷ others) = IsLayerBelow count one × AreLayersBelow count others

abbrev pub declarator_of : Held → Declarator → definition.Declarator
declarator_of held d = record { name = name_of_option d.name; is_qualified = d.is_qualified; layers = layers_in held.types d.layers; cv = d.cv; parts = trees_in (trees held) d.parts }

pub record IsDeclarator (held : Held) (d : Declarator) : Type 0 where
  pub layers : AreLayersBelow (length held.types) d.layers
  pub parts : AreTreesBelow (length (trees held)) d.parts

abbrev pub parameters_of : Held → ParameterTypes → definition.ParameterTypes
parameters_of held p = record { types = types_in held.types p.types; ellipsis = p.ellipsis; scope = p.scope.0; parts = trees_in (trees held) p.parts }

pub record AreParameters (held : Held) (p : ParameterTypes) : Type 0 where
  pub types : AreTypesBelow (length held.types) p.types
  pub parts : AreTreesBelow (length (trees held)) p.parts

-- ---- values

-- no constant passes the largest `unsigned long`
abbrev pub IsConstant : ℤ → Type 0
IsConstant (pos n) = n < 2 ^ 64
IsConstant (negsuc n) = Unit {0}

abbrev pub IsConstantOption : Option ℤ → Type 0
IsConstantOption None = Unit {0}
IsConstantOption (Some value) = IsConstant value

-- the value of a bound, where one is written, and its tree
abbrev pub value_of : Held → Option ℤ × List TreeId → Option ℤ × List CxxTree
value_of held both = (both.0, trees_in (trees held) both.1)

pub record IsValue (held : Held) (both : Option ℤ × List TreeId) : Type 0 where
  pub small : IsConstantOption both.0
  pub parts : AreTreesBelow (length (trees held)) both.1

abbrev pub trees_held : Held → List TreeId → List CxxTree
trees_held held numbers = trees_in (trees held) numbers

abbrev pub AreTreesHeld : Held → List TreeId → Type 0
AreTreesHeld held numbers = AreTreesBelow (length (trees held)) numbers

abbrev pub trees_turn : Held → Turn (List TreeId) (List TreeId) → reads.Turn (List CxxTree) (List CxxTree)
trees_turn held = turn_at (trees_held held) (trees_held held)

abbrev pub IsTreesTurn : Held → Turn (List TreeId) (List TreeId) → Type 0
IsTreesTurn held = IsTurn (AreTreesHeld held) (AreTreesHeld held)
