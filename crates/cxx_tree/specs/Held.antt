-- What the state of a reading holds, with the numbers by which its tables name types and trees; and what that means.
use Rattle.std.specs.Prelude.{ℕ, ◌<◌, Bool, List, [], ◌∷◌, length, Option, Some, None}
use Rattle.cxx_model.specs.declared.sequence.Operand.{Operand}
use Rattle.cxx_model.specs.declared.sequence.StandardSequence.{StandardSequence}
use Rattle.cxx_model.specs.declared.tree.Node.{Node}
use Rattle.cxx_model.specs.declared.types.EnumId.{EnumId}
use Rattle.cxx_model.specs.declared.types.FactId.{FactId}
use Rattle.cxx_model.specs.declared.types.ScopeId.{ScopeId}
use Rattle.cxx_model.specs.declared.types.TypeId.{TypeId}
use Rattle.cxx_model.specs.declared.types.TreeId.{TreeId}
use Rattle.cxx_model.specs.Facts.Declarations.{graph_at, type_of_option}
use Rattle.cxx_model.specs.Facts.Fitted.{Fitted, IsTypeNumberBelow}
use Rattle.cxx_model.specs.Facts.Graph.{Graph, scopes}
use Rattle.cxx_model.specs.Facts.Here.{CxxHere}
use Rattle.cxx_model.specs.Types.Trees.{CxxType}
use Rattle.cxx_model.specs.Types.Numbers.{AreTypesBelow, type_at}
use Rattle.cxx_meaning.specs.Conversions.Standard.{CxxOperand, CxxStandard}
use Rattle.cxx_standard.specs.Views.{IsSequenceBelow, operand_at, sequence_at}
use Rattle.cxx_reading.specs.State.{CxxCall, CxxGiven, CxxOffered, CxxRow, CxxPart, CxxState, CxxUse, at_unit}
use Rattle.cxx_reading.specs.Trees.{CxxTree}
use Rattle.cxx_tree.specs.declared.kept.Binding.{Binding}
use Rattle.cxx_tree.specs.declared.kept.Contending.{Contending}
use Rattle.cxx_tree.specs.declared.kept.Decided.{Decided}
use Rattle.cxx_tree.specs.declared.kept.Fallback.{Fallback}
use Rattle.cxx_tree.specs.declared.kept.Offer.{Offer}
use Rattle.cxx_tree.specs.declared.kept.Piece.{Piece}
use Rattle.cxx_tree.specs.Arena.{AreNodesBelow, HaveEarlierChildren, tree_in, trees_of}

pub record Held : Type 0 where
  pub graph : Graph
  pub types : List CxxType
  pub nodes : List Node
  pub scope : ScopeId
  pub enumeration : Option EnumId
  pub defined : List FactId
  pub linked : List FactId
  pub fallbacks : List Fallback
  pub offers : List Offer
  pub in_default : Bool
  pub result : Option TypeId
  pub tested : Option FactId
  pub in_step : Bool
  pub calls : List Decided
  pub pieces : List Piece
  pub uses : List Binding
  pub tells : Bool
  pub asks : Bool

-- ---- what it means

abbrev pub numbers_at : List FactId → List ℕ
numbers_at [] = []
numbers_at (n ∷ others) = n.0 ∷ numbers_at others

abbrev pub fallback_at : List CxxTree → Fallback → CxxGiven
fallback_at trees fallback = record { declaration = fallback.declaration.0; index = fallback.index; tree = tree_in trees fallback.tree.0 }

abbrev pub fallbacks_at : List CxxTree → List Fallback → List CxxGiven
fallbacks_at trees [] = []
fallbacks_at trees (fallback ∷ others) = fallback_at trees fallback ∷ fallbacks_at trees others

abbrev pub offer_at : List CxxTree → Offer → CxxOffered
offer_at trees offer = record { scope = offer.scope.0; index = offer.index; tree = tree_in trees offer.tree.0 }

abbrev pub offers_at : List CxxTree → List Offer → List CxxOffered
offers_at trees [] = []
offers_at trees (offer ∷ others) = offer_at trees offer ∷ offers_at trees others

abbrev pub operands_at : List CxxType → List Operand → List CxxOperand
operands_at types [] = []
operands_at types (operand ∷ others) = operand_at types operand ∷ operands_at types others

abbrev pub parameters_at : List CxxType → List TypeId → List CxxType
parameters_at types [] = []
parameters_at types (of ∷ others) = type_at types of.0 ∷ parameters_at types others

abbrev pub sequences_at : List CxxType → List StandardSequence → List CxxStandard
sequences_at types [] = []
sequences_at types (sequence ∷ others) = sequence_at types sequence ∷ sequences_at types others

abbrev pub row_at : List CxxType → Contending → CxxRow
row_at types row = record { position = row.position; parameters = parameters_at types row.parameters; sequences = sequences_at types row.sequences }

abbrev pub rows_at : List CxxType → List Contending → List CxxRow
rows_at types [] = []
rows_at types (row ∷ others) = row_at types row ∷ rows_at types others

abbrev pub call_at : List CxxType → Decided → CxxCall
call_at types call = record { place = call.place; operands = operands_at types call.operands; candidates = numbers_at call.candidates; outcomes = call.outcomes; rows = rows_at types call.rows; chosen = call.chosen }

abbrev pub calls_at : List CxxType → List Decided → List CxxCall
calls_at types [] = []
calls_at types (call ∷ others) = call_at types call ∷ calls_at types others

abbrev pub use_at : Binding → CxxUse
use_at binding = record { scope = binding.scope.0; place = binding.place; target = binding.target.0 }

abbrev pub uses_at : List Binding → List CxxUse
uses_at [] = []
uses_at (binding ∷ others) = use_at binding ∷ uses_at others

abbrev pub piece_at : List CxxTree → Piece → CxxPart
piece_at trees piece = record { tree = tree_in trees piece.tree.0; scope = piece.scope.0; uses = uses_at piece.uses }

abbrev pub pieces_at : List CxxTree → List Piece → List CxxPart
pieces_at trees [] = []
pieces_at trees (piece ∷ others) = piece_at trees piece ∷ pieces_at trees others

abbrev pub enumeration_of_option : Option EnumId → Option ℕ
enumeration_of_option None = None
enumeration_of_option (Some number) = Some number.0

abbrev pub trees : Held → List CxxTree
trees held = trees_of held.types held.nodes

abbrev pub fact_of_option : Option FactId → Option ℕ
fact_of_option None = None
fact_of_option (Some number) = Some number.0

abbrev pub here_in : List CxxType → ScopeId → Option EnumId → Option TypeId → CxxHere
here_in types scope enumeration result = record at_unit { scope = scope.0; enumeration = enumeration_of_option enumeration; result = type_of_option types result }

abbrev pub state_over : List CxxType → List CxxTree → Held → CxxState
state_over types all held = record {
  graph = graph_at types held.graph;
  here = here_in types held.scope held.enumeration held.result;
  defined = numbers_at held.defined;
  linked = numbers_at held.linked;
  given = fallbacks_at all held.fallbacks;
  offered = offers_at all held.offers;
  in_default = held.in_default;
  tested = fact_of_option held.tested;
  in_step = held.in_step;
  calls = calls_at types held.calls;
  parts = pieces_at all held.pieces;
  uses = uses_at held.uses;
}

unfoldable pub meaning : Held → CxxState
meaning held = state_over held.types (trees held) held

-- the type with a number
abbrev pub type_of : Held → TypeId → CxxType
type_of held number = type_at held.types number.0

-- the tree with a number
abbrev pub tree : Held → TreeId → CxxTree
tree held number = tree_in (trees held) number.0

-- ---- what holds of it

abbrev pub ArePiecesBelow : ℕ → List Piece → Type 0
ArePiecesBelow count [] = Unit {0}
ArePiecesBelow count (piece ∷ others) = (piece.tree.0 < count) × ArePiecesBelow count others

abbrev pub AreFallbacksBelow : ℕ → List Fallback → Type 0
AreFallbacksBelow count [] = Unit {0}
AreFallbacksBelow count (fallback ∷ others) = (fallback.tree.0 < count) × AreFallbacksBelow count others

abbrev pub AreOffersBelow : ℕ → List Offer → Type 0
AreOffersBelow count [] = Unit {0}
AreOffersBelow count (offer ∷ others) = (offer.tree.0 < count) × AreOffersBelow count others

abbrev pub AreOperandsBelow : ℕ → List Operand → Type 0
AreOperandsBelow count [] = Unit {0}
AreOperandsBelow count (operand ∷ others) = (operand.of.0 < count) × AreOperandsBelow count others

abbrev pub AreSequencesBelow : ℕ → List StandardSequence → Type 0
AreSequencesBelow count [] = Unit {0}
AreSequencesBelow count (sequence ∷ others) = IsSequenceBelow count sequence × AreSequencesBelow count others

abbrev pub AreRowsBelow : ℕ → List Contending → Type 0
AreRowsBelow count [] = Unit {0}
AreRowsBelow count (row ∷ others) = (AreTypesBelow count row.parameters × AreSequencesBelow count row.sequences) × AreRowsBelow count others

-- the types that calls keep are there
abbrev pub AreCallsBelow : ℕ → List Decided → Type 0
AreCallsBelow count [] = Unit {0}
AreCallsBelow count (call ∷ others) = (AreOperandsBelow count call.operands × AreRowsBelow count call.rows) × AreCallsBelow count others

-- Each number in it is that of something which is there.
pub record IsSound (held : Held) : Type 0 where
  pub fitted : Fitted held.graph held.types
  pub nodes : AreNodesBelow (length held.types) held.nodes
  pub children : HaveEarlierChildren 0 held.nodes
  pub fallbacks : AreFallbacksBelow (length held.nodes) held.fallbacks
  pub offers : AreOffersBelow (length held.nodes) held.offers
  pub pieces : ArePiecesBelow (length held.nodes) held.pieces
  pub calls : AreCallsBelow (length held.types) held.calls
  pub scope : held.scope.0 < scopes held.graph.facts
  pub result : IsTypeNumberBelow (length held.types) held.result
