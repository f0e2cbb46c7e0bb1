-- What values stand for stays the same while the state grows.
use Rattle.std.specs.Prelude.{ℕ, ◌≡◌, ◌<◌, ◌≤◌, List, [], ◌∷◌, ◌++◌, length, Option, Some, None, refl}
use Rattle.std.proofs.Common.{ap, arith}
use Rattle.cxx_model.specs.declared.types.TreeId.{TreeId}
use Rattle.cxx_model.specs.declared.types.TypeId.{TypeId}
use Rattle.cxx_model.specs.Facts.Declarations.{type_of_option}
use Rattle.cxx_model.specs.Facts.Fitted.{IsTypeNumberBelow}
use Rattle.cxx_model.specs.Types.Trees.{CxxType}
use Rattle.cxx_model.specs.Types.Numbers.{type_at, AreTypesBelow}
use Rattle.cxx_reading.specs.Declarators as definition
use Rattle.cxx_reading.specs.Declarators.{function_layer, adjusted_types}
use Rattle.cxx_reading.specs.Trees.{CxxTree}
use Rattle.cxx_cursor.specs.declared.declarator.Layer.{Layer}
use Rattle.cxx_cursor.specs.declared.declarator.Layer.TheVariants as layer
use Rattle.cxx_cursor.specs.Views.{AreLayersBelow, IsLayerBelow, layer_in, layers_in, types_in}
use Rattle.cxx_tree.specs.Arena.{AreTreesBelow, trees_in}
use Rattle.cxx_tree.specs.Held.{Held, trees}
use Rattle.cxx_tree.specs.Later.{Later}
use Rattle.cxx_tree.proofs.Arenas as arena
use Rattle.cxx_tree.proofs.Steps as steps

pub later_refl : (held : Held) → Later held held
later_refl held = steps.Later_refl held

pub later_trans : (one two three : Held) → Later one two → Later two three → Later one three
later_trans one two three p q = steps.Later_trans one two three p q

-- ---- trees

pub trees_kept : (old new : Held) (numbers : List TreeId) → Later old new → AreTreesBelow (length (trees old)) numbers → trees_in (trees new) numbers ≡ trees_in (trees old) numbers
trees_kept old new numbers later ok = arena.trees_kept (trees old) (trees new) numbers later.trees ok

pub trees_later : (old new : Held) (numbers : List TreeId) → Later old new → AreTreesBelow (length (trees old)) numbers → AreTreesBelow (length (trees new)) numbers
trees_later old new numbers later ok = arena.below_later (length (trees old)) (length (trees new)) numbers later.trees.grows ok

pub trees_append : (all : List CxxTree) (one two : List TreeId) → trees_in all (one ++ two) ≡ trees_in all one ++ trees_in all two
trees_append all one two = arena.trees_append all one two

pub trees_below_append : (count : ℕ) (one two : List TreeId) → AreTreesBelow count one → AreTreesBelow count two → AreTreesBelow count (one ++ two)
trees_below_append count one two first second = arena.below_append count one two first second

-- ---- types

pub named_kept : (old new : Held) (n : Option TypeId) → Later old new → IsTypeNumberBelow (length old.types) n → type_of_option new.types n ≡ type_of_option old.types n
named_kept old new None later ok = refl
named_kept old new (Some n) later ok = (let make : CxxType → Option CxxType = λ t. Some t in ap make (later.types.same n.0 ok))

pub named_later : (old new : Held) (n : Option TypeId) → Later old new → IsTypeNumberBelow (length old.types) n → IsTypeNumberBelow (length new.types) n
named_later old new None later ok = tt
named_later old new (Some n) later ok = (let more : length old.types ≤ length new.types = later.types.grows in omega arith)

pub type_kept : (old new : Held) (n : TypeId) → Later old new → n.0 < length old.types → type_at new.types n.0 ≡ type_at old.types n.0
type_kept old new n later ok = later.types.same n.0 ok

pub type_later : (old new : Held) (n : TypeId) → Later old new → n.0 < length old.types → n.0 < length new.types
type_later old new n later ok = (let more : length old.types ≤ length new.types = later.types.grows in omega arith)

pub types_kept : (old new : Held) (ns : List TypeId) → Later old new → AreTypesBelow (length old.types) ns → types_in new.types ns ≡ types_in old.types ns
types_kept old new [] later ok = refl
types_kept old new (n ∷ ns) later ok = (let one : type_at new.types n.0 ≡ type_at old.types n.0 = later.types.same n.0 ok.0 in let rest : types_in new.types ns ≡ types_in old.types ns = types_kept old new ns later ok.1 in cc)

pub types_later : (old new : Held) (ns : List TypeId) → Later old new → AreTypesBelow (length old.types) ns → AreTypesBelow (length new.types) ns
types_later old new [] later ok = tt
types_later old new (n ∷ ns) later ok = (type_later old new n later ok.0, types_later old new ns later ok.1)

pub types_append : (types : List CxxType) (one two : List TypeId) → types_in types (one ++ two) ≡ types_in types one ++ types_in types two
types_append types [] two = refl
types_append types (n ∷ ns) two = ap (λ ts. type_at types n.0 ∷ ts) (types_append types ns two)

pub types_below_append : (count : ℕ) (one two : List TypeId) → AreTypesBelow count one → AreTypesBelow count two → AreTypesBelow count (one ++ two)
types_below_append count [] two first second = second
types_below_append count (n ∷ ns) two first second = (first.0, types_below_append count ns two first.1 second)

-- ---- layers

pub layer_kept : (old new : Held) (one : Layer) → Later old new → IsLayerBelow (length old.types) one → layer_in new.types one ≡ layer_in old.types one
layer_kept old new (layer.Pointer cv) later ok = refl
layer_kept old new layer.Reference later ok = refl
layer_kept old new (layer.Array bound) later ok = refl
layer_kept old new (layer.Function parameters ellipsis scope) later ok =
    (let make : List CxxType → definition.Layer = λ ts. function_layer (adjusted_types ts) ellipsis scope.0 in ap make (types_kept old new parameters later ok))

pub layer_later : (old new : Held) (one : Layer) → Later old new → IsLayerBelow (length old.types) one → IsLayerBelow (length new.types) one
layer_later old new (layer.Pointer cv) later ok = tt
layer_later old new layer.Reference later ok = tt
layer_later old new (layer.Array bound) later ok = tt
layer_later old new (layer.Function parameters ellipsis scope) later ok = types_later old new parameters later ok

pub layers_kept : (old new : Held) (layers : List Layer) → Later old new → AreLayersBelow (length old.types) layers → layers_in new.types layers ≡ layers_in old.types layers
layers_kept old new [] later ok = refl
layers_kept old new (one ∷ others) later ok = (let first : layer_in new.types one ≡ layer_in old.types one = layer_kept old new one later ok.0 in let rest : layers_in new.types others ≡ layers_in old.types others = layers_kept old new others later ok.1 in cc)

pub layers_later : (old new : Held) (layers : List Layer) → Later old new → AreLayersBelow (length old.types) layers → AreLayersBelow (length new.types) layers
layers_later old new [] later ok = tt
layers_later old new (one ∷ others) later ok = (layer_later old new one later ok.0, layers_later old new others later ok.1)

pub layers_append : (types : List CxxType) (one two : List Layer) → layers_in types (one ++ two) ≡ layers_in types one ++ layers_in types two
layers_append types [] two = refl
layers_append types (x ∷ xs) two = ap (λ ls. layer_in types x ∷ ls) (layers_append types xs two)

pub layers_below_append : (count : ℕ) (one two : List Layer) → AreLayersBelow count one → AreLayersBelow count two → AreLayersBelow count (one ++ two)
layers_below_append count [] two first second = second
layers_below_append count (x ∷ xs) two first second = (first.0, layers_below_append count xs two first.1 second)
