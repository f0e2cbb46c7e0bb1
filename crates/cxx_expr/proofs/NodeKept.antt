-- The node that is elaborated stays what it is while the state grows.
use Rattle.std.specs.Prelude.{◌≡◌, ◌<◌, ◌≤◌, List, [], ◌∷◌, length, Option, Some, None, refl}
use Rattle.std.proofs.Common.{ap, ◌∙◌, arith}
use Rattle.cxx_model.specs.declared.sequence.Operand.{Operand}
use Rattle.cxx_model.specs.declared.tree.Node.{Node}
use Rattle.cxx_model.specs.declared.types.TreeId.{TreeId}
use Rattle.cxx_model.specs.declared.types.TypeId.{TypeId}
use Rattle.cxx_model.specs.Facts.Declarations.{type_of_option}
use Rattle.cxx_model.specs.Facts.Fitted.{IsTypeNumberBelow}
use Rattle.cxx_model.specs.Types.Trees.{CxxType}
use Rattle.cxx_model.specs.Types.Numbers.{type_at, Keeps}
use Rattle.cxx_meaning.specs.Conversions.Standard.{CxxOperand}
use Rattle.cxx_reading.specs.Trees.{CxxTree, Label, children_of, each_tree, in_turn, tree_of}
use Rattle.cxx_tree.specs.Arena.{AreTreesBelow, IsNodeBelow, IsOperandBelow, label_at, operand_of_option, path_of_option, number_of_option}
use Rattle.cxx_tree.specs.Held.{Held, trees}
use Rattle.cxx_tree.specs.Later.{Later}
use Rattle.cxx_tree.proofs.Arenas as arena
use Rattle.cxx_builtin.specs.Built.{list_at}
use Rattle.cxx_expr.specs.Views.{types_in}
use Rattle.cxx_expr.specs.Making.{AreTreesHeld, trees_held}
use Rattle.cxx_expr.specs.Nodes.{IsNodeHeld, node_tree}
use Rattle.cxx_expr.specs.Operands.{all_three, both, only}
use Rattle.cxx_expr.proofs.Kept.{trees_kept, trees_later}

pub each_in_turn : (all : List CxxTree) → each_tree (in_turn all) ≡ all
each_in_turn [] = refl
each_in_turn (tree ∷ others) = ap (λ ts. tree ∷ ts) (each_in_turn others)

pub children_are : (held : Held) (node : Node) → children_of (node_tree held node) ≡ trees_held held node.children
children_are held node = each_in_turn (trees_held held node.children)

types_kept : (old new : List CxxType) (n : Option TypeId) → Keeps old new → IsTypeNumberBelow (length old) n → type_of_option new n ≡ type_of_option old n
types_kept old new None keeps ok = refl
types_kept old new (Some n) keeps ok = (let make : CxxType → Option CxxType = λ t. Some t in ap make (keeps.same n.0 ok))

operands_kept : (old new : List CxxType) (o : Option Operand) → Keeps old new → IsOperandBelow (length old) o → operand_of_option new o ≡ operand_of_option old o
operands_kept old new None keeps ok = refl
operands_kept old new (Some o) keeps ok = (let make : CxxType → Option CxxOperand = λ t. Some (record { of = t; lvalue = o.lvalue; constant = o.constant }) in ap make (keeps.same o.of.0 ok))

label_with : Node → Option CxxOperand → Option CxxType → Label
label_with node operand of = record {
  production = node.production;
  spelling = node.spelling;
  first = node.first;
  last = node.last;
  start = node.start;
  place = node.place;
  path = path_of_option node.path;
  operand = operand;
  of = of;
  target = number_of_option node.target;
  call = node.call;
}

pub label_kept : (old new : Held) (node : Node) → Later old new → IsNodeBelow (length old.types) node → label_at new.types node ≡ label_at old.types node
unfolding label_with
label_kept old new node later ok =
    ap (λ o. label_with node o (type_of_option new.types node.of)) (operands_kept old.types new.types node.operand later.types ok.operand)
    ∙ ap (λ t. label_with node (operand_of_option old.types node.operand) t) (types_kept old.types new.types node.of later.types ok.of)

pub node_kept : (old new : Held) (node : Node) → Later old new → IsNodeHeld old node → node_tree new node ≡ node_tree old node
node_kept old new node later ok =
    ap (λ l. tree_of l (trees_held new node.children)) (label_kept old new node later ok.below)
    ∙ ap (λ ts. tree_of (label_at old.types node) ts) (trees_kept old new node.children later ok.children)

number_later : (old new : Held) (n : Option TypeId) → Later old new → IsTypeNumberBelow (length old.types) n → IsTypeNumberBelow (length new.types) n
number_later old new None later ok = tt
number_later old new (Some n) later ok = (let more : length old.types ≤ length new.types = later.types.grows in omega (arith, ok))

operand_later : (old new : Held) (o : Option Operand) → Later old new → IsOperandBelow (length old.types) o → IsOperandBelow (length new.types) o
operand_later old new None later ok = tt
operand_later old new (Some o) later ok = (let more : length old.types ≤ length new.types = later.types.grows in omega (arith, ok))

pub node_later : (old new : Held) (node : Node) → Later old new → IsNodeHeld old node → IsNodeHeld new node
node_later old new node later ok = record {
  below = record { operand = operand_later old new node.operand later ok.below.operand; of = number_later old new node.of later ok.below.of };
  children = trees_later old new node.children later ok.children;
}

-- the types that a meaning names
pub listed_is : (types : List CxxType) (numbers : List TypeId) → list_at types numbers ≡ types_in types numbers
listed_is types [] = refl
listed_is types (n ∷ numbers) = ap (λ ts. type_at types n.0 ∷ ts) (listed_is types numbers)

-- ---- other counts of parts

pub only_long : (held : Held) (numbers : List TreeId) → 1 < length numbers → None ≡ only (trees_held held numbers)
only_long held [] long = absurd (omega (arith, long))
only_long held (a ∷ []) long = absurd (omega (arith, long))
only_long held (a ∷ b ∷ numbers) long = refl

pub both_short : (held : Held) (numbers : List TreeId) → length numbers < 2 → None ≡ both (trees_held held numbers)
both_short held [] short = refl
both_short held (a ∷ []) short = refl
both_short held (a ∷ b ∷ numbers) short = absurd (omega (arith, short))

pub both_long : (held : Held) (numbers : List TreeId) → 2 < length numbers → None ≡ both (trees_held held numbers)
both_long held [] long = absurd (omega (arith, long))
both_long held (a ∷ []) long = absurd (omega (arith, long))
both_long held (a ∷ b ∷ []) long = absurd (omega (arith, long))
both_long held (a ∷ b ∷ c ∷ numbers) long = refl

pub three_short : (held : Held) (numbers : List TreeId) → length numbers < 3 → None ≡ all_three (trees_held held numbers)
three_short held [] short = refl
three_short held (a ∷ []) short = refl
three_short held (a ∷ b ∷ []) short = refl
three_short held (a ∷ b ∷ c ∷ numbers) short = absurd (omega (arith, short))

pub three_long : (held : Held) (numbers : List TreeId) → 3 < length numbers → None ≡ all_three (trees_held held numbers)
three_long held [] long = absurd (omega (arith, long))
three_long held (a ∷ []) long = absurd (omega (arith, long))
three_long held (a ∷ b ∷ []) long = absurd (omega (arith, long))
three_long held (a ∷ b ∷ c ∷ []) long = absurd (omega (arith, long))
three_long held (a ∷ b ∷ c ∷ d ∷ numbers) long = refl

-- ---- the node of a tree

pub parts_held : (held : Held) (number : TreeId) (numbers : List TreeId) → number.0 < length (trees held) → AreTreesBelow number.0 numbers → AreTreesHeld held numbers
parts_held held number numbers there below =
    let few : number.0 ≤ length (trees held) = omega (arith, there) in
    arena.below_later number.0 (length (trees held)) numbers few below

pub node_held : (held : Held) (number : TreeId) (node : Node) → number.0 < length (trees held) → IsNodeBelow (length held.types) node → AreTreesBelow number.0 node.children → IsNodeHeld held node
node_held held number node there below children = record { below = below; children = parts_held held number node.children there children }
