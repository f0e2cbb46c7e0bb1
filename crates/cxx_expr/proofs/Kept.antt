-- What values stand for stays the same while the state grows.
use Rattle.std.specs.Prelude.{ℕ, zero, suc, ◌≡◌, ◌<◌, ◌≤◌, List, [], ◌∷◌, ◌++◌, length, refl}
use Rattle.std.proofs.Common.{ap, sym, subst, arith, get_or}
use Rattle.cxx_model.specs.declared.sequence.Operand.{Operand}
use Rattle.cxx_model.specs.declared.types.TreeId.{TreeId}
use Rattle.cxx_model.specs.declared.types.TypeId.{TypeId}
use Rattle.cxx_model.specs.Types.Trees.{CxxType}
use Rattle.cxx_model.specs.Types.Numbers.{type_at, AreTypesBelow}
use Rattle.cxx_meaning.specs.Conversions.Standard.{CxxOperand}
use Rattle.cxx_standard.specs.Views.{operand_at}
use Rattle.cxx_tree.specs.Arena.{AreTreesBelow, tree_in}
use Rattle.cxx_tree.specs.Held.{Held, trees}
use Rattle.cxx_tree.specs.Later.{Later}
use Rattle.cxx_tree.proofs.Arenas as arena
use Rattle.cxx_tree.proofs.Steps as steps
use Rattle.cxx_expr.specs.Making.{AreTreesHeld, trees_held}
use Rattle.cxx_expr.specs.Views.{types_in}

pub later_refl : (held : Held) → Later held held
later_refl held = steps.Later_refl held

pub later_trans : (one two three : Held) → Later one two → Later two three → Later one three
later_trans one two three p q = steps.Later_trans one two three p q

-- ---- trees

pub tree_later : (old new : Held) (number : TreeId) → Later old new → number.0 < length (trees old) → number.0 < length (trees new)
tree_later old new number later ok = let more : length (trees old) ≤ length (trees new) = later.trees.grows in omega arith

pub tree_kept : (old new : Held) (number : TreeId) → Later old new → number.0 < length (trees old) → tree_in (trees new) number.0 ≡ tree_in (trees old) number.0
tree_kept old new number later ok = later.trees.same number.0 ok

pub trees_kept : (old new : Held) (numbers : List TreeId) → Later old new → AreTreesHeld old numbers → trees_held new numbers ≡ trees_held old numbers
trees_kept old new numbers later ok = arena.trees_kept (trees old) (trees new) numbers later.trees ok

pub trees_later : (old new : Held) (numbers : List TreeId) → Later old new → AreTreesHeld old numbers → AreTreesHeld new numbers
trees_later old new numbers later ok = arena.below_later (length (trees old)) (length (trees new)) numbers later.trees.grows ok

-- ---- types and operands

pub type_kept : (old new : Held) (n : TypeId) → Later old new → n.0 < length old.types → type_at new.types n.0 ≡ type_at old.types n.0
type_kept old new n later ok = later.types.same n.0 ok

pub type_later : (old new : Held) (n : TypeId) → Later old new → n.0 < length old.types → n.0 < length new.types
type_later old new n later ok = (let more : length old.types ≤ length new.types = later.types.grows in omega arith)

pub operand_kept : (old new : Held) (one : Operand) → Later old new → one.of.0 < length old.types → operand_at new.types one ≡ operand_at old.types one
operand_kept old new one later ok = (let make : CxxType → CxxOperand = λ t. record { of = t; lvalue = one.lvalue; constant = one.constant } in ap make (later.types.same one.of.0 ok))

pub types_kept : (old new : Held) (ns : List TypeId) → Later old new → AreTypesBelow (length old.types) ns → types_in new.types ns ≡ types_in old.types ns
types_kept old new [] later ok = refl
types_kept old new (n ∷ ns) later ok = (let one : type_at new.types n.0 ≡ type_at old.types n.0 = later.types.same n.0 ok.0 in let rest : types_in new.types ns ≡ types_in old.types ns = types_kept old new ns later ok.1 in cc)

pub types_later : (old new : Held) (ns : List TypeId) → Later old new → AreTypesBelow (length old.types) ns → AreTypesBelow (length new.types) ns
types_later old new [] later ok = tt
types_later old new (n ∷ ns) later ok = (type_later old new n later ok.0, types_later old new ns later ok.1)

-- ---- more trees

pub trees_more : (held : Held) (one two : List TreeId) → trees_held held (one ++ two) ≡ trees_held held one ++ trees_held held two
trees_more held one two = arena.trees_append (trees held) one two

pub trees_below_more : (held : Held) (one two : List TreeId) → AreTreesHeld held one → AreTreesHeld held two → AreTreesHeld held (one ++ two)
trees_below_more held one two first second = arena.below_append (length (trees held)) one two first second

pub operand_later : (old new : Held) (one : Operand) → Later old new → one.of.0 < length old.types → one.of.0 < length new.types
operand_later old new one later ok = type_later old new one.of later ok

-- ---- a number of a list

pub below_at : (count : ℕ) (numbers : List TreeId) (i : ℕ) (d : TreeId) → AreTreesBelow count numbers → i < length numbers → (get_or numbers i d).0 < count
below_at count [] i d ok within = absurd (omega (arith, within))
below_at count (n ∷ numbers) zero d ok within = ok.0
below_at count (n ∷ numbers) (suc i) d ok within = below_at count numbers i d ok.1 (omega (arith, within))

pub number_at : (count : ℕ) (numbers : List TreeId) (i : ℕ) (number d : TreeId) → AreTreesBelow count numbers → i < length numbers → number ≡ get_or numbers i d → number.0 < count
number_at count numbers i number d ok within is = subst (λ (n : TreeId). n.0 < count) (sym is) (below_at count numbers i d ok within)

-- a tree of some that were there before
pub there_at : (old new : Held) (numbers : List TreeId) (i : ℕ) (d : TreeId) → Later old new → AreTreesHeld old numbers → i < length numbers → (get_or numbers i d).0 < length (trees new)
there_at old new numbers i d later ok within = (let more : length (trees old) ≤ length (trees new) = later.trees.grows in let there : (get_or numbers i d).0 < length (trees old) = below_at (length (trees old)) numbers i d ok within in omega (arith, there))
