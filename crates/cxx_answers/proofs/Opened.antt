-- What stands in brackets is of the type of the whole (5.3.3).
use Rattle.std.specs.Prelude.{ℕ, ◌≡◌, ◌<◌, nat_eq, true, false, List, [], ◌∷◌, length, Option, Some, None, Result, refl}
use Rattle.std.proofs.Common.{ap, subst, sym, ◌∙◌, arith, get_or}
use Rattle.cxx_model.specs.declared.base.Base.TheVariants as base
use Rattle.cxx_model.specs.declared.stop.Stop.{Stop}
use Rattle.cxx_model.specs.declared.tree.Node.{Node}
use Rattle.cxx_model.specs.declared.types.TreeId.{TreeId}
use Rattle.cxx_model.specs.declared.types.TypeId.{TypeId}
use Rattle.cxx_model.specs.Facts.Declarations.{CxxFact}
use Rattle.cxx_model.specs.Types.Trees.{CxxType, fundamental}
use Rattle.cxx_reading.specs.Trees.{CxxTree, in_turn}
use Rattle.cxx_tree.specs.Arena.{AreTreesBelow, tree_over}
use Rattle.cxx_tree.specs.Held.{Held, tree, trees}
use Rattle.cxx_expr.specs.declared.production.TheConstants as production
use Rattle.cxx_expr.specs.Making.{GrowsType, trees_held}
use Rattle.cxx_expr.specs.Nodes.{one_tree}
use Rattle.cxx_expr.specs.SizesOf.{type_of_operand}
use Rattle.cxx_answers.specs.Bare.{type_of_bare, type_of_tree, type_within}

-- ---- the first of some expressions

-- what stands behind it does not count
first_is : (all : List CxxFact) (cut : ℕ) (first : CxxTree) (others : List CxxTree) → type_of_operand all cut (in_turn (first ∷ others)) ≡ type_of_tree all cut first
unfolding type_of_operand
first_is all cut first others = refl

first_of : (held : Held) (numbers : List TreeId) (first d : TreeId) → 0 < length numbers → first ≡ get_or numbers 0 d → (all : List CxxFact) (cut : ℕ) → type_of_operand all cut (in_turn (trees_held held numbers)) ≡ type_of_tree all cut (tree held first)
first_of held [] first d some is all cut = absurd (omega (arith, some))
first_of held (one ∷ others) first d some is all cut = first_is all cut (tree held one) (trees_held held others) ∙ ap (λ (n : TreeId). type_of_tree all cut (tree held n)) (sym is)

none_of : (held : Held) (numbers : List TreeId) → length numbers ≡ 0 → (all : List CxxFact) (cut : ℕ) → type_of_operand all cut (in_turn (trees_held held numbers)) ≡ fundamental base.Void
unfolding type_of_operand
none_of held [] none all cut = refl
none_of held (one ∷ others) none all cut = absurd (omega (arith, none))

-- ---- brackets

no_bracket : (all : List CxxFact) (cut : ℕ) (one : CxxTree) → nat_eq one.label.production production.PARENTHESIS ≡ false → type_of_tree all cut one ≡ type_of_bare all cut one
unfolding type_of_operand
no_bracket all cut one bare = rw bare refl

bracket : (all : List CxxFact) (cut : ℕ) (one : CxxTree) → nat_eq one.label.production production.PARENTHESIS ≡ true → type_of_tree all cut one ≡ type_of_operand all cut one.children
unfolding type_of_operand
bracket all cut one opens = rw opens refl

-- two expressions of the same type, whatever is declared
abbrev pub SameType : CxxTree → CxxTree → Type 0
SameType one two = (all : List CxxFact) (cut : ℕ) → type_of_tree all cut one ≡ type_of_tree all cut two

node_bare : (held : Held) (one : CxxTree) (node : Node) → one ≡ tree_over held.types (trees held) node → nat_eq node.production production.PARENTHESIS ≡ false → (all : List CxxFact) (cut : ℕ) → type_of_tree all cut one ≡ type_of_bare all cut one
node_bare held one node is bare all cut = no_bracket all cut one (ap (λ (t : CxxTree). nat_eq t.label.production production.PARENTHESIS) is ∙ bare)

node_holds : (held : Held) (one : CxxTree) (node : Node) → one ≡ tree_over held.types (trees held) node → nat_eq node.production production.PARENTHESIS ≡ true → (all : List CxxFact) (cut : ℕ) → type_of_tree all cut one ≡ type_of_operand all cut (in_turn (trees_held held node.children))
node_holds held one node is opens all cut =
    bracket all cut one (ap (λ (t : CxxTree). nat_eq t.label.production production.PARENTHESIS) is ∙ opens)
    ∙ ap (λ (t : CxxTree). type_of_operand all cut t.children) is

-- no bracket stands round it
pub bare_found : (held : Held) (from number : TreeId) (node : Node) → SameType (tree held from) (tree held number) → tree held number ≡ tree_over held.types (trees held) node → nat_eq node.production production.PARENTHESIS ≡ false → (all : List CxxFact) (cut : ℕ) → type_of_tree all cut (tree held from) ≡ type_within all cut (one_tree held (Some number))
bare_found held from number node same is bare all cut = same all cut ∙ node_bare held (tree held number) node is bare all cut

-- brackets, with what stands in them
held_in : (held : Held) (from number : TreeId) (node : Node) (parts : List TreeId) → SameType (tree held from) (tree held number) → tree held number ≡ tree_over held.types (trees held) node → nat_eq node.production production.PARENTHESIS ≡ true → parts ≡ node.children → (all : List CxxFact) (cut : ℕ) → type_of_tree all cut (tree held from) ≡ type_of_operand all cut (in_turn (trees_held held parts))
held_in held from number node parts same is opens are all cut =
    same all cut ∙ (node_holds held (tree held number) node is opens all cut ∙ ap (λ (ns : List TreeId). type_of_operand all cut (in_turn (trees_held held ns))) (sym are))

pub none_found : (held : Held) (from number : TreeId) (node : Node) (parts : List TreeId) → SameType (tree held from) (tree held number) → tree held number ≡ tree_over held.types (trees held) node → nat_eq node.production production.PARENTHESIS ≡ true → parts ≡ node.children → length parts ≡ 0 → (all : List CxxFact) (cut : ℕ) → type_of_tree all cut (tree held from) ≡ type_within all cut (one_tree held None)
none_found held from number node parts same is opens are none all cut = held_in held from number node parts same is opens are all cut ∙ none_of held parts none all cut

pub goes_in : (held : Held) (from number d : TreeId) (node : Node) (parts : List TreeId) → SameType (tree held from) (tree held number) → tree held number ≡ tree_over held.types (trees held) node → nat_eq node.production production.PARENTHESIS ≡ true → parts ≡ node.children → 0 < length parts → SameType (tree held from) (tree held (get_or parts 0 d))
goes_in held from number d node parts same is opens are some all cut = held_in held from number node parts same is opens are all cut ∙ first_of held parts (get_or parts 0 d) d some refl all cut

part_below : (number : TreeId) (parts : List TreeId) (d : TreeId) → AreTreesBelow number.0 parts → 0 < length parts → (get_or parts 0 d).0 < number.0
part_below number [] d below some = absurd (omega (arith, some))
part_below number (one ∷ parts) d below some = below.0

-- it stands before the brackets
pub part_there : (count : ℕ) (number d : TreeId) (parts children : List TreeId) → number.0 < count → AreTreesBelow number.0 children → parts ≡ children → 0 < length parts → (get_or parts 0 d).0 < count
part_there count number d parts children known below are some =
    let there = part_below number parts d (subst (AreTreesBelow number.0) (sym are) below) some in
    omega (arith, there, known)

-- ---- all operands

pub first_grows : (old new : Held) (operands : List TreeId) (first d : TreeId) (inside : Option TreeId) (result : Result TypeId Stop) (all : List CxxFact) (cut : ℕ) → 0 < length operands → first ≡ get_or operands 0 d → ((facts : List CxxFact) (at : ℕ) → type_of_tree facts at (tree old first) ≡ type_within facts at (one_tree old inside)) → GrowsType old new result (type_within all cut (one_tree old inside)) → GrowsType old new result (type_of_operand all cut (in_turn (trees_held old operands)))
first_grows old new operands first d inside result all cut some is within grows =
    subst (λ (t : CxxType). GrowsType old new result t) (sym (first_of old operands first d some is all cut ∙ within all cut)) grows

pub none_grows : (old new : Held) (operands : List TreeId) (result : Result TypeId Stop) (all : List CxxFact) (cut : ℕ) → length operands ≡ 0 → GrowsType old new result (fundamental base.Void) → GrowsType old new result (type_of_operand all cut (in_turn (trees_held old operands)))
none_grows old new operands result all cut none grows =
    subst (λ (t : CxxType). GrowsType old new result t) (sym (none_of old operands none all cut)) grows
