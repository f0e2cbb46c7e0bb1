-- The last of some parts.
use Rattle.std.specs.Prelude.{◌≡◌, ◌<◌, ◌-◌, Bool, false, true, ◌||◌, List, [], ◌∷◌, length, take, Option, Some, None, refl}
use Rattle.std.proofs.Common.{ap, sym, ◌∙◌, arith, get_or}
use Rattle.cxx_model.specs.declared.types.TreeId.{TreeId}
use Rattle.cxx_reading.specs.Trees.{CxxTree}
use Rattle.cxx_tree.specs.Arena.{tree_in, trees_in}
use Rattle.cxx_tree.specs.Held.{Held, tree, trees}
use Rattle.cxx_expr.specs.Casts.{split_last}
use Rattle.cxx_expr.specs.Elaborating.{last_alone}
use Rattle.cxx_expr.specs.Making.{trees_held}
use Rattle.cxx_expr.specs.Operands.{any_open, is_none}
use Rattle.cxx_expr.proofs.Splits.{split_some}

picked : Option (List CxxTree × CxxTree) → List CxxTree
picked None = []
picked (Some parts) = parts.1 ∷ []

picked_is : (all : List CxxTree) → last_alone all ≡ picked (split_last all)
unfolding picked
picked_is [] = refl
picked_is (one ∷ others) = refl

or_false : (b : Bool) → b ≡ b || false
or_false true = refl
or_false false = refl

pub last_open : (held : Held) (numbers : List TreeId) (last d : TreeId) → 0 < length numbers → last ≡ get_or numbers (length numbers - 1) d → is_none (tree held last).label.operand ≡ any_open (last_alone (trees_held held numbers))
unfolding picked
last_open held numbers last d some is =
    let parts : Some (trees_in (trees held) (take (length numbers - 1) numbers), tree_in (trees held) last.0) ≡ split_last (trees_in (trees held) numbers) = split_some (trees held) numbers last d some is in
    or_false (is_none (tree held last).label.operand)
    ∙ ap (λ (p : Option (List CxxTree × CxxTree)). any_open (picked p)) parts
    ∙ ap any_open (sym (picked_is (trees_held held numbers)))

pub none_open : (held : Held) (numbers : List TreeId) → length numbers ≡ 0 → false ≡ any_open (last_alone (trees_held held numbers))
none_open held [] none = refl
none_open held (number ∷ numbers) none = absurd (omega (arith, none))
