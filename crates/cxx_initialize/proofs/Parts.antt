-- The parts of a tree, and what they are where there is one.
use Rattle.std.specs.Prelude.{suc, ◌≡◌, List, [], ◌∷◌, length, refl}
use Rattle.std.proofs.Common.{ap}
use Rattle.cxx_model.specs.declared.place.Place.{Place}
use Rattle.cxx_model.specs.declared.types.TreeId.{TreeId}
use Rattle.cxx_model.specs.Types.Trees.{CxxType}
use Rattle.cxx_reading.specs.State.{CxxState}
use Rattle.cxx_reading.specs.Trees.{CxxTree}
use Rattle.cxx_tree.specs.Held.{Held}
use Rattle.cxx_expr.specs.Initializing.{one_of, text_in}
use Rattle.cxx_expr.specs.Making.{trees_held}
use Rattle.cxx_expr.specs.Operands.{only}
use Rattle.cxx_expr.specs.Questions.{Questions}
use Rattle.cxx_initialize.specs.Behind.{one_by, text_by}

pub trees_count : (held : Held) (numbers : List TreeId) → length (trees_held held numbers) ≡ length numbers
trees_count held [] = refl
trees_count held (n ∷ numbers) = ap (λ k. suc k) (trees_count held numbers)

-- ---- one part

pub one_of_only : (q : Questions) (place : Place) (of : CxxType) (all : List CxxTree) (s : CxxState) → one_of q place of all s ≡ one_by q place of (only all) s
one_of_only q place of [] s = refl
one_of_only q place of (one ∷ []) s = refl
one_of_only q place of (one ∷ two ∷ all) s = refl

pub text_in_only : (of : CxxType) (all : List CxxTree) → text_in of all ≡ text_by of (only all)
text_in_only of [] = refl
text_in_only of (one ∷ []) = refl
text_in_only of (one ∷ two ∷ all) = refl
