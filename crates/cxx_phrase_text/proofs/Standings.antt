-- Whether trees are one string, and how a tree stands.
use Rattle.std.proofs.Common.{◌≡◌, ◌≤◌, false, List, [], ◌∷◌, length, refl, arith}
use Rattle.cxx_model.specs.declared.types.TreeId.{TreeId}
use Rattle.cxx_reading.specs.Trees.{in_turn, CxxTree}
use Rattle.cxx_tree.specs.Arena.{trees_in}
use Rattle.cxx_phrase_text.specs.Phrases.{is_one_string}

pub several : (trees : List CxxTree) (parts : List TreeId) → 2 ≤ length parts → false ≡ is_one_string (in_turn (trees_in trees parts))
several trees [] many = absurd (omega arith)
several trees (one ∷ []) many = absurd (omega arith)
several trees (one ∷ two ∷ parts) many = refl
