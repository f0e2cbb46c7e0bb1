-- Names without qualifiers (3.4.1).
use Rattle.std.specs.Prelude.{ℕ, suc, ◌≡◌, false, nat_eq, List, [], ◌∷◌, length, refl}
use Rattle.std.proofs.Common.{arith}
use Rattle.std.proofs.lemmas.Bool.Decides.{nat_tests}
use Rattle.cxx_model.specs.declared.tree.PathPart.{PathPart}
use Rattle.cxx_reading.specs.Trees.{is_alone}
use Rattle.cxx_tree.specs.Arena.{path_parts_at}

two_or_more : (n : ℕ) → nat_eq (suc (suc n)) 1 ≡ false
two_or_more n = grind (arith, nat_tests)

pub alone_is : (parts : List PathPart) → nat_eq (length parts) 1 ≡ is_alone (path_parts_at parts)
alone_is [] = refl
alone_is (part ∷ []) = refl
alone_is (part ∷ next ∷ parts) = two_or_more (length parts)
