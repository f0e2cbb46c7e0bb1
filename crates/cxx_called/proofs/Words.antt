-- The last word of a name.
use Rattle.std.specs.Prelude.{ℕ, zero, suc, ◌≡◌, ◌-◌, List, [], ◌∷◌, length, Option, option_map, refl}
use Rattle.std.specs.List.{slice_get}
use Rattle.std.proofs.Common.{ap, sym, ◌∙◌}
use Rattle.cxx_model.specs.declared.tree.PathPart.{PathPart}
use Rattle.cxx_tree.specs.Arena.{path_part_at, path_parts_at}

part_at : (parts : List PathPart) (n : ℕ) → slice_get (path_parts_at parts) n ≡ option_map path_part_at (slice_get parts n)
part_at [] n = refl
part_at (part ∷ parts) zero = refl
part_at (part ∷ parts) (suc n) = part_at parts n

parts_length : (parts : List PathPart) → length (path_parts_at parts) ≡ length parts
parts_length [] = refl
parts_length (part ∷ parts) = ap suc (parts_length parts)

pub part_is : (parts : List PathPart) (last : Option PathPart) → last ≡ slice_get parts (length parts - 1) → option_map path_part_at last ≡ slice_get (path_parts_at parts) (length (path_parts_at parts) - 1)
part_is parts last is =
    ap (option_map path_part_at) is
    ∙ sym (part_at parts (length parts - 1))
    ∙ ap (λ n. slice_get (path_parts_at parts) (n - 1)) (sym (parts_length parts))
