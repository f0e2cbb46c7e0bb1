-- The type of what is measured, where it is an expression without brackets round it (5.3.3).
use Rattle.std.specs.Prelude.{ℕ, nat_eq, if◌then◌else◌, List, [], ◌∷◌, Option, Some, None}
use Rattle.cxx_model.specs.declared.base.Base.TheVariants as base
use Rattle.cxx_model.specs.Facts.Declarations.{CxxFact}
use Rattle.cxx_model.specs.Types.Trees.{CxxType, fundamental}
use Rattle.cxx_reading.specs.Trees.{CxxTree, in_turn}
use Rattle.cxx_expr.specs.declared.production.TheConstants as production
use Rattle.cxx_expr.specs.SizesOf.{type_in, type_of_operand, type_of_target}

abbrev pub type_of_tree : List CxxFact → ℕ → CxxTree → CxxType
type_of_tree all cut tree = type_of_operand all cut (in_turn (tree ∷ []))

abbrev pub type_of_bare : List CxxFact → ℕ → CxxTree → CxxType
type_of_bare all cut tree =
    if nat_eq tree.label.production production.NAME then type_of_target all cut (type_in tree.label) tree.label.target else
    type_in tree.label

-- brackets with nothing in them are of no type
abbrev pub type_within : List CxxFact → ℕ → Option CxxTree → CxxType
type_within all cut None = fundamental base.Void
type_within all cut (Some tree) = type_of_bare all cut tree
