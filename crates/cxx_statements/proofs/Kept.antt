-- What values stand for stays the same while the state grows.
use Rattle.std.specs.Prelude.{◌≡◌, ◌≤◌, List, [], ◌∷◌, length, Option, Some, None, refl}
use Rattle.std.proofs.Common.{ap, arith}
use Rattle.cxx_model.specs.declared.types.TreeId.{TreeId}
use Rattle.cxx_model.specs.Types.Trees.{CxxType}
use Rattle.cxx_reading.specs.Trees.{CxxTree}
use Rattle.cxx_statements.specs.declared.around.Around.{Around}
use Rattle.cxx_statements.specs.declared.around.Switch.{Switch}
use Rattle.cxx_statements.specs.declared.parts.Target.{Target}
use Rattle.cxx_statements.specs.declared.parts.Target.TheVariants as target
use Rattle.cxx_statements.specs.Statements as definition
use Rattle.cxx_statements.specs.Statements.{CxxTarget, to_type}
use Rattle.cxx_statements.specs.Views.{IsAround, IsSwitch, IsSwitchOption, IsTarget, around_of, switch_of, switch_of_option, target_of}
use Rattle.cxx_cursor.specs.Asking.{IsTreeKnown}
use Rattle.cxx_cursor.proofs.Kept as kept
use Rattle.cxx_tree.specs.Arena.{trees_in}
use Rattle.cxx_tree.specs.Held.{Held, tree, trees}
use Rattle.cxx_tree.specs.Later.{Later}

pub tree_kept : (old new : Held) (number : TreeId) → Later old new → IsTreeKnown old number → tree new number ≡ tree old number
tree_kept old new number later ok = later.trees.same number.0 ok

pub tree_later : (old new : Held) (number : TreeId) → Later old new → IsTreeKnown old number → IsTreeKnown new number
tree_later old new number later ok = let more : length (trees old) ≤ length (trees new) = later.trees.grows in omega arith

pub trees_counted : (all : List CxxTree) (numbers : List TreeId) → length (trees_in all numbers) ≡ length numbers
trees_counted all [] = refl
trees_counted all (number ∷ numbers) = let e : length (trees_in all numbers) ≡ length numbers = trees_counted all numbers in omega arith

-- ---- targets

pub target_kept : (old new : Held) (one : Target) → Later old new → IsTarget old one → target_of new one ≡ target_of old one
target_kept old new target.Bool later ok = refl
target_kept old new target.Promoted later ok = refl
target_kept old new (target.Of of) later ok = (let make : CxxType → CxxTarget = λ t. to_type t in ap make (kept.type_kept old new of later ok))
target_kept old new target.Result later ok = refl

pub target_later : (old new : Held) (one : Target) → Later old new → IsTarget old one → IsTarget new one
target_later old new target.Bool later ok = tt
target_later old new target.Promoted later ok = tt
target_later old new (target.Of of) later ok = kept.type_later old new of later ok
target_later old new target.Result later ok = tt

-- ---- what stands around a statement

pub switch_kept : (old new : Held) (one : Switch) → Later old new → IsSwitch old one → switch_of new one ≡ switch_of old one
switch_kept old new one later ok =
    let make : CxxType → definition.Switch = λ t. record { of = t; values = one.values; has_default = one.has_default } in
    ap make (kept.type_kept old new one.of later ok)

pub switch_later : (old new : Held) (one : Switch) → Later old new → IsSwitch old one → IsSwitch new one
switch_later old new one later ok = kept.type_later old new one.of later ok

option_kept : (old new : Held) (one : Option Switch) → Later old new → IsSwitchOption old one → switch_of_option new one ≡ switch_of_option old one
option_kept old new None later ok = refl
option_kept old new (Some one) later ok = (let make : definition.Switch → Option definition.Switch = λ s. Some s in ap make (switch_kept old new one later ok))

option_later : (old new : Held) (one : Option Switch) → Later old new → IsSwitchOption old one → IsSwitchOption new one
option_later old new None later ok = tt
option_later old new (Some one) later ok = switch_later old new one later ok

pub around_kept : (old new : Held) (around : Around) → Later old new → IsAround old around → around_of new around ≡ around_of old around
around_kept old new around later ok =
    let make : Option definition.Switch → definition.Around = λ s. record { in_loop = around.in_loop; breaks = around.breaks; switch = s } in
    ap make (option_kept old new around.switch later ok)

pub around_later : (old new : Held) (around : Around) → Later old new → IsAround old around → IsAround new around
around_later old new around later ok = option_later old new around.switch later ok
