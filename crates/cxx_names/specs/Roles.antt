-- What the test for conflicts sees of a declaration, and those of a list of which each role has one.
use Rattle.std.specs.Prelude.{ℕ, ◌<◌, Bool, false, ◌&&◌, nat_eq, if◌then◌else◌, List, [], ◌∷◌, ◌++◌, Option, Some, None}
use Rattle.std.specs.Global.{Vec}
use Rattle.std.specs.List.{list_any, slice_get}
use Rattle.cxx_model.specs.declared.facts.Entity.{Entity}
use Rattle.cxx_model.specs.declared.facts.Entity.TheVariants as entity
use Rattle.cxx_model.specs.declared.facts.Fact.{Fact}
use Rattle.cxx_model.specs.declared.facts.MemberKind.TheVariants as member
use Rattle.cxx_model.specs.declared.types.FactId.{FactId}
use Rattle.cxx_model.specs.Facts.Entities.{first_or}
use Rattle.cxx_model.specs.Types.Same.{same_bool}
use Rattle.cxx_names.specs.declared.entry.Spelling.{Spelling}
use Rattle.cxx_names.specs.declared.role.Role.{Role}
use Rattle.cxx_names.specs.declared.role.Role.TheVariants as role
use Rattle.cxx_names.specs.Filed.{row}
use Rattle.cxx_names.specs.Words.{same_spelling}

-- An object or a function is seen by its type and its first declaration. Members of classes, templates, their parameters and
-- enumerators have no role, so that none of them stands for another.
abbrev pub role_by : ℕ → Entity → Option Role
role_by number (entity.Object of member.Free is_mutable value first) = Some (role.Object of (record { 0 = first_or number first }))
role_by number (entity.Function of member.Free flags defaults first) = Some (role.Function of (record { 0 = first_or number first }))
role_by number (entity.Class class is_union) = Some (role.Class class is_union)
role_by number (entity.Enumeration n) = Some (role.Enumeration n)
role_by number (entity.Synonym of) = Some (role.Synonym of)
role_by number (entity.Namespace inner) = Some (role.Namespace inner)
role_by number (entity.Using target) = Some (role.Using target)
role_by number _ = None

abbrev pub role_there : ℕ → Option Fact → Option Role
role_there number None = None
role_there number (Some fact) = role_by number fact.what

-- the role of the declaration with a number, where it has one
abbrev pub role_in : List Fact → FactId → Option Role
role_in facts number = role_there number.0 (slice_get facts number.0)

abbrev pub equal_roles : Role → Role → Bool
equal_roles (role.Object one first) (role.Object two other) = nat_eq one.0 two.0 && nat_eq first.0 other.0
equal_roles (role.Function one first) (role.Function two other) = nat_eq one.0 two.0 && nat_eq first.0 other.0
equal_roles (role.Class one is_union) (role.Class two other) = nat_eq one.0 two.0 && same_bool is_union other
equal_roles (role.Enumeration one) (role.Enumeration two) = nat_eq one.0 two.0
equal_roles (role.Synonym one) (role.Synonym two) = nat_eq one.0 two.0
equal_roles (role.Namespace one) (role.Namespace two) = nat_eq one.0 two.0
equal_roles (role.Using one) (role.Using two) = nat_eq one.0 two.0
equal_roles _ _ = false

-- whether two declarations have one role
abbrev pub same_role : Option Role → Option Role → Bool
same_role (Some one) (Some two) = equal_roles one two
same_role _ _ = false

-- whether one of some declarations has a role
abbrev pub has_role : List Fact → List FactId → Option Role → Bool
has_role facts numbers role = list_any (λ number. same_role (role_in facts number) role) numbers

-- some declarations and one more, which is left out where one of them has its role
abbrev pub with_one : List Fact → List FactId → FactId → List FactId
with_one facts chosen number = if has_role facts chosen (role_in facts number) then chosen else chosen ++ number ∷ []

-- Some declarations, behind those that were chosen, but for each that has the role of an earlier one that is chosen.
abbrev pub representatives : List Fact → List FactId → List FactId → List FactId
representatives facts chosen [] = chosen
representatives facts chosen (number ∷ numbers) = representatives facts (with_one facts chosen number) numbers

-- what is filed of a declaration with a role, a number and a name, beside the representatives that are filed under the name
abbrev pub representative_by : List Fact → List (Spelling × Vec FactId) → Option Role → FactId → Option Spelling → Option (Spelling × FactId)
representative_by facts rows role number None = None
representative_by facts rows role number (Some name) = if has_role facts (row same_spelling rows name) role then None else Some (name, number)

-- each number is below a count
abbrev pub AreBelow : ℕ → List FactId → Type 0
AreBelow count [] = Unit {0}
AreBelow count (number ∷ numbers) = (number.0 < count) × AreBelow count numbers
