-- What is kept of the facts of a graph for the members that classes declare by themselves.
use Rattle.std.specs.Prelude.{ℕ, ◌≡◌, ◌<◌, ◌||◌, false, not, Bool, List, [], ◌∷◌, ◌++◌, length, if◌then◌else◌, Option, Some, None, slice_index_or}
use Rattle.std.specs.List.{filter_map, list_all, list_any, slice_get}
use Rattle.cxx_model.specs.declared.facts.ScopeKind.{ScopeKind}
use Rattle.cxx_model.specs.declared.facts.ScopeKind.TheVariants as kind
use Rattle.cxx_model.specs.declared.types.ClassId.{ClassId}
use Rattle.cxx_model.specs.Facts.Declarations as facts
use Rattle.cxx_model.specs.Facts.Declarations.{CxxFact, Declares}
use Rattle.cxx_model.specs.Facts.Entities.{scope_kinds}
use Rattle.cxx_meaning.specs.Lookups.Member.{is_of_class}
use Rattle.cxx_implicit.specs.declared.deciding.Implied.{Implied}
use Rattle.cxx_implicit.specs.declared.index.SpecialMembers.{SpecialMembers}
use Rattle.cxx_implicit.specs.declared.specials.Special.{Special}
use Rattle.cxx_implicit.specs.Members.{concerned, declarations_of, is_constructor, is_copy_assignment, is_copy_assignment_of_const, is_copy_constructor, is_copy_constructor_of_const, only_const, part_in, unless}
use Rattle.cxx_implicit.specs.Rows.{row_at, AreSameRows, IsRowMore}

abbrev pub nothing_special : Special
nothing_special = record { constructor = false; copy_constructor = false; copies_const = false; copy_assignment = false; assigns_const = false }

-- what a class declares; one of which no fact speaks has no place yet
abbrev pub special_in : List Special → ℕ → Special
special_in specials n = slice_index_or specials n nothing_special

abbrev pub AreSameSpecials : List Special → List Special → Type 0
AreSameSpecials old new = (n : ℕ) → special_in new n ≡ special_in old n

-- what some declarations of a class are
abbrev pub special_of : ℕ → List CxxFact → Special
special_of class declarations = record {
  constructor = list_any (λ fact. is_constructor fact.what) declarations;
  copy_constructor = list_any (is_copy_constructor class) declarations;
  copies_const = list_any (is_copy_constructor_of_const class) declarations;
  copy_assignment = list_any (is_copy_assignment class) declarations;
  assigns_const = list_any (is_copy_assignment_of_const class) declarations;
}

-- with one more
abbrev pub with_fact : ℕ → CxxFact → Special → Special
with_fact class fact special = record {
  constructor = special.constructor || is_constructor fact.what;
  copy_constructor = special.copy_constructor || is_copy_constructor class fact;
  copies_const = special.copies_const || is_copy_constructor_of_const class fact;
  copy_assignment = special.copy_assignment || is_copy_assignment class fact;
  assigns_const = special.assigns_const || is_copy_assignment_of_const class fact;
}

abbrev pub parts_in : List CxxFact → List ClassId
parts_in declarations = filter_map (λ fact. part_in fact.what) declarations

-- each of some facts stands in a scope before this one
abbrev pub AreScoped : ℕ → List CxxFact → Type 0
AreScoped count [] = Unit {0}
AreScoped count (fact ∷ others) = (fact.scope < count) × AreScoped count others

-- The kinds of the scopes among some facts are kept, and for each class what it declares and the classes of its parts.
pub record Notes (kept : SpecialMembers) (all : List CxxFact) : Type 0 where
  pub scopes : kept.scopes.items ≡ scope_kinds all
  pub scoped : AreScoped (length (scope_kinds all)) all
  pub specials : (n : ℕ) → special_in kept.specials.items n ≡ special_of n (declarations_of all n)
  pub parts : (n : ℕ) → row_at kept.parts n ≡ parts_in (declarations_of all n)

-- ---- what is answered by it

abbrev pub copied_by_parts : SpecialMembers → ℕ → Bool
copied_by_parts kept class = list_all (λ part. (special_in kept.specials.items part.0).copies_const) (row_at kept.parts class)

abbrev pub assigned_by_parts : SpecialMembers → ℕ → Bool
assigned_by_parts kept class = list_all (λ part. (special_in kept.specials.items part.0).assigns_const) (row_at kept.parts class)

abbrev pub implied_by : SpecialMembers → ℕ → Implied
implied_by kept class = record {
  default_constructor = not (special_in kept.specials.items class).constructor;
  copy_constructor = unless (special_in kept.specials.items class).copy_constructor (only_const (copied_by_parts kept class));
  copy_assignment = unless (special_in kept.specials.items class).copy_assignment (only_const (assigned_by_parts kept class));
}

-- ---- what one more fact changes

-- 3.3: the kind of the scope that a declaration begins
abbrev pub kinds_in : Declares → List ScopeKind
kinds_in (facts.scope parent kind) = kind ∷ []
kinds_in _ = []

-- the class to whose scope a declaration belongs, given the kind of the scope
abbrev pub class_in_kind : Option ScopeKind → Option ClassId
class_in_kind (Some (kind.Class class)) = Some class
class_in_kind _ = None

-- what a class declares is said of it, and of no other class
abbrev pub AreSpecialsNoted : Option ClassId → CxxFact → List Special → List Special → Type 0
AreSpecialsNoted class fact old new = (n : ℕ) → special_in new n ≡ (if is_of_class (record { 0 = n }) class then with_fact n fact (special_in old n) else special_in old n)

-- a part is one of its class, where there are both
abbrev pub ArePartsNoted : Option ClassId → Option ClassId → List (List ClassId) → List (List ClassId) → Type 0
ArePartsNoted None class old new = AreSameRows old new
ArePartsNoted (Some part) None old new = AreSameRows old new
ArePartsNoted (Some part) (Some class) old new = IsRowMore old new class.0 part

-- what a declaration says of a class is kept
pub record IsSaid (class : Option ClassId) (fact : CxxFact) (old new : SpecialMembers) : Type 0 where
  pub specials : AreSpecialsNoted class fact old.specials.items new.specials.items
  pub parts : ArePartsNoted (part_in fact.what) class old.parts new.parts

abbrev pub said_class : List ScopeKind → CxxFact → Option ClassId
said_class scopes fact = concerned (class_in_kind (slice_get scopes fact.scope)) fact.what

-- a declaration is noted
pub record IsNoted (fact : CxxFact) (old new : SpecialMembers) : Type 0 where
  pub scopes : new.scopes.items ≡ old.scopes.items ++ kinds_in fact.what
  pub said : IsSaid (said_class new.scopes.items fact) fact old new

pub record AreSameKept (old new : SpecialMembers) : Type 0 where
  pub scopes : new.scopes.items ≡ old.scopes.items
  pub specials : AreSameSpecials old.specials.items new.specials.items
  pub parts : AreSameRows old.parts new.parts
