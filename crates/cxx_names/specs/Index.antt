-- What is kept of the facts of a graph, and how it follows from them.
use Rattle.std.specs.Prelude.{ℕ, zero, suc, ℤ, ◌≡◌, Bool, true, false, ◌&&◌, if◌then◌else◌, nat_eq, List, [], ◌∷◌, ◌++◌, length, map, Option, Some, None}
use Rattle.std.specs.Option.{option_to_list}
use Rattle.cxx_model.specs.declared.facts.Entity.{Entity}
use Rattle.cxx_model.specs.declared.facts.Entity.TheVariants as entity
use Rattle.cxx_model.specs.declared.facts.Fact.{Fact}
use Rattle.cxx_model.specs.declared.facts.Name.{Name}
use Rattle.cxx_model.specs.declared.facts.Name.TheVariants as name
use Rattle.cxx_model.specs.declared.facts.ScopeKind.{ScopeKind}
use Rattle.cxx_model.specs.declared.facts.ScopeKind.TheVariants as kind
use Rattle.cxx_model.specs.declared.types.ClassId.{ClassId}
use Rattle.cxx_model.specs.declared.types.EnumId.{EnumId}
use Rattle.cxx_model.specs.declared.types.FactId.{FactId}
use Rattle.cxx_model.specs.declared.types.ScopeId.{ScopeId}
use Rattle.cxx_model.specs.Facts.Declarations.{facts_at, spelled}
use Rattle.cxx_model.specs.Types.Trees.{CxxType}
use Rattle.cxx_meaning.specs.Conversions.Enumerations.{values_in}
use Rattle.cxx_reading.specs.Seen.{Numbered, declared_from}
use Rattle.cxx_names.specs.Filed.{row, AreSame, IsMoreBy}
use Rattle.cxx_names.specs.Holders.{held_from}
use Rattle.cxx_names.specs.Roles.{AreBelow, representatives}
use Rattle.cxx_names.specs.Words.{AreSameWords, HasWord, IsSound, same_spelling, word_row}
use Rattle.cxx_names.specs.declared.entry.Entry.{Entry}
use Rattle.cxx_names.specs.declared.entry.Noted.{Noted}
use Rattle.cxx_names.specs.declared.entry.Spelling.{Spelling}
use Rattle.cxx_names.specs.declared.kept.Kept.{Kept}
use Rattle.cxx_names.specs.declared.names.Names.{Names}
use Rattle.cxx_names.specs.declared.entry.SpaceEntry.{SpaceEntry}
use Rattle.cxx_names.specs.declared.spaces.Spaces.{Spaces}

-- ---- keys

abbrev pub same_scope : ScopeId → ScopeId → Bool
same_scope one two = nat_eq one.0 two.0

abbrev pub same_enumeration : EnumId → EnumId → Bool
same_enumeration one two = nat_eq one.0 two.0

abbrev pub same_class : ClassId → ClassId → Bool
same_class one two = nat_eq one.0 two.0

-- ---- what is kept of one fact

-- the name of a fact with a number
abbrev pub filed_by : FactId → Option Spelling → Option (Spelling × FactId)
filed_by number None = None
filed_by number (Some name) = Some (name, number)

abbrev pub noted_by : ScopeId → Entity → Option Noted
noted_by holder (entity.Scope parent kind) = Some (record { kind = kind; parent = holder })
noted_by holder _ = None

abbrev pub value_by : Entity → Option (EnumId × ℤ)
value_by (entity.Enumerator number value) = Some (number, value)
value_by _ = None

abbrev pub is_outermost_kind : ScopeKind → Bool
is_outermost_kind (kind.Block (Some function)) = true
is_outermost_kind _ = false

-- 3.3.2: the scope with a number, where it is the outermost block of a function, under the one that holds it
abbrev pub block_by : ℕ → Option Noted → Option (ScopeId × ScopeId)
block_by number None = None
block_by number (Some noted) = if is_outermost_kind noted.kind then Some (noted.parent, record { 0 = number }) else None

-- 7.2: the scope of an enumeration
abbrev pub enumeration_by : ScopeId → Entity → Option ScopeId
enumeration_by scope (entity.Enumeration number) = Some scope
enumeration_by scope _ = None

-- 9.1: the scope in which a class is declared, under the class
abbrev pub class_by : ScopeId → Entity → Option (ClassId × ScopeId)
class_by scope (entity.Class class is_union) = Some (class, scope)
class_by scope _ = None

-- 11.4: the declaration of what a class befriends, under the class
abbrev pub friend_by : Entity → Option (ClassId × FactId)
friend_by (entity.Friend class target) = Some (class, target)
friend_by _ = None

-- 7.3.4: the namespace that a directive nominates, under the scope of the directive
abbrev pub directive_by : ScopeId → Entity → Option (ScopeId × ScopeId)
directive_by scope (entity.Directive nominated) = Some (scope, nominated)
directive_by scope _ = None

-- 7.3.1: a declaration of a namespace with a number, under the scope of the namespace
abbrev pub opening_by : FactId → Entity → Option (ScopeId × FactId)
opening_by number (entity.Namespace inner) = Some (inner, number)
opening_by number _ = None

-- 7.3.1.1: the scope of an unnamed namespace, under the one that holds it
abbrev pub unnamed_space : ScopeId → Entity → Option (ScopeId × ScopeId)
unnamed_space scope (entity.Namespace inner) = Some (scope, inner)
unnamed_space scope _ = None

abbrev pub unnamed_by : ScopeId → Name → Entity → Option (ScopeId × ScopeId)
unnamed_by scope name.Unnamed what = unnamed_space scope what
unnamed_by scope _ what = None

-- ---- what is kept of all facts

-- the values of those pairs that have a scope, in order
abbrev pub under : {V : Type 0} → ScopeId → List (ScopeId × V) → List V
under scope [] = []
under scope (one ∷ others) = if same_scope one.0 scope then one.1 ∷ under scope others else under scope others

abbrev pub directives_of : List Fact → List (ScopeId × ScopeId)
directives_of [] = []
directives_of (fact ∷ facts) = option_to_list (directive_by fact.scope fact.what) ++ directives_of facts

-- the declarations of namespaces, where the first fact has a number
abbrev pub openings_from : ℕ → List Fact → List (ScopeId × FactId)
openings_from number [] = []
openings_from number (fact ∷ facts) = option_to_list (opening_by (record { 0 = number }) fact.what) ++ openings_from (suc number) facts

abbrev pub unnamed_of : List Fact → List (ScopeId × ScopeId)
unnamed_of [] = []
unnamed_of (fact ∷ facts) = option_to_list (unnamed_by fact.scope fact.name fact.what) ++ unnamed_of facts

abbrev pub scopes_of : List Fact → List Noted
scopes_of [] = []
scopes_of (fact ∷ facts) = option_to_list (noted_by fact.scope fact.what) ++ scopes_of facts

-- 7.2: the scopes of the enumerations
abbrev pub enumeration_scopes : List Fact → List ScopeId
enumeration_scopes [] = []
enumeration_scopes (fact ∷ facts) = option_to_list (enumeration_by fact.scope fact.what) ++ enumeration_scopes facts

-- 9.1: the scopes in which classes are declared, under them
abbrev pub class_scopes : List Fact → List (ClassId × ScopeId)
class_scopes [] = []
class_scopes (fact ∷ facts) = option_to_list (class_by fact.scope fact.what) ++ class_scopes facts

-- 11.4: the declarations of what classes befriend, under them
abbrev pub friends_of : List Fact → List (ClassId × FactId)
friends_of [] = []
friends_of (fact ∷ facts) = option_to_list (friend_by fact.what) ++ friends_of facts

-- those of one class, in order
abbrev pub of_class : {V : Type 0} → ClassId → List (ClassId × V) → List V
of_class class [] = []
of_class class (one ∷ others) = if same_class one.0 class then one.1 ∷ of_class class others else of_class class others

-- 3.3.2: the outermost blocks of functions that a scope holds, where the first scope of a list has a number
abbrev pub blocks_from : ℕ → ℕ → List Noted → List ScopeId
blocks_from number scope [] = []
blocks_from number scope (noted ∷ others) = if is_outermost_kind noted.kind && nat_eq noted.parent.0 scope then record { 0 = number } ∷ blocks_from (suc number) scope others else blocks_from (suc number) scope others

abbrev pub number_of : Numbered → FactId
number_of one = record { 0 = one.number }

-- the numbers of some declarations
abbrev pub numbers_in : List Numbered → List FactId
numbers_in all = map number_of all

-- What is kept of namespaces and directives is that of exactly these facts.
pub record KeepsSpaces (spaces : Spaces) (facts : List Fact) : Type 0 where
  pub directives : (scope : ScopeId) → row same_scope spaces.directives.rows.entries scope ≡ under scope (directives_of facts)
  pub openings : (scope : ScopeId) → row same_scope spaces.openings.rows.entries scope ≡ under scope (openings_from zero facts)
  pub unnamed : (scope : ScopeId) → row same_scope spaces.unnamed.rows.entries scope ≡ under scope (unnamed_of facts)

-- What is kept of scopes and enumerations is that of exactly these facts.
pub record Keeps (kept : Kept) (facts : List Fact) : Type 0 where
  pub scopes : kept.scopes.items ≡ scopes_of facts
  pub blocks : (scope : ScopeId) → row same_scope kept.blocks.rows.entries scope ≡ blocks_from zero scope.0 (scopes_of facts)
  pub enumerations : kept.enumerations.items ≡ enumeration_scopes facts
  pub values : (number : EnumId) (types : List CxxType) → row same_enumeration kept.values.rows.entries number ≡ values_in number.0 (facts_at types facts)
  pub classes : (class : ClassId) → row same_class kept.classes.rows.entries class ≡ of_class class (class_scopes facts)
  pub holders : (class : ClassId) → row same_class kept.holders.rows.entries class ≡ of_class class (held_from zero facts)
  pub friends : (class : ClassId) → row same_class kept.friends.rows.entries class ≡ of_class class (friends_of facts)
  pub spaces : KeepsSpaces kept.spaces facts

-- Exactly these facts were noted.
pub record Notes (names : Names) (facts : List Fact) : Type 0 where
  pub sound : IsSound names.words
  pub words : (scope : ScopeId) (word : List ℕ) (types : List CxxType) → word_row names.words scope word ≡ numbers_in (declared_from scope.0 (spelled word) zero (facts_at types facts))
  pub below : (key : Spelling) → AreBelow (length facts) (row same_spelling names.words.rows.rows.entries key)
  pub representatives : (key : Spelling) → row same_spelling names.representatives.rows.entries key ≡ representatives facts [] (row same_spelling names.words.rows.rows.entries key)
  pub kept : Keeps names.kept facts

-- ---- what one more fact changes

pub record HasSpaces (old new : Spaces) (one : SpaceEntry) : Type 0 where
  pub directives : IsMoreBy same_scope old.directives.rows.entries new.directives.rows.entries one.directive
  pub openings : IsMoreBy same_scope old.openings.rows.entries new.openings.rows.entries one.opening
  pub unnamed : IsMoreBy same_scope old.unnamed.rows.entries new.unnamed.rows.entries one.unnamed

pub record AreSameSpaces (old new : Spaces) : Type 0 where
  pub directives : AreSame same_scope old.directives.rows.entries new.directives.rows.entries
  pub openings : AreSame same_scope old.openings.rows.entries new.openings.rows.entries
  pub unnamed : AreSame same_scope old.unnamed.rows.entries new.unnamed.rows.entries

pub record HasKept (old new : Kept) (one : Entry) : Type 0 where
  pub scopes : new.scopes.items ≡ old.scopes.items ++ option_to_list one.noted
  pub blocks : IsMoreBy same_scope old.blocks.rows.entries new.blocks.rows.entries one.block
  pub enumerations : new.enumerations.items ≡ old.enumerations.items ++ option_to_list one.enumeration
  pub values : IsMoreBy same_enumeration old.values.rows.entries new.values.rows.entries one.value
  pub classes : IsMoreBy same_class old.classes.rows.entries new.classes.rows.entries one.class
  pub holders : IsMoreBy same_class old.holders.rows.entries new.holders.rows.entries one.holder
  pub friends : IsMoreBy same_class old.friends.rows.entries new.friends.rows.entries one.friend
  pub spaces : HasSpaces old.spaces new.spaces one.space

-- The same is kept.
pub record AreSameKept (old new : Kept) : Type 0 where
  pub scopes : new.scopes.items ≡ old.scopes.items
  pub blocks : AreSame same_scope old.blocks.rows.entries new.blocks.rows.entries
  pub enumerations : new.enumerations.items ≡ old.enumerations.items
  pub values : AreSame same_enumeration old.values.rows.entries new.values.rows.entries
  pub classes : AreSame same_class old.classes.rows.entries new.classes.rows.entries
  pub holders : AreSame same_class old.holders.rows.entries new.holders.rows.entries
  pub friends : AreSame same_class old.friends.rows.entries new.friends.rows.entries
  pub spaces : AreSameSpaces old.spaces new.spaces

pub record HasNoted (old new : Names) (one : Entry) : Type 0 where
  pub words : HasWord old.words new.words one.name
  pub representatives : IsMoreBy same_spelling old.representatives.rows.entries new.representatives.rows.entries one.representative
  pub kept : HasKept old.kept new.kept one

pub record AreSameNames (old new : Names) : Type 0 where
  pub words : AreSameWords old.words new.words
  pub representatives : AreSame same_spelling old.representatives.rows.entries new.representatives.rows.entries
  pub kept : AreSameKept old.kept new.kept
