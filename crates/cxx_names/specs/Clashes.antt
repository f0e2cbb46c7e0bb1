-- The first declaration that conflicts with a new one, among those of its name.
use Rattle.std.specs.List.{slice_get}
use Rattle.cxx_model.specs.declared.facts.Entity.{Entity}
use Rattle.cxx_model.specs.declared.facts.Entity.TheVariants as entity
use Rattle.cxx_model.specs.declared.facts.Fact.{Fact}
use Rattle.cxx_model.specs.declared.facts.MemberKind.{MemberKind}
use Rattle.cxx_model.specs.declared.facts.MemberKind.TheVariants as member
use Rattle.cxx_model.specs.declared.facts.Name.{Name}
use Rattle.cxx_model.specs.declared.facts.ScopeKind.{ScopeKind}
use Rattle.cxx_model.specs.declared.facts.ScopeKind.TheVariants as kind
use Rattle.cxx_model.specs.declared.facts.Name.TheVariants as name
use Rattle.std.specs.Prelude.{ℕ, ◌≡◌, ◌||◌, Bool, true, false, ◌&&◌, nat_eq, nat_lt, if◌then◌else◌, List, [], ◌∷◌, Option, Some, None}
use Rattle.cxx_model.specs.declared.types.ClassId.{ClassId}
use Rattle.cxx_model.specs.declared.types.FactId.{FactId}
use Rattle.cxx_model.specs.declared.types.ScopeId.{ScopeId}
use Rattle.cxx_model.specs.Facts.Conflicts.{are_parameters, brought_may_stand, conflicts, is_using, may_stand, standing}
use Rattle.cxx_model.specs.Facts.Declarations.{CxxFact, CxxGraph, CxxName, Declares, declares_at}
use Rattle.cxx_model.specs.Facts.Entities.{CxxEntity, Meant, entity_by, meant_by, of_fact, of_space, of_type, same_entity}
use Rattle.cxx_model.specs.Types.Trees.{CxxType}
use Rattle.cxx_model.specs.Types.Same.{same_word}
use Rattle.cxx_reading.specs.Seen.{Numbered, declared_in}
use Rattle.cxx_names.specs.declared.entry.Noted.{Noted}
use Rattle.cxx_names.specs.declared.meant.Identity.{Identity}
use Rattle.cxx_names.specs.declared.meant.Identity.TheVariants as identity
use Rattle.cxx_names.specs.declared.meant.Meaning.{Meaning}
use Rattle.cxx_names.specs.Index.{is_outermost_kind}
use Rattle.cxx_names.specs.Meant.{IsNamedBelow, named_at}

-- the first of some declarations that conflicts
abbrev pub conflict_in : CxxGraph → CxxFact → List Numbered → Option ℕ
conflict_in graph new [] = None
conflict_in graph new (one ∷ others) = if conflicts graph one.number one.fact new then Some one.number else conflict_in graph new others

abbrev pub sooner : Option ℕ → Option ℕ → Option ℕ
sooner None two = two
sooner (Some m) None = Some m
sooner (Some m) (Some n) = if nat_lt n m then Some n else Some m

-- the first among the declarations of a name in some scopes, where one was found elsewhere
abbrev pub conflict_in_scopes : CxxGraph → CxxFact → CxxName → List ScopeId → Option ℕ → Option ℕ
conflict_in_scopes graph new name [] best = best
conflict_in_scopes graph new name (scope ∷ others) best = conflict_in_scopes graph new name others (sooner best (conflict_in graph new (declared_in graph scope.0 name)))

-- 3.3.2: the scope that holds the outermost block of a function
abbrev pub holder_of_block : Option Noted → List ScopeId
holder_of_block None = []
holder_of_block (Some noted) = if is_outermost_kind noted.kind then noted.parent ∷ [] else []

-- ---- scopes

abbrev pub are_parameters_in : Option Noted → Bool
are_parameters_in (Some noted) = are_parameters (Some noted.kind)
are_parameters_in None = false

abbrev pub block_in : List Noted → ℕ → Option Noted → Bool
block_in scopes other None = false
block_in scopes other (Some noted) = is_outermost_kind noted.kind && (nat_eq noted.parent.0 other && are_parameters_in (slice_get scopes other))

abbrev pub is_block_in : List Noted → ℕ → ℕ → Bool
is_block_in scopes scope other = block_in scopes other (slice_get scopes scope)

abbrev pub is_one_scope_in : List Noted → ℕ → ℕ → Bool
is_one_scope_in scopes one two = nat_eq one two || (is_block_in scopes one two || is_block_in scopes two one)

abbrev pub is_class_in : Option Noted → Bool
is_class_in None = false
is_class_in (Some noted) = by noted.kind
  where
    by : ScopeKind → Bool
    by (kind.Class class) = true
    by _ = false

-- the class of which a scope is
abbrev pub class_in : Option Noted → Option ClassId
class_in None = None
class_in (Some noted) = by noted.kind
  where
    by : ScopeKind → Option ClassId
    by (kind.Class class) = Some class
    by _ = None

-- ---- declarations that are tested

-- 12: no constructor, no destructor and no conversion function
abbrev pub IsNamedMember : MemberKind → Type 0
IsNamedMember member.Constructor = ⊥
IsNamedMember member.Destructor = ⊥
IsNamedMember member.Conversion = ⊥
IsNamedMember _ = Unit {0}

-- an object or a function, also of a class, a class, an enumeration or an enumerator, another name of a type, a namespace,
-- a using-directive or a using-declaration
abbrev pub IsPlainEntity : Entity → Type 0
IsPlainEntity (entity.Object of member is_mutable value first) = IsNamedMember member
IsPlainEntity (entity.Function of member flags defaults first) = IsNamedMember member
IsPlainEntity (entity.Class class is_union) = Unit {0}
IsPlainEntity (entity.Enumeration number) = Unit {0}
IsPlainEntity (entity.Enumerator number value) = Unit {0}
IsPlainEntity (entity.Synonym of) = Unit {0}
IsPlainEntity (entity.Namespace inner) = Unit {0}
IsPlainEntity (entity.Directive nominated) = Unit {0}
IsPlainEntity (entity.Using target) = Unit {0}
IsPlainEntity _ = ⊥

abbrev pub IsPlainName : Name → Type 0
IsPlainName name.Unnamed = Unit {0}
IsPlainName (name.Spelled word) = Unit {0}
IsPlainName _ = ⊥

-- A declaration with a spelled name or none.
pub record IsPlain (fact : Fact) : Type 0 where
  pub name : IsPlainName fact.name
  pub what : IsPlainEntity fact.what

-- 14: no declaration is one of a template
abbrev pub IsNoTemplate : Entity → Type 0
IsNoTemplate (entity.Template template member defaults is_explicit first) = ⊥
IsNoTemplate _ = Unit {0}

abbrev pub NoTemplates : List Fact → Type 0
NoTemplates [] = Unit {0}
NoTemplates (fact ∷ facts) = IsNoTemplate fact.what × NoTemplates facts

-- whether two names are spelled, and alike
abbrev pub same_spelled : Name → Name → Bool
same_spelled (name.Spelled one) (name.Spelled two) = same_word one two
same_spelled _ _ = false

abbrev pub number_in : FactId → ℕ
number_in fact = fact.0

-- ---- what declarations stand for

abbrev pub meaning_at : List CxxType → Meaning → Meant
meaning_at types one = record { number = one.number.0; what = declares_at types one.what }

abbrev pub identity_at : List CxxType → Identity → CxxEntity
identity_at types (identity.OfFact number) = of_fact number.0
identity_at types (identity.OfType named) = of_type (named_at types named)
identity_at types (identity.OfSpace scope) = of_space scope.0

abbrev pub IsIdentityBelow : ℕ → Identity → Type 0
IsIdentityBelow count (identity.OfType named) = IsNamedBelow count named
IsIdentityBelow count _ = Unit {0}

-- whether two declarations, in scopes of classes or not, may stand in one scope
abbrev pub stand_by : CxxGraph → Bool → Bool → Declares → Declares → Meant → Meant → Bool
stand_by graph in_class closed one two meant other =
    if is_using one || is_using two
    then brought_may_stand in_class (is_using one && is_using two) (same_entity (entity_by meant.number meant.what) (entity_by other.number other.what)) (standing graph meant.what) (standing graph other.what)
    else may_stand closed (standing graph one) (standing graph two)

abbrev pub stand_in : CxxGraph → Bool → Bool → ℕ → Declares → ℕ → Declares → Bool
stand_in graph in_class closed m one n two = stand_by graph in_class closed one two (meant_by graph.facts m one) (meant_by graph.facts n two)
