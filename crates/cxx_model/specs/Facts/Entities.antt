-- Which facts are of one entity, and what is known of an object (clause 3, 3.5, 8.3.4).
use Rattle.std.specs.Prelude.{ℕ, suc, ℤ, Bool, true, false, ◌&&◌, ◌||◌, if◌then◌else◌, nat_eq, nat_lt, List, [], ◌∷◌, Option, Some, None}
use Rattle.std.specs.List.{list_any, slice_get}
use Rattle.cxx_model.specs.declared.facts.ScopeKind.{ScopeKind}
use Rattle.cxx_model.specs.declared.facts.ScopeKind.TheVariants as kind
use Rattle.cxx_model.specs.declared.types.FactId.{FactId}
use Rattle.cxx_model.specs.Facts.Declarations as facts
use Rattle.cxx_model.specs.Facts.Declarations.{CxxFact, Declares}
use Rattle.cxx_model.specs.Types.Same.{same_type}
use Rattle.cxx_model.specs.Types.Trees as types
use Rattle.cxx_model.specs.Types.Trees.{CxxType}

-- ---- entities

-- 3: an object, a function, a template or a value, by its first fact; a type, by the tree; a namespace, by its scope
pub data CxxEntity : Type 0 where
  of_fact : ℕ → CxxEntity
  of_type : CxxType → CxxEntity
  of_space : ℕ → CxxEntity

abbrev pub first_or : ℕ → Option FactId → ℕ
first_or number None = number
first_or number (Some first) = first.0

-- The entity of a fact that declares it itself. Names of one type are one entity (7.1.3), and so are the openings of a
-- namespace (7.3.1).
abbrev pub entity_by : ℕ → Declares → CxxEntity
entity_by number (facts.object of member is_mutable value first) = of_fact (first_or number first)
entity_by number (facts.function of member flags defaults first) = of_fact (first_or number first)
entity_by number (facts.template template member defaults is_explicit first) = of_fact (first_or number first)
entity_by number (facts.injected class) = of_type (types.class_type class.0)
entity_by number (facts.class class is_union) = of_type (types.class_type class.0)
entity_by number (facts.enumeration n) = of_type (types.enumeration n)
entity_by number (facts.synonym of) = of_type of
entity_by number (facts.namespace inner) = of_space inner.0
entity_by number _ = of_fact number

-- what a fact stands for: a fact, by its number
pub record Meant : Type 0 where
  pub number : ℕ
  pub what : Declares

-- 7.3.3: a using-declaration stands for its target, which is none itself
abbrev pub meant_by : List CxxFact → ℕ → Declares → Meant
meant_by all number (facts.using target) = by (slice_get all target.0)
  where
    by : Option CxxFact → Meant
    by None = record { number = target.0; what = facts.using target }
    by (Some fact) = record { number = target.0; what = fact.what }
meant_by all number what = record { number = number; what = what }

-- the entity of a fact, by its number
abbrev pub entity_of : List CxxFact → ℕ → CxxEntity
entity_of all number = by (slice_get all number)
  where
    of_meant : Meant → CxxEntity
    of_meant meant = entity_by meant.number meant.what

    by : Option CxxFact → CxxEntity
    by None = of_fact number
    by (Some fact) = of_meant (meant_by all number fact.what)

abbrev pub same_entity : CxxEntity → CxxEntity → Bool
same_entity (of_fact m) (of_fact n) = nat_eq m n
same_entity (of_type one) (of_type two) = same_type one two
same_entity (of_space m) (of_space n) = nat_eq m n
same_entity _ _ = false

-- ---- classes

abbrev ends : ℕ → CxxFact → Bool
ends class fact = by fact.what
  where
    by : Declares → Bool
    by (facts.complete number) = nat_eq number.0 class
    by _ = false

-- 9.2: whether the end of a class stands among the facts
abbrev pub has_end : ℕ → List CxxFact → Bool
has_end class all = list_any (ends class) all

-- ---- what is seen

-- 3.3: the kinds of the scopes, in order
abbrev pub scope_kinds : List CxxFact → List ScopeKind
scope_kinds [] = []
scope_kinds (fact ∷ others) = put fact.what (scope_kinds others)
  where
    put : Declares → List ScopeKind → List ScopeKind
    put (facts.scope parent kind) kinds = kind ∷ kinds
    put _ kinds = kinds

abbrev pub is_space : Option ScopeKind → Bool
is_space (Some kind.Space) = true
is_space _ = false

-- 3.3.1: a declaration of a namespace is seen where it stands before the cut. Every other scope is read once and in
-- order, and its declarations are seen as soon as they are there.
abbrev pub is_seen : List CxxFact → ℕ → ℕ → CxxFact → Bool
is_seen all cut number fact = nat_lt number cut || not_space (is_space (slice_get (scope_kinds all) fact.scope))
  where
    not_space : Bool → Bool
    not_space true = false
    not_space false = true

-- ---- objects

-- what one declaration of an object says of it
pub record ObjectSaid : Type 0 where
  pub of : CxxType
  pub value : Option ℤ

-- the declarations of an object among some facts, the first of which has a number, as far as they are seen at a cut
abbrev pub object_said : List CxxFact → ℕ → ℕ → ℕ → List CxxFact → List ObjectSaid
object_said all cut entity number [] = []
object_said all cut entity number (fact ∷ others) = by fact.what (object_said all cut entity (suc number) others)
  where
    by : Declares → List ObjectSaid → List ObjectSaid
    by (facts.object of member is_mutable value first) later = if nat_eq (first_or number first) entity && is_seen all cut number fact then record { of = of; value = value } ∷ later else later
    by _ later = later

abbrev pub has_no_bound : CxxType → Bool
has_no_bound (types.array_of t types.unknown_bound) = true
has_no_bound _ = false

abbrev first_bounded : CxxType → List ObjectSaid → CxxType
first_bounded of [] = of
first_bounded of (said ∷ others) = if has_no_bound said.of then first_bounded of others else said.of

-- 3.5, 8.3.4: The type of an object is that of its first declaration, or of the first that has a bound where that has
-- none.
abbrev pub type_said : List ObjectSaid → Option CxxType
type_said [] = None
type_said (said ∷ others) = Some (first_bounded said.of (said ∷ others))

-- 5.19: the value of an object is the first that a declaration gives
abbrev pub value_said : List ObjectSaid → Option ℤ
value_said [] = None
value_said (said ∷ others) = by said.value (value_said others)
  where
    by : Option ℤ → Option ℤ → Option ℤ
    by (Some value) later = Some value
    by None later = later

-- the type of an object, by the number of its first fact, as it is known at a cut
abbrev pub object_type : List CxxFact → ℕ → ℕ → Option CxxType
object_type all entity cut = type_said (object_said all cut entity 0 all)

-- the value of a constant, as it is known at a cut
abbrev pub object_value : List CxxFact → ℕ → ℕ → Option ℤ
object_value all entity cut = value_said (object_said all cut entity 0 all)
