-- What a name means among the declarations so far (3.3, 3.4.1).
use Rattle.std.specs.Prelude.{ℕ, zero, suc, Bool, ◌&&◌, nat_eq, if◌then◌else◌, List, [], ◌∷◌, length, Option, Some, None, Ok, Err}
use Rattle.std.specs.List.{slice_get, list_any}
use Rattle.cxx_model.specs.declared.base.Base.TheVariants.{Void}
use Rattle.cxx_model.specs.declared.lookup.Found.{Found}
use Rattle.cxx_model.specs.declared.lookup.Found.TheVariants as looked
use Rattle.cxx_model.specs.declared.lookup.MemberFound.{MemberFound}
use Rattle.cxx_model.specs.declared.lookup.MemberFound.TheVariants as member
use Rattle.cxx_model.specs.declared.place.Place.{Place}
use Rattle.cxx_model.specs.declared.tree.Kind.{Kind}
use Rattle.cxx_model.specs.declared.tree.Kind.TheVariants as kind
use Rattle.cxx_model.specs.declared.types.FactId.{FactId}
use Rattle.cxx_model.specs.Facts.Conflicts.{declares_name, has_name, same_name, scope_facts}
use Rattle.cxx_model.specs.Facts.Declarations as facts
use Rattle.cxx_model.specs.Facts.Declarations.{CxxFact, CxxGraph, CxxName, Declares}
use Rattle.cxx_model.specs.Types.Trees.{CxxType, fundamental, class_type, enumeration}
use Rattle.cxx_meaning.specs.Lookups.Ordinary.{ordinary}
use Rattle.cxx_meaning.specs.Lookups.Pending.{Asked}
use Rattle.cxx_meaning.specs.Lookups.Wanted.{Wanted, any_name, hides_types, names_space, names_type, types_only}

-- a declaration, with its number
pub record Numbered : Type 0 where
  pub number : ℕ
  pub fact : CxxFact

-- ---- one scope

-- whether a fact declares a name in a scope
abbrev pub declares_in : ℕ → CxxName → CxxFact → Bool
declares_in scope name fact = nat_eq fact.scope scope && (declares_name fact.what && (has_name name && same_name fact.name name))

abbrev pub declared_from : ℕ → CxxName → ℕ → List CxxFact → List Numbered
declared_from scope name number [] = []
declared_from scope name number (fact ∷ others) =
    if declares_in scope name fact then record { number = number; fact = fact } ∷ declared_from scope name (suc number) others else
    declared_from scope name (suc number) others

-- the declarations of a name in a scope, in order
unfoldable pub declared_in : CxxGraph → ℕ → CxxName → List Numbered
declared_in graph scope name = declared_from scope name zero graph.facts

-- ---- by numbers

abbrev pub numbered_by : ℕ → Option CxxFact → List Numbered → List Numbered
numbered_by number None later = later
numbered_by number (Some fact) later = record { number = number; fact = fact } ∷ later

-- the declarations with some numbers
abbrev pub numbered_at : CxxGraph → List ℕ → List Numbered
numbered_at graph [] = []
numbered_at graph (number ∷ others) = numbered_by number (slice_get graph.facts number) (numbered_at graph others)

abbrev pub fact_numbers : List FactId → List ℕ
fact_numbers [] = []
fact_numbers (fact ∷ others) = fact.0 ∷ fact_numbers others

-- ---- outward

abbrev pub scope_of_option : ℕ → Option CxxFact → ℕ
scope_of_option scope None = scope
scope_of_option scope (Some fact) = fact.scope

-- 3.3: the scope that holds a scope; that of the unit holds itself
abbrev pub parent_of : CxxGraph → ℕ → ℕ
parent_of graph scope = scope_of_option scope (slice_get (scope_facts graph.facts) scope)

-- what is wanted among declarations
abbrev pub kept : (Declares → Bool) → List Numbered → List Numbered
kept wanted [] = []
kept wanted (one ∷ others) = if wanted one.fact.what then one ∷ kept wanted others else kept wanted others

-- ---- lookups (3.4)

-- a unit without classes asks for none
abbrev pub found_or_none : Asked Found → Found
found_or_none (Ok one) = one
found_or_none (Err class) = looked.Empty

-- 3.4.1, 7.3.4: what a name means, from a scope, among all that is declared so far
unfoldable pub sought_from : CxxGraph → Wanted → ℕ → CxxName → Found
sought_from graph wanted scope name = found_or_none (ordinary graph wanted (record { 0 = scope }) name (length graph.facts))

-- 10.2: what is found as a member of a class; none where two do not go together
abbrev pub members_of : MemberFound → List FactId
members_of (member.Set facts path) = facts
members_of _ = []

abbrev pub set_in : CxxGraph → Found → List Numbered
set_in graph (looked.Set facts) = numbered_at graph (fact_numbers facts)
set_in graph (looked.Member class of) = numbered_at graph (fact_numbers (members_of of))
set_in graph _ = []

-- where the first of some declarations stands
abbrev pub place_of_first : List Numbered → Option Place
place_of_first [] = None
place_of_first (one ∷ others) = Some one.fact.place

-- The entities that a name means in a scope, by their first declarations; none where it is not declared or ambiguous.
unfoldable pub found : CxxGraph → ℕ → CxxName → List Numbered
found graph scope name = set_in graph (sought_from graph any_name scope name)

-- 3.4.4: the same for names of types alone
unfoldable pub found_types : CxxGraph → ℕ → CxxName → List Numbered
found_types graph scope name = set_in graph (sought_from graph types_only scope name)

-- ---- kinds

abbrev pub any_hides : CxxGraph → List Numbered → Bool
any_hides graph all = list_any (λ one. hides_types graph one.fact.what) all

abbrev pub any_type : CxxGraph → List Numbered → Bool
any_type graph all = list_any (λ one. names_type graph one.fact.what) all

abbrev pub any_space : List Numbered → Bool
any_space all = list_any (λ one. names_space one.fact.what) all

-- 3.3.7: what a name is to a reader; a type that is hidden in its scope is none
abbrev pub kind_of_found : CxxGraph → List Numbered → Kind
kind_of_found graph all =
    if any_hides graph all then kind.Value else (
    if any_type graph all then kind.OfType else (
    if any_space all then kind.Space else
    kind.Value))

-- the type that a declaration names
abbrev pub type_named_by : Declares → Option CxxType
type_named_by (facts.injected class) = Some (class_type class.0)
type_named_by (facts.class class is_union) = Some (class_type class.0)
type_named_by (facts.enumeration n) = Some (enumeration n)
type_named_by (facts.synonym of) = Some of
type_named_by _ = None

abbrev pub or_next : Option CxxType → CxxType → CxxType
or_next None later = later
or_next (Some of) later = of

-- 7.1.3: the type that a name means: all its declarations name one
abbrev pub type_in : List Numbered → CxxType
type_in [] = fundamental Void
type_in (one ∷ others) = or_next (type_named_by one.fact.what) (type_in others)
