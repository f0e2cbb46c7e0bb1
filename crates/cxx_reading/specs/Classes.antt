-- Classes that are named, and not defined there (3.3.1, 3.4.4, 7.1.5.3, 9.1).
use Rattle.std.specs.Prelude.{ℕ, ◌+◌, Bool, true, false, nat_eq, if◌then◌else◌, find, List, [], ◌∷◌, ◌++◌, length, Option, Some, None, Ok, Err}
use Rattle.cxx_model.specs.declared.facts.Access.TheVariants.{Public}
use Rattle.cxx_model.specs.declared.facts.ScopeKind.{ScopeKind}
use Rattle.cxx_model.specs.declared.facts.ScopeKind.TheVariants as scope_kind
use Rattle.cxx_model.specs.declared.lookup.Found.{Found as Sought}
use Rattle.cxx_model.specs.declared.place.Place.{Place}
use Rattle.cxx_model.specs.declared.stop.LimitKind.TheVariants.{Facts}
use Rattle.cxx_model.specs.declared.types.ClassId.{ClassId}
use Rattle.cxx_model.specs.declared.types.ScopeId.{ScopeId}
use Rattle.cxx_model.specs.Facts.Declarations as facts
use Rattle.cxx_model.specs.Facts.Declarations.{CxxFact, CxxGraph, Declares, spelled}
use Rattle.cxx_model.specs.Stops.{Limited, ◌>>=◌, undeclared_at}
use Rattle.cxx_model.specs.Types.Same.{same_bool}
use Rattle.cxx_model.specs.Types.Trees.{CxxType, class_type}
use Rattle.cxx_meaning.specs.Lookups.Scopes.{chain, kind_of, unit_scope}
use Rattle.cxx_meaning.specs.Lookups.Wanted.{types_only}
use Rattle.cxx_reading.specs.Declaring.{added, declare, free, most_facts}
use Rattle.cxx_reading.specs.Linked.{scope_id}
use Rattle.cxx_reading.specs.Paths.{name_in, region_of, sought_in, unambiguous, wrong_kind_at}
use Rattle.cxx_reading.specs.Reads.{Asks}
use Rattle.cxx_reading.specs.Seen.{Numbered, declared_in, place_of_first, set_in}
use Rattle.cxx_reading.specs.State.{CxxState}
use Rattle.cxx_reading.specs.Trees.{CxxPath, CxxPathPart, is_plain_path, last_part}

-- ---- classes among declarations

-- the class that a declaration declares, and whether it is a union; the name of a class in its own scope (9) does not say
-- that
pub record ClassNamed : Type 0 where
  pub number : ℕ
  pub is_union : Option Bool

abbrev pub class_by : Declares → Option ClassNamed
class_by (facts.class class is_union) = Some (record { number = class.0; is_union = Some is_union })
class_by (facts.injected class) = Some (record { number = class.0; is_union = None })
class_by _ = None

abbrev pub or_other : Option ClassNamed → Option ClassNamed → Option ClassNamed
or_other None later = later
or_other (Some one) later = Some one

-- the first class among declarations
abbrev pub first_class : List Numbered → Option ClassNamed
first_class [] = None
first_class (one ∷ others) = or_other (class_by one.fact.what) (first_class others)

-- ---- a class is declared

abbrev pub class_id : ℕ → ClassId
class_id n = record { 0 = n }

abbrev pub class_count : CxxGraph → ℕ
class_count graph = length graph.classes

abbrev pub class_fact : ℕ → CxxPathPart → ℕ → Bool → CxxFact
class_fact scope part n is_union = record { place = part.place; scope = scope; name = spelled part.word; access = Public; what = facts.class (class_id n) is_union }

abbrev pub with_class : CxxState → CxxState
with_class state = record state { graph = record state.graph { classes = state.graph.classes ++ None ∷ [] } }

-- one more class, where there is room for one: its number
unfoldable pub reserved : Asks CxxState ℕ
reserved state =
    if nat_eq (length state.graph.facts + length state.graph.classes) most_facts then Err (Limited Facts) else
    Ok (class_count state.graph, with_class state)

abbrev pub class_as : ℕ → ℕ × CxxState → CxxType × CxxState
class_as n answer = (class_type n, answer.1)

-- what conflicts comes before the limit
unfoldable pub declare_again : ℕ → CxxPathPart → Bool → ℕ → Asks CxxState CxxType
declare_again scope part is_union n state = declare (class_fact scope part n is_union) part.word state >>= λ answer. Ok (class_as n answer)

unfoldable pub declare_new : ℕ → CxxPathPart → Bool → Asks CxxState CxxType
declare_new scope part is_union state = do
  is_free ← free state (class_fact scope part (class_count state.graph) is_union) part.word
  answer ← reserved state
  last ← added (class_fact scope part (class_count state.graph) is_union) answer.1
  Ok (class_as (class_count state.graph) last)

abbrev pub declare_by : ℕ → CxxPathPart → Bool → Option ClassNamed → Asks CxxState CxxType
declare_by scope part is_union (Some one) state = declare_again scope part is_union one.number state
declare_by scope part is_union None state = declare_new scope part is_union state

-- 9.1: a name that declares a class already in a scope declares it again there
unfoldable pub declare_class : ℕ → CxxPathPart → Bool → Asks CxxState CxxType
declare_class scope part is_union state = declare_by scope part is_union (first_class (declared_in state.graph scope (spelled part.word))) state

-- ---- a class is named

-- 3.3.1: a scope that is that of no class and of no parameters
abbrev pub is_open : Option ScopeKind → Bool
is_open (Some (scope_kind.Class class)) = false
is_open (Some scope_kind.Parameters) = false
is_open _ = true

abbrev pub scope_or_unit : Option ScopeId → ScopeId
scope_or_unit None = unit_scope
scope_or_unit (Some one) = one

-- the first such scope of some, or the unit's scope
unfoldable pub first_open : List CxxFact → List ScopeId → ScopeId
first_open all scopes = scope_or_unit (find (λ one. is_open (kind_of all one)) scopes)

-- the innermost one round a scope
unfoldable pub open_of : CxxGraph → ℕ → ℕ
open_of graph scope = (first_open graph.facts (chain graph.facts (scope_id scope))).0

-- 3.3.1: a name alone that means no type declares a class
abbrev pub class_missing : CxxPath → Bool → Asks CxxState CxxType
class_missing path is_union state =
    if is_plain_path path then declare_class (open_of state.graph state.here.scope) (last_part path.parts) is_union state else
    Err (undeclared_at (last_part path.parts).place (last_part path.parts).word)

abbrev pub is_of_key : Option Bool → Bool → Bool
is_of_key None is_union = true
is_of_key (Some one) is_union = same_bool one is_union

-- 7.1.5.3: a union is named by its key alone
abbrev pub class_taken : CxxPathPart → Place → Bool → Option ClassNamed → Asks CxxState CxxType
class_taken part other is_union None state = Err (wrong_kind_at part other)
class_taken part other is_union (Some one) state = if is_of_key one.is_union is_union then Ok (class_type one.number, state) else Err (wrong_kind_at part other)

-- given the first class among the declarations that were found, and where the first of them stands
abbrev pub class_seen : CxxPath → Bool → Option ClassNamed → Option Place → Asks CxxState CxxType
class_seen path is_union named None state = class_missing path is_union state
class_seen path is_union named (Some other) state = class_taken (last_part path.parts) other is_union named state

abbrev pub class_among : CxxPath → Bool → List Numbered → Asks CxxState CxxType
class_among path is_union all state = class_seen path is_union (first_class all) (place_of_first all) state

abbrev pub class_found : CxxPath → Bool → Sought → Asks CxxState CxxType
class_found path is_union found state = unambiguous state.graph (last_part path.parts) found >>= λ clear. class_among path is_union (set_in state.graph found) state

unfoldable pub class_named : CxxPath → Bool → Asks CxxState CxxType
class_named path is_union state = region_of state.graph state.here.scope path >>= λ where_. class_found path is_union (sought_in state.graph types_only where_ (name_in path)) state

-- what a name behind `class`, `struct` or `union` means, where it may be all of its declaration
unfoldable pub class_here : Bool → Bool → CxxPath → Asks CxxState CxxType
class_here is_union true path state = declare_class state.here.scope (last_part path.parts) is_union state
class_here is_union false path state = class_named path is_union state
