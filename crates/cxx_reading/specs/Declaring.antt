-- How names are declared (3.3, 3.5, 7.2, 8.3): the conflict, the limit, the fact.
use Rattle.std.specs.Prelude.{ℕ, zero, suc, ℤ, pos, negsuc, ◌+◌, Bool, true, false, nat_eq, if◌then◌else◌, List, [], ◌∷◌, ◌++◌, length, Option, Some, None, Ok, Err}
use Rattle.std.specs.List.{slice_get}
use Rattle.cxx_model.specs.declared.evidence.Evidence.TheVariants.{Found}
use Rattle.cxx_model.specs.declared.facts.Access.TheVariants.{Public}
use Rattle.cxx_model.specs.declared.facts.FunctionFlags.{FunctionFlags}
use Rattle.cxx_model.specs.declared.facts.MemberKind.{MemberKind}
use Rattle.cxx_model.specs.declared.facts.MemberKind.TheVariants as member
use Rattle.cxx_model.specs.declared.facts.ScopeKind.TheVariants as scope_kind
use Rattle.cxx_model.specs.declared.fault.FaultText.TheVariants as says
use Rattle.cxx_model.specs.declared.lookup.Found.{Found as Sought}
use Rattle.cxx_model.specs.declared.place.Place.{Place}
use Rattle.cxx_model.specs.declared.stop.LimitKind.TheVariants.{Facts}
use Rattle.cxx_model.specs.declared.tree.Kind.{Kind}
use Rattle.cxx_model.specs.declared.types.ClassId.{ClassId}
use Rattle.cxx_model.specs.declared.types.FactId.{FactId}
use Rattle.cxx_model.specs.Facts.Conflicts.{same_parameters, scope_facts, defined_before}
use Rattle.cxx_model.specs.Facts.Declarations as facts
use Rattle.cxx_model.specs.Facts.Declarations.{CxxFact, CxxGraph, CxxName, Declares, unnamed, spelled}
use Rattle.cxx_model.specs.Facts.Entities.{entity_by, scope_kinds}
use Rattle.cxx_model.specs.Stops.{Answer, Stopped, Faulty, Limited, ◌>>=◌, fault, undeclared_at}
use Rattle.cxx_model.specs.Text.Lexemes.{Lexeme}
use Rattle.cxx_model.specs.Types.Integral.{one_holds}
use Rattle.cxx_model.specs.Types.Trees.{CxxType, enumeration}
use Rattle.cxx_meaning.specs.Conversions.Enumerations.{values_in}
use Rattle.cxx_meaning.specs.Lookups.Member.{class_of_scope}
use Rattle.cxx_meaning.specs.Lookups.Wanted.{types_only}
use Rattle.cxx_reading.specs.Linked.{first_clash, home_of, is_space_at, linked_in, scope_id, sooner_fact}
use Rattle.cxx_reading.specs.Paths.{found_of, name_in, place_in, place_of_fact, region_of, sought_in, unambiguous, wrong_kind_at}
use Rattle.cxx_reading.specs.Reads.{Asks}
use Rattle.cxx_reading.specs.Seen.{Numbered, declared_in, kind_of_found, parent_of, set_in, type_in}
use Rattle.cxx_reading.specs.State.{CxxState}
use Rattle.cxx_reading.specs.Trees.{CxxPath, CxxPathPart, last_part}

-- ---- facts

-- facts and reserved classes of a unit, at most
abbrev pub most_facts : ℕ
most_facts = 2097152

abbrev pub with_fact : CxxFact → CxxState → CxxState
with_fact fact state = record state { graph = record state.graph { facts = state.graph.facts ++ fact ∷ [] } }

-- a fact is added, where there is room for one: its number
unfoldable pub added : CxxFact → Asks CxxState ℕ
added fact state =
    if nat_eq (length state.graph.facts + length state.graph.classes) most_facts then Err (Limited Facts) else
    Ok (length state.graph.facts, with_fact fact state)

abbrev pub conflicting_at : Place → List ℕ → Place → Stopped
conflicting_at place word other = Faulty (record { place = place; text = says.ConflictingDeclaration word; evidence = Found other ∷ [] })

abbrev pub free_by : CxxState → CxxFact → List ℕ → Option ℕ → Answer (Unit {0})
free_by state fact word None = Ok tt
free_by state fact word (Some number) = Err (conflicting_at fact.place word (place_of_fact state.graph number))

-- 3.3: no declaration stands in the way
unfoldable pub free : CxxState → CxxFact → List ℕ → Answer (Unit {0})
free state fact word = free_by state fact word (first_clash state false fact)

-- 3.5: the same of one in a block that declares a member of its namespace
unfoldable pub free_linked : CxxState → CxxFact → List ℕ → Answer (Unit {0})
free_linked state fact word = free_by state fact word (first_clash state true fact)

-- 3.3.1: a name is declared; what conflicts with it comes before the limit
unfoldable pub declare : CxxFact → List ℕ → Asks CxxState ℕ
declare fact word state = do
  is_free ← free state fact word
  added fact state

-- ---- names

abbrev pub name_of : Option Lexeme → CxxName
name_of None = unnamed
name_of (Some token) = spelled token.spelling

abbrev pub word_of : Option Lexeme → List ℕ
word_of None = []
word_of (Some token) = token.spelling

-- a fact in the scope where the reader stands
abbrev pub fact_here : CxxState → CxxName → Place → Declares → CxxFact
fact_here state name place what = record { place = place; scope = state.here.scope; name = name; access = Public; what = what }

abbrev pub number_id : ℕ → FactId
number_id number = record { 0 = number }

abbrev pub is_object : Declares → Bool
is_object (facts.object of kind is_mutable value first) = true
is_object _ = false

-- 3: the first declaration of the object that has the name in a scope
abbrev pub first_object : List Numbered → Option FactId
first_object [] = None
first_object (one ∷ others) = if is_object one.fact.what then Some (number_id one.number) else first_object others

abbrev pub is_same_function : CxxType → Declares → Bool
is_same_function of (facts.function other kind flags defaults first) = same_parameters false of other
is_same_function of _ = false

-- 13.1: the first declaration of the function with these parameters that has the name in a scope
abbrev pub first_function : CxxType → List Numbered → Option FactId
first_function of [] = None
first_function of (one ∷ others) = if is_same_function of one.fact.what then Some (number_id one.number) else first_function of others

abbrev pub declared_here : CxxState → CxxName → List Numbered
declared_here state name = declared_in state.graph state.here.scope name

-- 7.3.1: the innermost namespace where the reader stands
abbrev pub home_here : CxxState → ℕ
home_here state = home_of state.graph state.here.scope

-- 3.5: the first declaration of the object that is a member of a namespace and has a name, also of those in blocks
unfoldable pub first_member_object : CxxState → ℕ → CxxName → Option FactId
first_member_object state space name = sooner_fact (first_object (declared_in state.graph space name)) (first_object (linked_in state space name))

-- 3.5, 13.1: the same of the function with these parameters
unfoldable pub first_member_function : CxxState → ℕ → CxxName → CxxType → Option FactId
first_member_function state space name of = sooner_fact (first_function of (declared_in state.graph space name)) (first_function of (linked_in state space name))

abbrev pub no_flags : FunctionFlags
no_flags = record { is_virtual = false; is_pure = false; is_explicit = false; is_implicit = false }

-- 7.1.3
unfoldable pub declare_synonym : Lexeme → CxxType → Asks CxxState ℕ
declare_synonym name of state = declare (fact_here state (spelled name.spelling) name.place (facts.synonym of)) name.spelling state

-- 3: an object of a namespace may be declared before; one of a block is, where it is not linked, by itself
abbrev pub first_object_here : CxxState → CxxName → Option FactId
first_object_here state name = if is_space_at state.graph state.here.scope then first_member_object state state.here.scope name else first_object (declared_here state name)

-- 9.4.2: a member of a class that is declared outside of it is a static one
abbrev pub kind_in_class : Option ClassId → MemberKind
kind_in_class None = member.Free
kind_in_class (Some class) = member.Static

-- 9.2: the class in whose scope the reader stands
abbrev pub class_of_here : CxxState → Option ClassId
class_of_here state = class_of_scope state.graph.facts (scope_id state.here.scope)

abbrev pub object_here : CxxState → CxxName → CxxType → Declares
object_here state name of = facts.object of (kind_in_class (class_of_here state)) false None (first_object_here state name)

abbrev pub free_in_class : CxxState → CxxFact → List ℕ → Option ClassId → Answer (Unit {0})
free_in_class state fact word None = free state fact word
free_in_class state fact word (Some class) = Ok tt

-- 3.3, 9.4.2: nothing that a class declares stands in the way of its member, which it has declared before
unfoldable pub free_object : CxxState → CxxFact → List ℕ → Answer (Unit {0})
free_object state fact word = free_in_class state fact word (class_of_here state)

-- 3.5: an object that a block declares with `extern`
abbrev pub linked_object_here : CxxState → CxxName → CxxType → Declares
linked_object_here state name of = facts.object of member.Free false None (first_member_object state (home_here state) name)

abbrev pub with_linked : ℕ → CxxState → CxxState
with_linked number state = record state { linked = state.linked ++ number ∷ [] }

abbrev pub linked_as : ℕ × CxxState → ℕ × CxxState
linked_as answer = (answer.0, with_linked answer.0 answer.1)

abbrev pub undefined_by : CxxState → Place → List ℕ → Option ℕ → Answer (Unit {0})
undefined_by state place word None = Ok tt
undefined_by state place word (Some number) = Err (conflicting_at place word (place_of_fact state.graph number))

-- 3.2: an object with this first declaration, or that would have this number, has no definition yet
unfoldable pub undefined : CxxState → Place → List ℕ → ℕ → Declares → Answer (Unit {0})
undefined state place word number what = undefined_by state place word (defined_before state.graph.facts state.defined (entity_by number what))

abbrev pub with_definition : ℕ → CxxState → CxxState
with_definition number state = record state { defined = state.defined ++ number ∷ [] }

-- 3.1, 3.2: an object is declared, and not defined
unfoldable pub declare_object : Lexeme → CxxType → Asks CxxState ℕ
declare_object name of state = do
  is_free ← free_object state (fact_here state (spelled name.spelling) name.place (object_here state (spelled name.spelling) of)) name.spelling
  added (fact_here state (spelled name.spelling) name.place (object_here state (spelled name.spelling) of)) state

-- 3.5: the same in a block, with `extern`
unfoldable pub declare_linked_object : Lexeme → CxxType → Asks CxxState ℕ
declare_linked_object name of state = do
  is_free ← free_linked state (fact_here state (spelled name.spelling) name.place (linked_object_here state (spelled name.spelling) of)) name.spelling
  answer ← added (fact_here state (spelled name.spelling) name.place (linked_object_here state (spelled name.spelling) of)) state
  Ok (linked_as answer)

abbrev pub defined_as : ℕ × CxxState → ℕ × CxxState
defined_as answer = (answer.0, with_definition answer.0 answer.1)

-- 3.2: an object is defined, once
unfoldable pub define_object : Lexeme → CxxType → Asks CxxState ℕ
define_object name of state = do
  is_free ← free_object state (fact_here state (spelled name.spelling) name.place (object_here state (spelled name.spelling) of)) name.spelling
  is_first ← undefined state name.place name.spelling (length state.graph.facts) (object_here state (spelled name.spelling) of)
  answer ← added (fact_here state (spelled name.spelling) name.place (object_here state (spelled name.spelling) of)) state
  Ok (defined_as answer)

abbrev pub declares_by : Option CxxFact → Declares
declares_by None = facts.synonym (enumeration zero)
declares_by (Some fact) = fact.what

-- 3.1: an object that was declared is defined by the initializer that follows
unfoldable pub define_declared : Lexeme → ℕ → Asks CxxState (Unit {0})
define_declared name number state = do
  is_first ← undefined state name.place name.spelling number (declares_by (slice_get state.graph.facts number))
  Ok (tt, with_definition number state)

-- ---- parameters (3.3.2, 8.3.5)

abbrev pub scope_count : CxxGraph → ℕ
scope_count graph = length (scope_kinds graph.facts)

abbrev pub at_scope : ℕ → CxxState → CxxState
at_scope scope state = record state { here = record state.here { scope = scope } }

abbrev pub place_of_scope : CxxGraph → ℕ → Place
place_of_scope graph scope = place_in (slice_get (scope_facts graph.facts) scope)

abbrev pub parameters_scope : CxxState → CxxFact
parameters_scope state = record {
  place = place_of_scope state.graph state.here.scope;
  scope = state.here.scope;
  name = unnamed;
  access = Public;
  what = facts.scope (Some (record { 0 = state.here.scope })) scope_kind.Parameters;
}

abbrev pub entered_as : ℕ → ℕ × CxxState → ℕ × CxxState
entered_as scope answer = (scope, at_scope scope answer.1)

unfoldable pub enter_parameters : Asks CxxState ℕ
enter_parameters state = do
  answer ← added (parameters_scope state) state
  Ok (entered_as (scope_count state.graph) answer)

unfoldable pub leave_parameters : Asks CxxState (Unit {0})
leave_parameters state = Ok (tt, at_scope (parent_of state.graph state.here.scope) state)

-- ---- blocks (3.3.2)

-- a block in the scope where the reader stands; that of a body is of a declaration of its function
abbrev pub block_scope : Option FactId → CxxState → CxxFact
block_scope function state = record {
  place = place_of_scope state.graph state.here.scope;
  scope = state.here.scope;
  name = unnamed;
  access = Public;
  what = facts.scope (Some (record { 0 = state.here.scope })) (scope_kind.Block function);
}

abbrev pub entered_block : ℕ → ℕ × CxxState → Unit {0} × CxxState
entered_block scope answer = (tt, at_scope scope answer.1)

unfoldable pub enter_block : Option FactId → Asks CxxState (Unit {0})
enter_block function state = do
  answer ← added (block_scope function state) state
  Ok (entered_block (scope_count state.graph) answer)

unfoldable pub leave_block : Asks CxxState (Unit {0})
leave_block state = Ok (tt, at_scope (parent_of state.graph state.here.scope) state)

-- ---- bodies (8.4)

-- 6.6.3: what the function returns whose body is read
abbrev pub with_result : Option CxxType → CxxState → CxxState
with_result of state = record state { here = record state.here { result = of } }

-- a body begins in the scope of the parameters of its function, by its declaration
unfoldable pub begin_body : ℕ → ℕ → CxxType → Asks CxxState (Unit {0})
begin_body list number result state = enter_block (Some (number_id number)) (at_scope list (with_result (Some result) state))

-- behind it the reader stands in a scope again
unfoldable pub end_body : ℕ → Asks CxxState (Unit {0})
end_body scope state = Ok (tt, at_scope scope (with_result None state))

-- ---- conditions (6.4, 6.5.3)

abbrev pub with_tested : Option ℕ → CxxState → CxxState
with_tested number state = record state { tested = number }

abbrev pub within_step : Bool → CxxState → CxxState
within_step inside state = record state { in_step = inside }

-- ---- parameters that are declared

abbrev pub parameter_object : CxxType → Declares
parameter_object of = facts.object of member.Free false None None

unfoldable pub declare_parameter : Option Lexeme → Place → CxxType → Asks CxxState (Unit {0})
declare_parameter name place of state = do
  answer ← declare (fact_here state (name_of name) place (parameter_object of)) (word_of name) state
  Ok (tt, answer.1)

-- ---- enumerations (7.2)

abbrev pub is_enumeration : Declares → Bool
is_enumeration (facts.enumeration n) = true
is_enumeration _ = false

abbrev pub one_more : Bool → ℕ → ℕ
one_more true n = suc n
one_more false n = n

abbrev pub enumeration_count : List CxxFact → ℕ
enumeration_count [] = zero
enumeration_count (fact ∷ others) = one_more (is_enumeration fact.what) (enumeration_count others)

abbrev pub in_enumeration : Option ℕ → CxxState → CxxState
in_enumeration number state = record state { here = record state.here { enumeration = number } }

abbrev pub begun_as : ℕ → ℕ × CxxState → ℕ × CxxState
begun_as number answer = (number, in_enumeration (Some number) answer.1)

unfoldable pub declare_enumeration : Option Lexeme → Place → Asks CxxState ℕ
declare_enumeration name place state = do
  answer ← declare (fact_here state (name_of name) place (facts.enumeration (enumeration_count state.graph.facts))) (word_of name) state
  Ok (begun_as (enumeration_count state.graph.facts) answer)

abbrev pub next_integer : ℤ → ℤ
next_integer (pos n) = pos (suc n)
next_integer (negsuc zero) = pos zero
next_integer (negsuc (suc n)) = negsuc n

-- 7.2: without a value an enumerator has the one after the last, and the first has zero
abbrev pub implicit_value : List ℤ → ℤ
implicit_value [] = pos zero
implicit_value (value ∷ []) = next_integer value
implicit_value (value ∷ next ∷ others) = implicit_value (next ∷ others)

abbrev pub enumerator_value : Option ℤ → List ℤ → ℤ
enumerator_value None values = implicit_value values
enumerator_value (Some value) values = value

abbrev pub held : Place → Bool → Answer (Unit {0})
held place true = Ok tt
held place false = Err (fault place says.ConstantOverflow)

-- 7.2: the conflict, then one type for all values, then the limit
unfoldable pub declare_value : ℕ → Lexeme → ℤ → Asks CxxState (Unit {0})
declare_value number name value state = do
  is_free ← free state (fact_here state (spelled name.spelling) name.place (facts.enumerator number value)) name.spelling
  is_held ← held name.place (one_holds (values_in number state.graph.facts ++ value ∷ []))
  answer ← added (fact_here state (spelled name.spelling) name.place (facts.enumerator number value)) state
  Ok (tt, answer.1)

unfoldable pub declare_enumerator : ℕ → Lexeme → Option ℤ → Asks CxxState (Unit {0})
declare_enumerator number name value state = declare_value number name (enumerator_value value (values_in number state.graph.facts)) state

unfoldable pub end_enumeration : ℕ → Asks CxxState (Unit {0})
end_enumeration number state = Ok (tt, in_enumeration None state)

-- ---- names that are read

-- 3.4
unfoldable pub kind_here : CxxPath → Asks CxxState Kind
kind_here path state = Ok (kind_of_found state.graph (found_of state.graph state.here.scope path), state)

unfoldable pub type_here : CxxPath → Asks CxxState CxxType
type_here path state = Ok (type_in (found_of state.graph state.here.scope path), state)

abbrev pub enumeration_in : List Numbered → Option ℕ
enumeration_in [] = None
enumeration_in (one ∷ others) = by one.fact.what (enumeration_in others)
  where
    by : Declares → Option ℕ → Option ℕ
    by (facts.enumeration n) later = Some n
    by _ later = later

abbrev pub elaborated_by : CxxPathPart → List Numbered → Option ℕ → CxxState → Answer (CxxType × CxxState)
elaborated_by part all (Some n) state = Ok (enumeration n, state)
elaborated_by part [] None state = Err (undeclared_at part.place part.word)
elaborated_by part (one ∷ others) None state = Err (wrong_kind_at part one.fact.place)

abbrev pub elaborated_found : CxxPathPart → Sought → CxxState → Answer (CxxType × CxxState)
elaborated_found part found state = unambiguous state.graph part found >>= λ clear. elaborated_by part (set_in state.graph found) (enumeration_in (set_in state.graph found)) state

-- 3.4.4, 7.1.5.3: behind `enum` stands the name of an enumeration
unfoldable pub elaborated_here : CxxPath → Asks CxxState CxxType
elaborated_here path state = region_of state.graph state.here.scope path >>= λ where_. elaborated_found (last_part path.parts) (sought_in state.graph types_only where_ (name_in path)) state
