-- How functions are declared, with the default arguments that their declarations give (8.3.5, 8.3.6).
use Rattle.std.specs.Prelude.{ℕ, zero, suc, Bool, true, false, not, ◌||◌, nat_eq, if◌then◌else◌, List, [], ◌∷◌, length, Option, Some, None, Ok, Err}
use Rattle.cxx_model.specs.declared.facts.MemberKind.TheVariants as member
use Rattle.cxx_model.specs.declared.place.Place.{Place}
use Rattle.cxx_model.specs.declared.types.FactId.{FactId}
use Rattle.cxx_model.specs.Facts.Declarations as facts
use Rattle.cxx_model.specs.Facts.Declarations.{CxxFact, Declares, spelled}
use Rattle.cxx_model.specs.Stops.{Answer, ◌>>=◌}
use Rattle.cxx_model.specs.Text.Lexemes.{Lexeme}
use Rattle.cxx_model.specs.Types.Trees.{CxxType, function_of}
use Rattle.cxx_reading.specs.Choosing.{each_type}
use Rattle.cxx_reading.specs.Declaring.{added, conflicting_at, fact_here, first_member_function, free, free_linked, home_here, linked_as, no_flags}
use Rattle.cxx_reading.specs.Paths.{place_of_fact}
use Rattle.cxx_reading.specs.Linked.{is_space_at}
use Rattle.cxx_reading.specs.Reads.{Asks}
use Rattle.cxx_reading.specs.State.{CxxGiven, CxxOffered, CxxState}
use Rattle.cxx_tree.specs.Defaults.{first_given, with_given, without_offers}

-- ---- what was read

-- the default arguments that were read in the list with a scope
abbrev pub offered_in : ℕ → List CxxOffered → List CxxOffered
offered_in scope [] = []
offered_in scope (one ∷ others) = if nat_eq one.scope scope then one ∷ offered_in scope others else offered_in scope others

-- those of the list of parameters that a declarator of a function has; without one it gives none
abbrev pub offered_by : Option ℕ → List CxxOffered → List CxxOffered
offered_by None all = []
offered_by (Some scope) all = offered_in scope all

-- ---- each once

-- where an earlier declaration gives it already
abbrev pub not_given_by : CxxState → Place → List ℕ → Option CxxGiven → Answer (Unit {0})
not_given_by state place word None = Ok tt
not_given_by state place word (Some given) = Err (conflicting_at place word (place_of_fact state.graph given.declaration))

-- the one that an earlier declaration of the same scope gives to a parameter of a function with a first declaration
abbrev pub given_before : CxxState → Option FactId → ℕ → Option CxxGiven
given_before state None index = None
given_before state (Some first) index = first_given state.graph.facts state.here.scope first.0 index state.given

-- 8.3.6: none is given twice, not even with the same value
abbrev pub not_given : CxxState → Place → List ℕ → Option FactId → List CxxOffered → Answer (Unit {0})
not_given state place word first [] = Ok tt
not_given state place word first (one ∷ others) = not_given_by state place word (given_before state first one.index) >>= λ is_fresh. not_given state place word first others

-- ---- how many of the last parameters have one

abbrev pub is_some_given : Option CxxGiven → Bool
is_some_given None = false
is_some_given (Some given) = true

abbrev pub is_offered : ℕ → List CxxOffered → Bool
is_offered index [] = false
is_offered index (one ∷ others) = nat_eq one.index index || is_offered index others

-- whether a parameter has one, of those that were read and those of earlier declarations
abbrev pub has_default : CxxState → Option FactId → List CxxOffered → ℕ → Bool
has_default state first offers index = is_offered index offers || is_some_given (given_before state first index)

-- how many of so many, from the last on, up to the first that has none
abbrev pub last_run : (ℕ → Bool) → ℕ → ℕ
last_run has zero = zero
last_run has (suc index) = if has index then suc (last_run has index) else zero

abbrev pub parameter_count : CxxType → ℕ
parameter_count (function_of result parameters ellipsis cv) = length (each_type parameters)
parameter_count _ = zero

-- 8.3.6: a call may leave out the last parameters alone
abbrev pub defaults_by : CxxState → CxxType → Option FactId → List CxxOffered → ℕ
defaults_by state of first offers = last_run (has_default state first offers) (parameter_count of)

-- ---- the declaration

abbrev pub function_with : CxxType → ℕ → Option FactId → Declares
function_with of defaults first = facts.function of member.Free no_flags defaults first

abbrev pub function_by : CxxState → Lexeme → CxxType → Option FactId → List CxxOffered → CxxFact
function_by state name of first offers = fact_here state (spelled name.spelling) name.place (function_with of (defaults_by state of first offers) first)

-- a declaration gives what was read
abbrev pub with_all_given : ℕ → List CxxOffered → CxxState → CxxState
with_all_given number [] state = state
with_all_given number (one ∷ others) state = with_all_given number others (with_given number one.index one.tree state)

abbrev pub given_as : List CxxOffered → ℕ × CxxState → ℕ × CxxState
given_as offers answer = (answer.0, without_offers (with_all_given answer.0 offers answer.1))

-- in a block it is linked (3.5)
abbrev pub linked_if : Bool → ℕ × CxxState → ℕ × CxxState
linked_if true answer = linked_as answer
linked_if false answer = answer

abbrev pub free_if : Bool → CxxState → CxxFact → List ℕ → Answer (Unit {0})
free_if true state fact word = free_linked state fact word
free_if false state fact word = free state fact word

-- with these default arguments, of a function with this first declaration or of a new one
abbrev pub declare_with : Bool → Lexeme → CxxType → Option FactId → List CxxOffered → Asks CxxState ℕ
declare_with linked name of first offers state = do
  is_free ← free_if linked state (function_by state name of first offers) name.spelling
  is_fresh ← not_given state name.place name.spelling first offers
  answer ← added (function_by state name of first offers) state
  Ok (linked_if linked (given_as offers answer))

-- 3.5: where the reader stands in a block, a function is linked
abbrev pub is_linked_here : CxxState → Bool
is_linked_here state = not (is_space_at state.graph state.here.scope)

-- 8.3.5: a function, whose declarator has a list of parameters with that scope, or none of its own
unfoldable pub declare_function : Option ℕ → Lexeme → CxxType → Asks CxxState ℕ
declare_function list name of state =
    declare_with (is_linked_here state) name of (first_member_function state (home_here state) (spelled name.spelling) of) (offered_by list state.offered) state

-- ---- friends (11.4)

-- with no default argument of its own: neither linked, nor given what was read
abbrev pub declare_unread_with : Lexeme → CxxType → Option FactId → List CxxOffered → Asks CxxState ℕ
declare_unread_with name of first offers state = do
  is_free ← free_if false state (function_by state name of first offers) name.spelling
  is_fresh ← not_given state name.place name.spelling first offers
  added (function_by state name of first offers) state

-- a function of the namespace where the reader stands, the default arguments of which are read later (9.2 p2)
unfoldable pub declare_unread : Option ℕ → Lexeme → CxxType → Asks CxxState ℕ
declare_unread list name of state = declare_unread_with name of (first_member_function state (home_here state) (spelled name.spelling) of) (offered_by list state.offered) state
