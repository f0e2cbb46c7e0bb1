-- How a class is defined (clause 9): it begins, its members are declared one after another, and it ends.
use Rattle.std.specs.Prelude.{ℕ, zero, Bool, true, false, not, ◌&&◌, List, [], ◌∷◌, length, Option, Some, None, Ok}
use Rattle.cxx_model.specs.declared.facts.Access.TheVariants.{Public}
use Rattle.cxx_model.specs.declared.facts.FunctionFlags.{FunctionFlags}
use Rattle.cxx_model.specs.declared.facts.MemberKind.{MemberKind}
use Rattle.cxx_model.specs.declared.facts.MemberKind.TheVariants as member
use Rattle.cxx_model.specs.declared.facts.ScopeKind.TheVariants as scope_kind
use Rattle.cxx_model.specs.declared.place.Place.{Place}
use Rattle.cxx_model.specs.Facts.Declarations as facts
use Rattle.cxx_model.specs.Facts.Declarations.{CxxFact, Declares, spelled, unnamed}
use Rattle.cxx_model.specs.Stops.{◌>>=◌}
use Rattle.cxx_model.specs.Text.Lexemes.{Lexeme}
use Rattle.cxx_model.specs.Types.Trees.{CxxType}
use Rattle.cxx_declare.specs.declared.class_definitions.MemberWords.{MemberWords}
use Rattle.cxx_declare.specs.Functions.{defaults_by, offered_by}
use Rattle.cxx_implicit.specs.Members.{implicit_members}
use Rattle.cxx_reading.specs.Classes.{ClassNamed, class_count, class_fact, class_id, first_class, reserved}
use Rattle.cxx_reading.specs.Declarators.{is_function_type}
use Rattle.cxx_reading.specs.Declaring.{added, at_scope, declare, free, no_flags, scope_count, undefined, with_definition}
use Rattle.cxx_reading.specs.Linked.{scope_id}
use Rattle.cxx_reading.specs.Reads.{Asks}
use Rattle.cxx_reading.specs.Seen.{declared_in, parent_of}
use Rattle.cxx_reading.specs.State.{CxxState}
use Rattle.cxx_reading.specs.Trees.{CxxPathPart}

-- ---- it begins

-- the name of a class, as the last part of a path
abbrev pub part_of_name : Lexeme → CxxPathPart
part_of_name name = record { word = name.spelling; place = name.place; arguments = None }

-- its declaration, where the reader stands
abbrev pub class_here : CxxState → Lexeme → ℕ → Bool → CxxFact
class_here state name n is_union = class_fact state.here.scope (part_of_name name) n is_union

-- 3.3.6: its scope, in the one where the reader stands
abbrev pub class_scope : CxxState → Place → ℕ → CxxFact
class_scope state place n = record { place = place; scope = state.here.scope; name = unnamed; access = Public; what = facts.scope (Some (scope_id state.here.scope)) (scope_kind.Class (class_id n)) }

-- 9: its name in its own scope
abbrev pub injected_name : ℕ → Lexeme → ℕ → CxxFact
injected_name scope name n = record { place = name.place; scope = scope; name = spelled name.spelling; access = Public; what = facts.injected (class_id n) }

abbrev pub begun_as : ℕ → ℕ → ℕ × CxxState → ℕ × CxxState
begun_as n scope answer = (n, at_scope scope answer.1)

-- 9.2: its scope begins, with its name in it; the reader stands there then
unfoldable pub enter_class : Lexeme → ℕ → Asks CxxState ℕ
enter_class name n state = do
  opened ← added (class_scope state name.place n) state
  named ← added (injected_name (scope_count state.graph) name n) opened.1
  Ok (begun_as n (scope_count state.graph) named)

-- behind its declaration, which is a definition (3.2)
abbrev pub class_declared : Lexeme → ℕ → Asks CxxState ℕ → Asks CxxState ℕ
class_declared name n declared state = declared state >>= λ answer. enter_class name n (with_definition answer.0 answer.1)

-- 9.1, 3.2: a class that a declaration of this scope declares already; what conflicts comes first, then another definition,
-- then the limit
unfoldable pub define_again : Lexeme → Bool → ℕ → Asks CxxState ℕ
define_again name is_union n state = do
  is_free ← free state (class_here state name n is_union) name.spelling
  is_first ← undefined state name.place name.spelling (length state.graph.facts) (facts.class (class_id n) is_union)
  class_declared name n (added (class_here state name n is_union)) state

unfoldable pub define_new : Lexeme → Bool → Asks CxxState ℕ
define_new name is_union state = do
  is_free ← free state (class_here state name (class_count state.graph) is_union) name.spelling
  answer ← reserved state
  class_declared name (class_count state.graph) (added (class_here state name (class_count state.graph) is_union)) answer.1

abbrev pub define_by : Lexeme → Bool → Option ClassNamed → Asks CxxState ℕ
define_by name is_union (Some one) = define_again name is_union one.number
define_by name is_union None = define_new name is_union

-- 9, 3.3.1: The definition of a class begins: it answers its number. A name that declares a class in this scope already
-- means that class.
unfoldable pub begin_class : Bool → Lexeme → Asks CxxState ℕ
begin_class is_union name state = define_by name is_union (first_class (declared_in state.graph state.here.scope (spelled name.spelling))) state

-- ---- it begins without a name

abbrev pub unnamed_here : CxxState → Place → ℕ → Bool → CxxFact
unnamed_here state place n is_union = record { place = place; scope = state.here.scope; name = unnamed; access = Public; what = facts.class (class_id n) is_union }

-- its scope has no name of its own
unfoldable pub enter_unnamed : Place → ℕ → Asks CxxState ℕ
enter_unnamed place n state = do
  opened ← added (class_scope state place n) state
  Ok (begun_as n (scope_count state.graph) opened)

-- 9: The definition of a class without a name begins, at its key: a new class, whose number it answers.
unfoldable pub begin_unnamed : Bool → Place → Asks CxxState ℕ
begin_unnamed is_union place state = do
  answer ← reserved state
  declared ← added (unnamed_here state place (class_count state.graph) is_union) answer.1
  enter_unnamed place (class_count state.graph) (with_definition declared.0 declared.1)

-- ---- its members

abbrev pub member_kind : Bool → MemberKind
member_kind true = member.Static
member_kind false = member.Nonstatic

-- 10.3, 10.4: what belongs to no object is not virtual
abbrev pub flags_of : MemberWords → FunctionFlags
flags_of words = record no_flags { is_virtual = words.is_virtual && not words.is_static; is_pure = words.is_pure && not words.is_static }

-- 9.2, 9.3: a function, where it is one, or else a data member
abbrev pub member_by : Bool → MemberWords → CxxType → ℕ → Declares
member_by true words of defaults = facts.function of (member_kind words.is_static) (flags_of words) defaults None
member_by false words of defaults = facts.object of (member_kind words.is_static) words.is_mutable None None

abbrev pub member_what : MemberWords → CxxType → ℕ → Declares
member_what words of defaults = member_by (is_function_type of) words of defaults

-- 8.3.6: how many of the last parameters have a default argument, of those that stand in the list of a declarator
abbrev pub member_defaults : CxxState → Option ℕ → CxxType → ℕ
member_defaults state list of = defaults_by state of None (offered_by list state.offered)

-- 9.2, 9.4: a member, with what the words before it say
abbrev pub member_here : CxxState → MemberWords → Lexeme → CxxType → ℕ → CxxFact
member_here state words name of defaults = record { place = name.place; scope = state.here.scope; name = spelled name.spelling; access = words.access; what = member_what words of defaults }

-- whose declarator has a list of parameters with that scope, or none of its own
unfoldable pub declare_member : MemberWords → Option ℕ → Lexeme → CxxType → Asks CxxState ℕ
declare_member words list name of state = declare (member_here state words name of (member_defaults state list of)) name.spelling state

-- ---- it ends

-- facts one after another
unfoldable pub added_each : List CxxFact → Asks CxxState (Unit {0})
added_each [] state = Ok (tt, state)
added_each (fact ∷ others) state = added fact state >>= λ answer. added_each others answer.1

-- 9.2: the end of a class, at its name
abbrev pub class_end : CxxState → Place → ℕ → CxxFact
class_end state place n = record { place = place; scope = state.here.scope; name = unnamed; access = Public; what = facts.complete (class_id n) }

abbrev pub ended_as : ℕ × CxxState → Unit {0} × CxxState
ended_as answer = (tt, at_scope (parent_of answer.1.graph answer.1.here.scope) answer.1)

-- 9.2, 12.1, 12.8: at its end a class declares by itself what it has not declared; then it is complete, and the reader
-- stands in the scope that holds it
unfoldable pub end_class : ℕ → Place → Asks CxxState (Unit {0})
end_class n place state = do
  implied ← added_each (implicit_members state.graph n state.here.scope place) state
  answer ← added (class_end implied.1 place n) implied.1
  Ok (ended_as answer)
