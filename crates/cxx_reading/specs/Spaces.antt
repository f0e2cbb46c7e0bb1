-- Namespaces (7.3.1), their other names (7.3.2) and using-directives (7.3.4).
use Rattle.std.specs.Prelude.{ℕ, Bool, false, not, ◌&&◌, nat_eq, if◌then◌else◌, List, [], ◌∷◌, Option, Some, None, Ok, Err}
use Rattle.cxx_model.specs.declared.facts.ScopeKind.TheVariants as scope_kind
use Rattle.cxx_model.specs.declared.lookup.Found.{Found as Sought}
use Rattle.cxx_model.specs.declared.place.Place.{Place}
use Rattle.cxx_model.specs.Facts.Conflicts.{has_name, same_name}
use Rattle.cxx_model.specs.Facts.Declarations as facts
use Rattle.cxx_model.specs.Facts.Declarations.{CxxFact, CxxGraph, CxxName, unnamed, spelled}
use Rattle.cxx_model.specs.Stops.{Answer, ◌>>=◌, undeclared_at}
use Rattle.cxx_model.specs.Text.Lexemes.{Lexeme}
use Rattle.cxx_meaning.specs.Lookups.Wanted.{namespaces_only}
use Rattle.cxx_reading.specs.Declaring.{added, at_scope, declare, fact_here, free, scope_count}
use Rattle.cxx_reading.specs.Linked.{scope_id}
use Rattle.cxx_reading.specs.Paths.{unambiguous, first_space, name_in, or_later, sought_in, space_in, space_region_of}
use Rattle.cxx_reading.specs.Reads.{Asks}
use Rattle.cxx_reading.specs.Seen.{Numbered, declared_in, parent_of, set_in}
use Rattle.cxx_reading.specs.State.{CxxState}
use Rattle.cxx_reading.specs.Trees.{CxxPath, CxxPathPart, last_part}

-- ---- which namespace is opened again

abbrev pub is_number : ℕ → Option ℕ → Bool
is_number n None = false
is_number n (Some m) = nat_eq m n

-- the first declaration of a namespace, by its scope
abbrev pub first_opening : ℕ → List CxxFact → Option CxxFact
first_opening inner [] = None
first_opening inner (fact ∷ others) = if is_number inner (space_in fact.what) then Some fact else first_opening inner others

abbrev pub is_original_by : ℕ → CxxName → Option CxxFact → Bool
is_original_by scope name None = false
is_original_by scope name (Some first) = nat_eq first.scope scope && same_name first.name name

abbrev pub original_by : CxxGraph → ℕ → CxxName → Option ℕ → Option ℕ → Option ℕ
original_by graph scope name None later = later
original_by graph scope name (Some inner) later = if is_original_by scope name (first_opening inner graph.facts) then Some inner else later

abbrev pub opened_among : CxxGraph → ℕ → CxxName → List Numbered → Option ℕ
opened_among graph scope name [] = None
opened_among graph scope name (one ∷ others) = original_by graph scope name (space_in one.fact.what) (opened_among graph scope name others)

-- 7.3.1: the namespace that has a name in a scope as its own, not as another one (7.3.2)
unfoldable pub opened_before : CxxGraph → ℕ → CxxName → Option ℕ
opened_before graph scope name = opened_among graph scope name (declared_in graph scope name)

abbrev pub unnamed_by : ℕ → CxxFact → Option ℕ → Option ℕ
unnamed_by scope fact later = if nat_eq fact.scope scope && not (has_name fact.name) then or_later (space_in fact.what) later else later

abbrev pub unnamed_among : ℕ → List CxxFact → Option ℕ
unnamed_among scope [] = None
unnamed_among scope (fact ∷ others) = unnamed_by scope fact (unnamed_among scope others)

-- 7.3.1.1: the unnamed namespace of a scope
unfoldable pub unnamed_before : CxxGraph → ℕ → Option ℕ
unnamed_before graph scope = unnamed_among scope graph.facts

-- ---- declarations

-- a declaration of a namespace, by its scope
abbrev pub space_fact : CxxState → CxxName → Place → ℕ → CxxFact
space_fact state name place inner = fact_here state name place (facts.namespace (scope_id inner))

abbrev pub directive_fact : CxxState → Place → ℕ → CxxFact
directive_fact state place inner = fact_here state unnamed place (facts.directive (scope_id inner))

-- the scope of a new namespace, where the reader stands
abbrev pub new_space : CxxState → Place → CxxFact
new_space state place = fact_here state unnamed place (facts.scope (Some (scope_id state.here.scope)) scope_kind.Space)

-- the reader stands in a scope then
abbrev pub within : ℕ → ℕ × CxxState → Unit {0} × CxxState
within scope answer = (tt, at_scope scope answer.1)

-- 7.3.1: it is opened again
unfoldable pub open_again : Lexeme → ℕ → Asks CxxState (Unit {0})
open_again name inner state = do
  is_free ← free state (space_fact state (spelled name.spelling) name.place inner) name.spelling
  answer ← added (space_fact state (spelled name.spelling) name.place inner) state
  Ok (within inner answer)

unfoldable pub open_new : Lexeme → Asks CxxState (Unit {0})
open_new name state = do
  is_free ← free state (space_fact state (spelled name.spelling) name.place (scope_count state.graph)) name.spelling
  opened ← added (new_space state name.place) state
  answer ← added (space_fact state (spelled name.spelling) name.place (scope_count state.graph)) opened.1
  Ok (within (scope_count state.graph) answer)

abbrev pub open_by : Lexeme → Option ℕ → Asks CxxState (Unit {0})
open_by name None = open_new name
open_by name (Some inner) = open_again name inner

-- 7.3.1: a namespace begins, at its name; the reader stands in it then
unfoldable pub open_space : Lexeme → Asks CxxState (Unit {0})
open_space name state = open_by name (opened_before state.graph state.here.scope (spelled name.spelling)) state

-- 7.3.1.1: an unnamed one is declared with a directive that nominates it
unfoldable pub declare_unnamed : Place → ℕ → Asks CxxState (Unit {0})
declare_unnamed place inner state = do
  named ← added (space_fact state unnamed place inner) state
  nominated ← added (directive_fact state place inner) named.1
  Ok (within inner nominated)

unfoldable pub new_unnamed : Place → Asks CxxState (Unit {0})
new_unnamed place state = do
  opened ← added (new_space state place) state
  declare_unnamed place (scope_count state.graph) opened.1

abbrev pub unnamed_opened : Place → Option ℕ → Asks CxxState (Unit {0})
unnamed_opened place None = new_unnamed place
unnamed_opened place (Some inner) = declare_unnamed place inner

-- an unnamed namespace begins, at the word `namespace`
unfoldable pub open_unnamed : Place → Asks CxxState (Unit {0})
open_unnamed place state = unnamed_opened place (unnamed_before state.graph state.here.scope) state

-- the end of a namespace: the reader stands in what holds it
unfoldable pub close_space : Asks CxxState (Unit {0})
close_space state = Ok (tt, at_scope (parent_of state.graph state.here.scope) state)

abbrev pub told : ℕ × CxxState → Unit {0} × CxxState
told answer = (tt, answer.1)

-- 7.3.2: another name of a namespace
unfoldable pub declare_alias : Lexeme → ℕ → Asks CxxState (Unit {0})
declare_alias name inner state = do
  answer ← declare (space_fact state (spelled name.spelling) name.place inner) name.spelling state
  Ok (told answer)

-- 7.3.4
unfoldable pub declare_directive : Place → ℕ → Asks CxxState (Unit {0})
declare_directive place inner state = do
  answer ← added (directive_fact state place inner) state
  Ok (told answer)

-- ---- names of namespaces (3.4.6)

abbrev pub space_by : CxxPathPart → Option ℕ → CxxState → Answer (ℕ × CxxState)
space_by part None state = Err (undeclared_at part.place part.word)
space_by part (Some inner) state = Ok (inner, state)

abbrev pub space_found : CxxPathPart → Sought → CxxState → Answer (ℕ × CxxState)
space_found part found state = unambiguous state.graph part found >>= λ clear. space_by part (first_space (set_in state.graph found)) state

-- the namespace that a name means; what is no namespace is passed over
unfoldable pub space_here : CxxPath → Asks CxxState ℕ
space_here path state = space_region_of state.graph state.here.scope path >>= λ where_. space_found (last_part path.parts) (sought_in state.graph namespaces_only where_ (name_in path)) state
