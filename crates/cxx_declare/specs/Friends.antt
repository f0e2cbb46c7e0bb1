-- Friends of a class (11.4): functions and classes. Where their names have no qualifiers they are members of the innermost
-- namespace round the class (7.3.1.2 p3).
use Rattle.std.specs.Prelude.{ℕ, Bool, true, false, nat_eq, ◌||◌, not, if◌then◌else◌, List, [], ◌∷◌, Option, Some, None, Ok, Err}
use Rattle.std.specs.List.{slice_get}
use Rattle.cxx_model.specs.declared.lookup.Found.{Found as Sought}
use Rattle.cxx_model.specs.declared.lookup.Found.TheVariants as sought
use Rattle.cxx_model.specs.declared.place.Place.{Place}
use Rattle.cxx_model.specs.declared.types.ClassId.{ClassId}
use Rattle.cxx_model.specs.declared.types.Cv.{Cv}
use Rattle.cxx_model.specs.Facts.Declarations as facts
use Rattle.cxx_model.specs.Facts.Declarations.{CxxFact, CxxGraph, Declares, spelled, unnamed}
use Rattle.cxx_model.specs.Stops.{Answer, ◌>>=◌, undeclared_at}
use Rattle.cxx_model.specs.Text.Lexemes.{Lexeme}
use Rattle.cxx_model.specs.Types.Trees.{CxxType}
use Rattle.cxx_meaning.specs.Lookups.Wanted.{types_only}
use Rattle.cxx_reading.specs.Classes.{ClassNamed, class_count, class_fact, first_class, is_of_key, reserved}
use Rattle.cxx_reading.specs.Declaring.{added, at_scope, class_of_here, fact_here, free, number_id}
use Rattle.cxx_reading.specs.Linked.{home_of}
use Rattle.cxx_reading.specs.Paths.{name_in, place_of_fact, region_of, sought_in, unambiguous, wrong_kind_at}
use Rattle.cxx_reading.specs.Reads.{Asks}
use Rattle.cxx_reading.specs.Seen.{Numbered, declared_in, set_in}
use Rattle.cxx_reading.specs.State.{CxxState}
use Rattle.cxx_reading.specs.Trees.{CxxPath, CxxPathPart, is_plain_path, last_part}
use Rattle.cxx_declare.specs.Functions.{declare_unread}
use Rattle.cxx_declare.specs.Made.{told_added}
use Rattle.cxx_declare.specs.Outside.{declare_again}

-- ---- what is befriended is noted in the class

abbrev pub friend_fact : CxxState → Place → ClassId → ℕ → CxxFact
friend_fact state place class target = fact_here state unnamed place (facts.friend class (number_id target))

abbrev pub befriend_by : Place → ℕ → Option ClassId → Asks CxxState (Unit {0})
befriend_by place target None state = Ok (tt, state)
befriend_by place target (Some class) state = told_added (friend_fact state place class target) state

-- by the class in whose scope the reader stands: the declaration with a number
unfoldable pub befriend : Place → ℕ → Asks CxxState (Unit {0})
befriend place target state = befriend_by place target (class_of_here state) state

abbrev pub numbered_as : ℕ → Unit {0} × CxxState → ℕ × CxxState
numbered_as number one = (number, one.1)

-- the reader stands in the scope of the class again
abbrev pub befriended : ℕ → Place → ℕ × CxxState → Answer (ℕ × CxxState)
befriended scope place one = befriend place one.0 (at_scope scope one.1) >>= λ noted. Ok (numbered_as one.0 noted)

-- ---- functions

-- 7.3.1.2 p3: A function whose name has no qualifiers is one of the innermost namespace, where it is declared. No default
-- argument is given to it there.
unfoldable pub befriend_function : ℕ → Option ℕ → Lexeme → CxxType → Asks CxxState ℕ
befriend_function scope list name of state = declare_unread list name of (at_scope (home_of state.graph state.here.scope) state) >>= befriended scope name.place

-- 8.3, 11.4: a function whose name has qualifiers is declared again where its declarator stands
unfoldable pub befriend_again : ℕ → Lexeme → Cv → CxxType → Asks CxxState ℕ
befriend_again scope name cv of state = declare_again name cv of state >>= befriended scope name.place

-- ---- classes

abbrev pub first_number : List Numbered → Option ℕ
first_number [] = None
first_number (one ∷ others) = Some one.number

-- whether a declaration stands within a namespace itself
abbrev pub stands_within : CxxGraph → ℕ → Option CxxFact → Bool
stands_within graph home None = false
stands_within graph home (Some fact) = nat_eq (home_of graph fact.scope) home

-- 7.3.3: whether a using-declaration brings a declaration
abbrev pub brings : ℕ → Declares → Bool
brings number (facts.using target) = nat_eq target.0 number
brings number _ = false

abbrev pub any_brings : ℕ → List Numbered → Bool
any_brings number [] = false
any_brings number (one ∷ others) = brings number one.fact.what || any_brings number others

-- what is found is declared within the innermost namespace, or brought there
abbrev pub is_within : CxxGraph → ℕ → List ℕ → Option ℕ → Bool
is_within graph home word None = false
is_within graph home word (Some number) = stands_within graph home (slice_get graph.facts number) || any_brings number (declared_in graph home (spelled word))

-- 7.3.1.2 p3: whether the lookup may find it: a member of a class, or what is within the innermost namespace
abbrev pub is_near : CxxGraph → ℕ → List ℕ → Sought → Bool
is_near graph home word (sought.Member class of) = true
is_near graph home word found = is_within graph home word (first_number (set_in graph found))

-- the declaration with a number, which is of a class that may be named by this key (7.1.5.3)
abbrev pub befriended_as : CxxPathPart → Place → Bool → ℕ → Option ClassNamed → Asks CxxState ℕ
befriended_as part other is_union number None state = Err (wrong_kind_at part other)
befriended_as part other is_union number (Some class) state = if is_of_key class.is_union is_union then Ok (number, state) else Err (wrong_kind_at part other)

abbrev pub befriended_by : CxxPathPart → Bool → Option ClassNamed → Option ℕ → Asks CxxState ℕ
befriended_by part is_union named None state = Err (undeclared_at part.place part.word)
befriended_by part is_union named (Some number) state = befriended_as part (place_of_fact state.graph number) is_union number named state

abbrev pub befriended_all : CxxPathPart → Bool → List Numbered → Asks CxxState ℕ
befriended_all part is_union all state = befriended_by part is_union (first_class all) (first_number all) state

-- 11.4 p9, 7.3.1.2 p3: a class that is declared nowhere is declared by its friend declaration
abbrev pub befriend_new : CxxPathPart → Bool → ℕ → Asks CxxState ℕ
befriend_new part is_union home state = do
  is_free ← free state (class_fact home part (class_count state.graph) is_union) part.word
  answer ← reserved state
  added (class_fact home part (class_count state.graph) is_union) answer.1

abbrev pub declares_class : Declares → Bool
declares_class (facts.class class is_union) = true
declares_class _ = false

-- the first of some declarations that declares a class
abbrev pub class_number : List Numbered → Option ℕ
class_number [] = None
class_number (one ∷ others) = if declares_class one.fact.what then Some one.number else class_number others

abbrev pub befriend_there : CxxPathPart → Bool → ℕ → Option ClassNamed → Option ℕ → Asks CxxState ℕ
befriend_there part is_union home named None state = befriend_new part is_union home state
befriend_there part is_union home named (Some number) state = befriended_by part is_union named (Some number) state

abbrev pub befriend_declared : CxxPathPart → Bool → ℕ → List Numbered → Asks CxxState ℕ
befriend_declared part is_union home all state = befriend_there part is_union home (first_class all) (class_number all) state

-- the class of the innermost namespace, also where nothing but a friend declaration declares it
abbrev pub befriend_home : CxxPathPart → Bool → ℕ → Asks CxxState ℕ
befriend_home part is_union home state = befriend_declared part is_union home (declared_in state.graph home (spelled part.word)) state

abbrev pub befriend_set : CxxPathPart → Bool → Bool → Sought → Asks CxxState ℕ
befriend_set part is_union is_plain found state =
    if not is_plain || is_near state.graph (home_of state.graph state.here.scope) part.word found then befriended_all part is_union (set_in state.graph found) state else
    befriend_home part is_union (home_of state.graph state.here.scope) state

abbrev pub befriend_found : CxxPath → Bool → Sought → Asks CxxState ℕ
befriend_found path is_union found state = unambiguous state.graph (last_part path.parts) found >>= λ clear. befriend_set (last_part path.parts) is_union (is_plain_path path) found state

-- 3.4.4: the declaration of the class that a name behind its key means
unfoldable pub befriend_named : CxxPath → Bool → Asks CxxState ℕ
befriend_named path is_union state = region_of state.graph state.here.scope path >>= λ where_. befriend_found path is_union (sought_in state.graph types_only where_ (name_in path)) state

-- 11.4: a class is a friend
unfoldable pub befriend_class : Bool → CxxPath → Asks CxxState (Unit {0})
befriend_class is_union path state = befriend_named path is_union state >>= λ one. befriend (last_part path.parts).place one.0 one.1
