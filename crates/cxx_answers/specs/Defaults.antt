-- How default arguments begin and end (8.3.6).
use Rattle.std.specs.Prelude.{ℕ, Bool, true, false, not, if◌then◌else◌, Option, Some, None, Ok, Err}
use Rattle.cxx_model.specs.declared.place.Place.{Place}
use Rattle.cxx_model.specs.declared.types.ClassId.{ClassId}
use Rattle.cxx_model.specs.Facts.Declarations.{CxxGraph}
use Rattle.cxx_model.specs.Facts.Entities.{has_end}
use Rattle.cxx_model.specs.Stops.{◌>>=◌, not_built_at}
use Rattle.cxx_model.specs.Types.Trees.{CxxType}
use Rattle.cxx_meaning.specs.Lookups.Member.{class_of_scope}
use Rattle.cxx_reading.specs.Linked.{scope_id}
use Rattle.cxx_reading.specs.Reads.{Asks}
use Rattle.cxx_reading.specs.Seen.{parent_of}
use Rattle.cxx_reading.specs.State.{CxxState}
use Rattle.cxx_reading.specs.Trees.{CxxTree}
use Rattle.cxx_tree.specs.Defaults.{with_given, with_offer, within_default}
use Rattle.cxx_expr.specs.Converting.{convert}
use Rattle.cxx_answers.specs.Answers.{questions}

-- 8.3.5: whether a list of parameters, in whose scope the reader stands, is that of a function of a class
abbrev pub is_some_class : Option ClassId → Bool
is_some_class None = false
is_some_class (Some class) = true

abbrev pub class_of_list : CxxState → Option ClassId
class_of_list state = class_of_scope state.graph.facts (scope_id (parent_of state.graph state.here.scope))

unfoldable pub is_list_of_class : CxxState → Bool
is_list_of_class state = is_some_class (class_of_list state)

-- 9.2 p2: in one that has not ended they are read where the outermost class has ended
abbrev pub is_class_open : CxxGraph → Option ClassId → Bool
is_class_open graph None = false
is_class_open graph (Some class) = not (has_end class.0 graph.facts)

unfoldable pub is_default_later : Asks CxxState Bool
is_default_later state = Ok (is_class_open state.graph (class_of_list state), state)

-- one that was passed over, of the parameter with an index, is kept for the declaration that it stands in
unfoldable pub offer_default : ℕ → CxxTree → Asks CxxState (Unit {0})
offer_default index tree state = Ok (tt, with_offer index tree state)

-- One begins, at its `=`: whether another one is being read round it. Those of a function of a class that is defined outside of
-- it are not read yet.
unfoldable pub begin_default : Place → Asks CxxState Bool
begin_default equals state = if is_list_of_class state then Err (not_built_at equals) else Ok (state.in_default, within_default true state)

abbrev pub offered_as : Bool → ℕ → CxxTree × CxxState → CxxTree × CxxState
offered_as was index answer = (answer.0, within_default was (with_offer index answer.0 answer.1))

-- one was read, of the parameter with an index and a type: it is converted once, at its `=`, and kept
unfoldable pub end_default : Place → Bool → ℕ → CxxType → CxxTree → Asks CxxState CxxTree
end_default equals was index of tree state = do
  answer ← convert questions equals of tree state
  Ok (offered_as was index answer)

-- ---- one that was passed over

-- it begins to be read
unfoldable pub begin_later : Asks CxxState (Unit {0})
begin_later state = Ok (tt, within_default true state)

abbrev pub given_to : Option ℕ → ℕ → CxxTree → CxxState → CxxState
given_to None index tree state = state
given_to (Some number) index tree state = with_given number index tree state

abbrev pub kept_as : Option ℕ → ℕ → CxxTree × CxxState → Unit {0} × CxxState
kept_as number index answer = (tt, given_to number index answer.0 (within_default false answer.1))

-- it was read, of the parameter with an index and a type: it is converted, and given by the declaration with a number
unfoldable pub end_later : Place → Option ℕ → ℕ → CxxType → CxxTree → Asks CxxState (Unit {0})
end_later equals number index of tree state = do
  answer ← convert questions equals of tree state
  Ok (kept_as number index answer)
