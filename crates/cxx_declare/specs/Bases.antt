-- The bases of a class (clause 10).
use Rattle.std.specs.Prelude.{ℕ, Bool, if◌then◌else◌, List, [], ◌∷◌, Option, Some, None, Ok, Err}
use Rattle.cxx_model.specs.declared.facts.Access.{Access}
use Rattle.cxx_model.specs.declared.fault.FaultText.TheVariants as says
use Rattle.cxx_model.specs.declared.lookup.Found.{Found as Sought}
use Rattle.cxx_model.specs.declared.place.Place.{Place}
use Rattle.cxx_model.specs.Facts.Declarations as facts
use Rattle.cxx_model.specs.Facts.Declarations.{CxxFact, CxxGraph, unnamed}
use Rattle.cxx_model.specs.Facts.Entities.{has_end}
use Rattle.cxx_model.specs.Stops.{Answer, ◌>>=◌, fault, undeclared_at}
use Rattle.cxx_model.specs.Types.Trees.{CxxType, class_type, qualified}
use Rattle.cxx_meaning.specs.Lookups.Wanted.{types_only}
use Rattle.cxx_reading.specs.Classes.{class_id}
use Rattle.cxx_reading.specs.Declaring.{added}
use Rattle.cxx_reading.specs.Paths.{name_in, region_of, sought_in, unambiguous, wrong_kind_at}
use Rattle.cxx_reading.specs.Reads.{Asks}
use Rattle.cxx_reading.specs.Seen.{Numbered, set_in, type_in}
use Rattle.cxx_reading.specs.State.{CxxState}
use Rattle.cxx_reading.specs.Trees.{CxxPath, CxxPathPart, last_part}

-- ---- what a name means as that of a base

-- the class that a type is; the cv words of a synonym say nothing (7.1.3)
abbrev pub class_under : CxxType → Option ℕ
class_under (class_type n) = Some n
class_under (qualified cv of) = class_under of
class_under _ = None

abbrev pub base_by : CxxPathPart → List Numbered → Option ℕ → CxxState → Answer (ℕ × CxxState)
base_by part all (Some n) state = Ok (n, state)
base_by part [] None state = Err (undeclared_at part.place part.word)
base_by part (one ∷ others) None state = Err (wrong_kind_at part one.fact.place)

abbrev pub base_among : CxxPathPart → List Numbered → CxxState → Answer (ℕ × CxxState)
base_among part all state = base_by part all (class_under (type_in all)) state

abbrev pub base_found : CxxPathPart → Sought → CxxState → Answer (ℕ × CxxState)
base_found part found state = unambiguous state.graph part found >>= λ clear. base_among part (set_in state.graph found) state

-- 10 p2: The class that a name means, where names of types alone are looked up.
unfoldable pub base_named : CxxPath → Asks CxxState ℕ
base_named path state = region_of state.graph state.here.scope path >>= λ where_. base_found (last_part path.parts) (sought_in state.graph types_only where_ (name_in path)) state

-- ---- it is declared

-- where a base is declared: in the scope of a class, as the one with a position from 1, with an access (11.2)
pub record BaseOf : Type 0 where
  pub scope : ℕ
  pub class : ℕ
  pub position : ℕ
  pub access : Access

abbrev pub base_fact : BaseOf → Place → ℕ → CxxFact
base_fact of place n = record { place = place; scope = of.scope; name = unnamed; access = of.access; what = facts.ancestor (class_id of.class) (class_id n) of.position of.access }

-- 10: the end of a base was read
unfoldable pub declare_known : BaseOf → Place → ℕ → Asks CxxState (Unit {0})
declare_known of place n state =
    if has_end n state.graph.facts then (added (base_fact of place n) state >>= λ answer. Ok (tt, answer.1)) else
    Err (fault place says.IncompleteClass)

-- 10: A name stands for a base of a class.
unfoldable pub declare_base : BaseOf → CxxPath → Asks CxxState (Unit {0})
declare_base of path state = base_named path state >>= λ base. declare_known of (last_part path.parts).place base.0 base.1
