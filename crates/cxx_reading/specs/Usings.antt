-- Using-declarations (7.3.3).
use Rattle.std.specs.Prelude.{if◌then◌else◌, List, [], ◌∷◌, length, Option, Some, None, Ok, Err}
use Rattle.cxx_model.specs.declared.lookup.Found.{Found as Sought}
use Rattle.cxx_model.specs.declared.lookup.Found.TheVariants as sought
use Rattle.cxx_model.specs.declared.types.FactId.{FactId}
use Rattle.cxx_model.specs.Facts.Declarations as facts
use Rattle.cxx_model.specs.Facts.Declarations.{CxxFact, CxxGraph, CxxName, spelled}
use Rattle.cxx_model.specs.Stops.{◌>>=◌, undeclared_at}
use Rattle.cxx_meaning.specs.Lookups.Qualified.{brought}
use Rattle.cxx_meaning.specs.Lookups.Wanted.{names_space}
use Rattle.cxx_reading.specs.declared.region.Region.{Region}
use Rattle.cxx_reading.specs.declared.region.Region.TheVariants as region
use Rattle.cxx_reading.specs.Declaring.{declare, fact_here}
use Rattle.cxx_reading.specs.Paths.{ambiguous_at, name_in, using_region_of, wrong_kind_at}
use Rattle.cxx_reading.specs.Reads.{Asks}
use Rattle.cxx_reading.specs.Seen.{Numbered, fact_numbers, found_or_none, numbered_at}
use Rattle.cxx_reading.specs.State.{CxxState}
use Rattle.cxx_reading.specs.Trees.{CxxPath, CxxPathPart, last_part}

-- What is brought from a region: all entities with the name, also those that another one hides there. The name has a
-- qualifier, which is one of a namespace (7.3.3 p4).
unfoldable pub brought_in : CxxGraph → Region → CxxName → Sought
brought_in graph (region.Outward scope) name = sought.Empty
brought_in graph (region.Inside space) name = found_or_none (brought graph space name (length graph.facts))
brought_in graph (region.Class class) name = sought.Empty

abbrev pub using_fact : CxxState → CxxPathPart → FactId → CxxFact
using_fact state part target = fact_here state (spelled part.word) part.place (facts.using target)

-- the name is declared for each of some entities, by their first declarations, in order
unfoldable pub bring_each : CxxPathPart → List FactId → Asks CxxState (Unit {0})
bring_each part [] state = Ok (tt, state)
bring_each part (target ∷ others) state = declare (using_fact state part target) part.word state >>= λ answer. bring_each part others answer.1

abbrev pub space_or_later : Numbered → Option Numbered → Option Numbered
space_or_later one later = if names_space one.fact.what then Some one else later

abbrev pub space_among : List Numbered → Option Numbered
space_among [] = None
space_among (one ∷ others) = space_or_later one (space_among others)

-- 7.3.3 p6: no namespace is brought
abbrev pub bring_all : CxxPathPart → List FactId → Option Numbered → Asks CxxState (Unit {0})
bring_all part targets (Some one) state = Err (wrong_kind_at part one.fact.place)
bring_all part targets None state = bring_each part targets state

abbrev pub bring_found : CxxPathPart → Sought → Asks CxxState (Unit {0})
bring_found part (sought.Ambiguous one two) state = Err (ambiguous_at state.graph part one two)
bring_found part (sought.Set targets) state = bring_all part targets (space_among (numbered_at state.graph (fact_numbers targets))) state
bring_found part _ state = Err (undeclared_at part.place part.word)

-- what the name means in its namespace is declared where the reader stands
unfoldable pub bring_here : CxxPath → Asks CxxState (Unit {0})
bring_here path state = using_region_of state.graph state.here.scope path >>= λ where_. bring_found (last_part path.parts) (brought_in state.graph where_ (name_in path)) state
