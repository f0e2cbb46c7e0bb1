-- Classes that are defined outside of the class or the namespace that declares them, by names with qualifiers (9, 3.4.3).
use Rattle.std.specs.Prelude.{ℕ, List, Option, Some, None, Err}
use Rattle.cxx_model.specs.declared.lookup.Found.{Found as Sought}
use Rattle.cxx_model.specs.declared.place.Place.{Place}
use Rattle.cxx_model.specs.Facts.Declarations.{CxxGraph, spelled}
use Rattle.cxx_model.specs.Stops.{◌>>=◌}
use Rattle.cxx_meaning.specs.Lookups.Wanted.{types_only}
use Rattle.cxx_reading.specs.declared.region.Region.{Region}
use Rattle.cxx_reading.specs.declared.region.Region.TheVariants as region
use Rattle.cxx_reading.specs.Classes.{ClassNamed, first_class}
use Rattle.cxx_reading.specs.Paths.{name_in, region_of, sought_in, unambiguous}
use Rattle.cxx_reading.specs.Reads.{Asks}
use Rattle.cxx_reading.specs.Seen.{Numbered, declared_in, place_of_first, set_in}
use Rattle.cxx_reading.specs.State.{CxxState}
use Rattle.cxx_reading.specs.Trees.{CxxPath, CxxPathPart, last_part}
use Rattle.cxx_paths.specs.Asked.{not_wanted_at}
use Rattle.cxx_declare.specs.Outside.{scope_of_class, stand_in}

-- the scope of what declares the class
abbrev pub scope_in : CxxGraph → Region → ℕ
scope_in graph (region.Outward scope) = scope.0
scope_in graph (region.Inside space) = space.0
scope_in graph (region.Class class) = scope_of_class graph class

-- what the name means has a place; a class is declared in that scope itself, and not in one of a base or of a directive
abbrev pub entered_by : CxxPathPart → ℕ → Option Place → Option ClassNamed → Asks CxxState (Unit {0})
entered_by part scope None one state = Err (not_wanted_at part None)
entered_by part scope (Some other) None state = Err (not_wanted_at part (Some other))
entered_by part scope (Some other) (Some one) state = stand_in scope state

abbrev pub entered_in : CxxPathPart → ℕ → List Numbered → Asks CxxState (Unit {0})
entered_in part scope all state = entered_by part scope (place_of_first all) (first_class (declared_in state.graph scope (spelled part.word))) state

abbrev pub entered_found : CxxPathPart → Region → Sought → Asks CxxState (Unit {0})
entered_found part where_ found state = unambiguous state.graph part found >>= λ clear. entered_in part (scope_in state.graph where_) (set_in state.graph found) state

-- The name of a class that is defined means one in its namespace or its class, where the reader stands then; what is no type is
-- passed over.
unfoldable pub enter_class : CxxPath → Asks CxxState (Unit {0})
enter_class path state = region_of state.graph state.here.scope path >>= λ where_. entered_found (last_part path.parts) where_ (sought_in state.graph types_only where_ (name_in path)) state
