-- What is answered of names that are looked up.
use Rattle.std.specs.Prelude.{ℕ, ◌≡◌, ◌<◌, List, Option, Some, None}
use Rattle.cxx_model.specs.declared.place.Place.{Place}
use Rattle.cxx_model.specs.declared.stop.Stop.{Stop}
use Rattle.cxx_model.specs.declared.stop.Stop.TheVariants as stop
use Rattle.cxx_model.specs.declared.types.ClassId.{ClassId}
use Rattle.cxx_model.specs.declared.types.ScopeId.{ScopeId}
use Rattle.cxx_model.specs.Facts.Graph.{scopes}
use Rattle.cxx_model.specs.Stops.{Faulty, Limited, Stopped, undeclared_at}
use Rattle.cxx_reading.specs.declared.region.Region.{Region}
use Rattle.cxx_reading.specs.Paths.{scope_of_region, wrong_kind_at}
use Rattle.cxx_reading.specs.Trees.{CxxPathPart}
use Rattle.cxx_tree.specs.Held.{Held}

-- a name that stands alone
abbrev pub part_of : Place → List ℕ → CxxPathPart
part_of place word = record { word = word; place = place; arguments = None }

-- a name means nothing of what is wanted, given where the first of its declarations stands
abbrev pub not_wanted_at : CxxPathPart → Option Place → Stopped
not_wanted_at part None = undeclared_at part.place part.word
not_wanted_at part (Some other) = wrong_kind_at part other

-- Unless memory ran out, the stop is this one.
abbrev pub IsStop : Stopped → Stop → Type 0
IsStop what stop.OutOfMemory = Unit {0}
IsStop what (stop.Fault f) = Faulty f.value ≡ what
IsStop what (stop.Limit k) = Limited k ≡ what

-- what is answered as it is
abbrev pub same : {A : Type 0} → A → A
same x = x

abbrev pub class_number : ClassId → ℕ
class_number class = class.0

abbrev pub scope_number : ScopeId → ℕ
scope_number scope = scope.0

-- the scope of a region is one that is there
abbrev pub IsRegionThere : Held → Region → Type 0
IsRegionThere held region = scope_of_region region < scopes held.graph.facts
