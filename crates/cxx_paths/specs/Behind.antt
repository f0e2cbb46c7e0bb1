-- Where the parts of a name are looked up that stands behind an object (3.4.5).
use Rattle.std.specs.Prelude.{ℕ, Bool, true, false, ◌<◌, List, [], ◌∷◌, length}
use Rattle.cxx_model.specs.declared.lookup.Found.{Found as Sought}
use Rattle.cxx_model.specs.declared.lookup.Found.TheVariants as sought
use Rattle.cxx_model.specs.declared.lookup.MemberFound.TheVariants as member
use Rattle.cxx_model.specs.declared.types.ClassId.{ClassId}
use Rattle.cxx_model.specs.Facts.Declarations.{CxxGraph, spelled}
use Rattle.cxx_model.specs.Facts.Graph.{Graph}
use Rattle.cxx_model.specs.Stops.{Answer}
use Rattle.cxx_meaning.specs.Lookups.Wanted.{before_colons}
use Rattle.cxx_reading.specs.declared.region.Region.{Region}
use Rattle.cxx_reading.specs.declared.region.Region.TheVariants as region
use Rattle.cxx_reading.specs.Linked.{scope_id}
use Rattle.cxx_reading.specs.Paths.{region_by, sought_in}
use Rattle.cxx_reading.specs.State.{unit_scope}
use Rattle.cxx_reading.specs.Trees.{CxxPath, CxxPathPart}

-- The first of several parts is looked up in the class of the object, and where that has no such member, where the name stands.
abbrev pub first_found : ℕ → ClassId → Sought → Region
first_found scope class sought.Empty = region.Outward (scope_id scope)
first_found scope class (sought.Member of member.Empty) = region.Outward (scope_id scope)
first_found scope class _ = region.Class class

-- a part alone is looked up in the class
abbrev pub first_of : CxxGraph → ℕ → ClassId → List CxxPathPart → Region
first_of graph scope class [] = region.Class class
first_of graph scope class (part ∷ []) = region.Class class
first_of graph scope class (part ∷ next ∷ others) = first_found scope class (sought_in graph before_colons (region.Class class) (spelled part.word))

abbrev pub first_behind : CxxGraph → ℕ → ClassId → Bool → List CxxPathPart → Region
first_behind graph scope class false parts = first_of graph scope class parts
first_behind graph scope class true parts = region.Inside (scope_id unit_scope.scope)

-- where the last part of a name is looked up that stands in a scope, behind an object of a class
unfoldable pub region_behind : CxxGraph → ℕ → ClassId → CxxPath → Answer Region
region_behind graph scope class path = region_by graph before_colons true (first_behind graph scope class path.global path.parts) path.parts

-- ---- meaning of what the code answers

-- the class of a region is one that is there
abbrev pub IsClassThere : Graph → Region → Type 0
IsClassThere graph (region.Class class) = class.0 < length graph.classes
IsClassThere graph _ = Unit {0}
