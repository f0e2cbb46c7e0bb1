-- Where a using-declaration in a class looks its name up (7.3.3 p4).
use Rattle.std.specs.Prelude.{ℕ, true, List, [], ◌∷◌, Err}
use Rattle.cxx_model.specs.declared.lookup.Found.{Found as Sought}
use Rattle.cxx_model.specs.Facts.Declarations.{CxxGraph, spelled}
use Rattle.cxx_model.specs.Stops.{Answer, ◌>>=◌}
use Rattle.cxx_meaning.specs.Lookups.Wanted.{any_name, before_colons}
use Rattle.cxx_reading.specs.declared.region.Region.{Region}
use Rattle.cxx_reading.specs.Paths.{class_if, first_meant, first_region, held_in_class, not_held, region_by, sought_in, unambiguous}
use Rattle.cxx_reading.specs.Seen.{set_in}
use Rattle.cxx_reading.specs.Trees.{CxxPath, CxxPathPart, last_part}

-- the parts before the last
abbrev pub qualifiers : List CxxPathPart → List CxxPathPart
qualifiers [] = []
qualifiers (part ∷ []) = []
qualifiers (part ∷ next ∷ others) = part ∷ qualifiers (next ∷ others)

-- what is found of the last one means a class
abbrev pub class_found : CxxGraph → CxxPathPart → Sought → Answer Region
class_found graph part found = unambiguous graph part found >>= λ clear. held_in_class part (set_in graph found) (class_if true (first_meant (set_in graph found)))

unfoldable pub class_of_part : CxxGraph → Region → CxxPathPart → Answer Region
class_of_part graph where_ part = class_found graph part (sought_in graph before_colons where_ (spelled part.word))

abbrev pub class_behind : CxxGraph → Region → List CxxPathPart → Answer Region
class_behind graph first parts = region_by graph before_colons true first parts >>= λ where_. class_of_part graph where_ (last_part parts)

-- behind `::` alone a name is none of a class
abbrev pub none_behind : CxxGraph → CxxPathPart → Sought → Answer Region
none_behind graph name found = unambiguous graph name found >>= λ clear. Err (not_held name (set_in graph found))

abbrev pub members_behind : CxxGraph → Region → CxxPathPart → List CxxPathPart → Answer Region
members_behind graph first name [] = none_behind graph name (sought_in graph any_name first (spelled name.word))
members_behind graph first name (part ∷ others) = class_behind graph first (part ∷ others)

-- where the last part of a name is looked up whose qualifiers mean a class, of a name that stands in a scope
unfoldable pub member_region_of : CxxGraph → ℕ → CxxPath → Answer Region
member_region_of graph scope path = members_behind graph (first_region scope path.global) (last_part path.parts) (qualifiers path.parts)
