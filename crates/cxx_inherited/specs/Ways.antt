-- What the code keeps of the ways of a class.
use Rattle.std.specs.Prelude.{ℕ, ◌<◌, List, option_map, IfSome}
use Rattle.cxx_meaning.specs.Lookups.Member.{Way as WayMeant}
use Rattle.cxx_members.specs.Ways.{ThreeMeant, path_at}
use Rattle.cxx_inherited.specs.declared.ways.Three.{Three}
use Rattle.cxx_inherited.specs.declared.ways.Way.{Way}

abbrev pub way_at : List (List ℕ) → Way → WayMeant
way_at paths way = record { path = path_at paths way.path; holder = way.holder }

abbrev pub three_at : List (List ℕ) → Three → ThreeMeant
three_at paths three = record { first = option_map (way_at paths) three.first; second = option_map (way_at paths) three.second; other = option_map (way_at paths) three.other }

abbrev pub IsWayKnown : ℕ → Way → Type 0
IsWayKnown count way = way.path < count

pub record AreKnown (count : ℕ) (three : Three) : Type 0 where
  pub first : IfSome three.first (IsWayKnown count)
  pub second : IfSome three.second (IsWayKnown count)
  pub other : IfSome three.other (IsWayKnown count)
