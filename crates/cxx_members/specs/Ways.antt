-- What the code keeps of the ways of a class.
use Rattle.std.specs.Prelude.{ℕ, ◌≡◌, ◌<◌, ◌≤◌, Bool, not, if◌then◌else◌, List, [], ◌∷◌, length, slice_index_or, Option, Some, None, option_map, find, IfSome}
use Rattle.cxx_model.specs.declared.types.ClassId.{ClassId}
use Rattle.cxx_meaning.specs.Lookups.Member.{Way as WayMeant, same_class, through}
use Rattle.cxx_members.specs.declared.ways.Record.{Record}
use Rattle.cxx_members.specs.declared.ways.Three.{Three}
use Rattle.cxx_members.specs.declared.ways.Way.{Way}

abbrev pub path_at : List (List ℕ) → ℕ → List ℕ
path_at paths n = slice_index_or paths n []

abbrev pub way_at : List (List ℕ) → Way → WayMeant
way_at paths way = record { path = path_at paths way.path; holder = way.holder }

pub record ThreeMeant : Type 0 where
  pub first : Option WayMeant
  pub second : Option WayMeant
  pub other : Option WayMeant

abbrev pub three_at : List (List ℕ) → Three → ThreeMeant
three_at paths three = record { first = option_map (way_at paths) three.first; second = option_map (way_at paths) three.second; other = option_map (way_at paths) three.other }

abbrev pub IsWayKnown : ℕ → Way → Type 0
IsWayKnown count way = way.path < count

pub record AreKnown (count : ℕ) (three : Three) : Type 0 where
  pub first : IfSome three.first (IsWayKnown count)
  pub second : IfSome three.second (IsWayKnown count)
  pub other : IfSome three.other (IsWayKnown count)

-- Paths that were there are as they were.
pub record Grows (old new : List (List ℕ)) : Type 0 where
  pub more : length old ≤ length new
  pub same : (n : ℕ) → n < length old → path_at new n ≡ path_at old n

-- the ways of a class in the latest of some records, or those at hand
abbrev pub latest : ClassId → Option Three → List Record → Option Three
latest class found [] = found
latest class found (one ∷ others) = latest class (if same_class one.class class then Some one.ways else found) others

abbrev pub or_else : {A : Type 0} → Option A → Option A → Option A
or_else (Some x) other = Some x
or_else None other = other

-- ---- of a list of ways

abbrev pub first_way : List WayMeant → Option WayMeant
first_way [] = None
first_way (one ∷ others) = Some one

abbrev pub second_way : List WayMeant → Option WayMeant
second_way [] = None
second_way (one ∷ others) = first_way others

abbrev pub is_elsewhere : WayMeant → WayMeant → Bool
is_elsewhere one two = not (same_class one.holder two.holder)

abbrev pub other_way : List WayMeant → Option WayMeant
other_way [] = None
other_way (one ∷ others) = find (is_elsewhere one) others

abbrev pub three_of : List WayMeant → ThreeMeant
three_of ways = record { first = first_way ways; second = second_way ways; other = other_way ways }

-- the first way to another class than that of one, among ways of which three are known
abbrev pub other_after : WayMeant → ThreeMeant → Option WayMeant
other_after one three = by three.first
  where
    by : Option WayMeant → Option WayMeant
    by None = None
    by (Some two) = if is_elsewhere one two then Some two else three.other

-- of some ways and more behind them
abbrev pub joined : ThreeMeant → ThreeMeant → ThreeMeant
joined one two = record {
  first = or_else one.first two.first;
  second = by one.first (or_else one.second two.first) two.second;
  other = other one.first;
}
  where
    by : Option WayMeant → Option WayMeant → Option WayMeant → Option WayMeant
    by None here there = there
    by (Some way) here there = here

    other : Option WayMeant → Option WayMeant
    other None = two.other
    other (Some way) = or_else one.other (other_after way two)

abbrev pub through_all : ℕ → ThreeMeant → ThreeMeant
through_all index three = record { first = option_map (through index) three.first; second = option_map (through index) three.second; other = option_map (through index) three.other }
