-- What the ways that the code keeps say of all classes.
use Rattle.std.specs.Prelude.{ℕ, ◌≡◌, ◌<◌, Bool, if◌then◌else◌, List, [], ◌∷◌, length, Option, Some, None, IfSome}
use Rattle.std.specs.BTreeMap.{BTreeMap, get}
use Rattle.std.specs.Ordering.{nat_cmp}
use Rattle.cxx_model.specs.declared.types.ClassId.{ClassId}
use Rattle.cxx_model.specs.Facts.Declarations.{CxxFact}
use Rattle.cxx_meaning.specs.Lookups.Member.{Way as WayMeant}
use Rattle.std.specs.List.{slice_get}
use Rattle.cxx_members.specs.Tables.{ways_given}
use Rattle.cxx_members.specs.Ways.{ThreeMeant, path_at, three_of}
use Rattle.cxx_inherited.specs.declared.ways.Three.{Three}
use Rattle.cxx_inherited.specs.Ways.{AreKnown, three_at}

-- a class that declares the name has it by itself
abbrev pub own_by : (ClassId → Bool) → ClassId → List WayMeant
own_by declares class = if declares class then record { path = []; holder = class } ∷ [] else []

-- a class of which nothing is kept has itself, where it declares the name
abbrev pub entry_of : List (List ℕ) → (ClassId → Bool) → ClassId → Option Three → ThreeMeant
entry_of paths declares class None = three_of (own_by declares class)
entry_of paths declares class (Some three) = three_at paths three

abbrev pub kept_of : BTreeMap ℕ Three → ℕ → Option Three
kept_of records class = get nat_cmp records class

-- Each path that is named is there, and the first one leads nowhere.
pub record IsSound (paths : List (List ℕ)) (records : BTreeMap ℕ Three) : Type 0 where
  pub known : (class : ℕ) → IfSome (kept_of records class) (AreKnown (length paths))
  pub empty : path_at paths 0 ≡ []
  pub some : 0 < length paths

-- The three ways of each class are kept that has these.
pub record IsTable (paths : List (List ℕ)) (declares : ClassId → Bool) (records : BTreeMap ℕ Three) (now : ClassId → List WayMeant) : Type 0 where
  pub is : (class : ClassId) → entry_of paths declares class (kept_of records class.0) ≡ three_of (now class)

-- what each class has after the facts with some numbers, in order
abbrev pub ways_by : (ClassId → Bool) → List CxxFact → (ClassId → List WayMeant) → List ℕ → ClassId → List WayMeant
ways_by declares facts now [] = now
ways_by declares facts now (number ∷ others) = ways_by declares facts (ways_given declares now (slice_get facts number)) others
