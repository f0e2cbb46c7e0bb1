-- What the ways that the code keeps say of all classes.
use Rattle.std.specs.Prelude.{ℕ, ◌≡◌, ◌<◌, Bool, true, false, if◌then◌else◌, List, [], ◌∷◌, length, Option, Some, None}
use Rattle.std.specs.List.{list_any}
use Rattle.cxx_model.specs.declared.types.ClassId.{ClassId}
use Rattle.cxx_model.specs.Facts.Declarations.{CxxFact, CxxGraph, CxxName}
use Rattle.cxx_meaning.specs.Lookups.Member.{Way as WayMeant, class_of_scope, same_class, with_base}
use Rattle.cxx_meaning.specs.Lookups.Sightings.{Sighting, is_named, sighting_of, wanted_one}
use Rattle.cxx_meaning.specs.Lookups.Wanted.{Wanted}
use Rattle.cxx_members.specs.declared.ways.Record.{Record}
use Rattle.cxx_members.specs.declared.ways.Three.{Three}
use Rattle.cxx_members.specs.Ways.{AreKnown, ThreeMeant, latest, path_at, three_at, three_of}

abbrev pub holds : List ClassId → ClassId → Bool
holds holders class = list_any (same_class class) holders

abbrev pub own_by : List ClassId → ClassId → List WayMeant
own_by holders class = if holds holders class then record { path = []; holder = class } ∷ [] else []

abbrev pub entry_of : List (List ℕ) → List ClassId → ClassId → Option Three → ThreeMeant
entry_of paths holders class None = three_of (own_by holders class)
entry_of paths holders class (Some three) = three_at paths three

abbrev pub AllKnown : ℕ → List Record → Type 0
AllKnown count [] = Unit {0}
AllKnown count (one ∷ others) = AreKnown count one.ways × AllKnown count others

-- Each path that a record names is there, and the first one leads nowhere.
pub record IsSound (paths : List (List ℕ)) (records : List Record) : Type 0 where
  pub known : AllKnown (length paths) records
  pub empty : path_at paths 0 ≡ []
  pub some : 0 < length paths

-- The table has the three ways of each class that has these.
pub record IsTable (paths : List (List ℕ)) (holders : List ClassId) (records : List Record) (now : ClassId → List WayMeant) : Type 0 where
  pub is : (class : ClassId) → entry_of paths holders class (latest class None records) ≡ three_of (now class)

-- the class of a declaration of the name, where it is one of what is wanted
abbrev pub holder_by : Bool → Option Sighting → Option ClassId → Option ClassId
holder_by true (Some one) of = of
holder_by true None of = None
holder_by false wanted of = None

abbrev pub holder_in : CxxGraph → Wanted → CxxName → ℕ → CxxFact → Option ClassId
holder_in graph wanted name number fact = holder_by (is_named name fact) (wanted_one graph wanted (sighting_of graph.facts number fact)) (class_of_scope graph.facts (record { 0 = fact.scope }))

-- what each class has after one more fact, where there is one
abbrev pub ways_given : (ClassId → Bool) → (ClassId → List WayMeant) → Option CxxFact → ClassId → List WayMeant
ways_given declares now None = now
ways_given declares now (Some fact) = with_base declares fact now
