-- What is counted as a subobject, in words.
use Rattle.std.specs.Prelude.{ℕ, ◌≡◌, ◌<◌, ◌⊎◌, ◌↔◌, not, false, List, [], ◌∷◌, Some}
use Rattle.std.specs.List.{Contains, slice_get}
use Rattle.cxx_model.specs.declared.facts.Access.{Access}
use Rattle.cxx_model.specs.declared.types.ClassId.{ClassId}
use Rattle.cxx_model.specs.Facts.Declarations as facts
use Rattle.cxx_model.specs.Facts.Declarations.{CxxFact, CxxGraph}
use Rattle.cxx_meaning.specs.Conversions.Derived.{is_derived}
use Rattle.cxx_meaning.specs.Lookups.Member.{BasesInOrder, IsPath, is_nothing}
use Rattle.cxx_subobjects.specs.declared.bases.Subobjects.TheVariants as found
use Rattle.cxx_subobjects.specs.Paths.{base_paths, subobjects}

-- 10.1: a path of base positions that leads from a class to a subobject of a base class
abbrev pub IsPathTo : CxxGraph → ℕ → ℕ → List ℕ → Type 0
IsPathTo graph class base path = IsPath graph (record { 0 = class }) (record { path = path; holder = record { 0 = base } })

-- Whatever is counted is a path.
abbrev pub EachIsPath : Type 0
EachIsPath = (graph : CxxGraph) (class base : ℕ) (path : List ℕ) → Contains (base_paths graph class base) path → IsPathTo graph class base path

-- Each path is counted, where bases are complete before they are named.
abbrev pub EachPathIsThere : Type 0
EachPathIsThere = (graph : CxxGraph) (class base : ℕ) (path : List ℕ) → BasesInOrder [] graph.facts → IsPathTo graph class base path → Contains (base_paths graph class base) path

-- 10: A class is derived from another one where there is a path.
abbrev pub DerivedHasPaths : Type 0
DerivedHasPaths = (graph : CxxGraph) (class base : ℕ) → (class ≡ base → ⊥) → is_derived graph class base ≡ not (is_nothing (base_paths graph class base))

-- 10: The only path from a class to itself is the empty one, and no class is derived from itself, where bases are complete
-- before they are named.
pub record IsItself (graph : CxxGraph) (class : ℕ) : Type 0 where
  pub path : base_paths graph class class ≡ [] ∷ []
  pub underived : is_derived graph class class ≡ false

abbrev pub IsOnlyItself : Type 0
IsOnlyItself = (graph : CxxGraph) (class : ℕ) → BasesInOrder [] graph.facts → IsItself graph class

-- The order of paths: the first position in which two differ decides, and a path that is the front of another comes before
-- that.
abbrev pub Precedes : List ℕ → List ℕ → Type 0
Precedes path [] = ⊥
Precedes [] (y ∷ ys) = Unit {0}
Precedes (x ∷ xs) (y ∷ ys) = (x < y) ⊎ ((x ≡ y) × Precedes xs ys)

-- each path precedes those behind it
abbrev pub AreInOrder : List (List ℕ) → Type 0
AreInOrder [] = Unit {0}
AreInOrder (path ∷ others) = ((other : List ℕ) → Contains others other → Precedes path other) × AreInOrder others

-- 10: the bases of a class are named in the order of their positions
abbrev pub PositionsRise : List CxxFact → Type 0
PositionsRise all = (k n : ℕ) (one two : CxxFact) (derived parent other : ClassId) (index later : ℕ) (access wider : Access) → k < n → slice_get all k ≡ Some one → slice_get all n ≡ Some two → one.what ≡ facts.ancestor derived parent index access → two.what ≡ facts.ancestor derived other later wider → index < later

-- The paths are counted in their order, each of them once, where bases are named in the order of their positions.
abbrev pub PathsAreInOrder : Type 0
PathsAreInOrder = (graph : CxxGraph) (class base : ℕ) → PositionsRise graph.facts → AreInOrder (base_paths graph class base)

-- 10.1: how many there are
abbrev pub NoneIsNoPath : Type 0
NoneIsNoPath = (graph : CxxGraph) (class base : ℕ) → (subobjects graph class base ≡ found.None) ↔ (base_paths graph class base ≡ [])

abbrev pub OneIsOnePath : Type 0
OneIsOnePath = (graph : CxxGraph) (class base : ℕ) (path : List ℕ) → (subobjects graph class base ≡ found.One path) ↔ (base_paths graph class base ≡ path ∷ [])

abbrev pub SeveralAreTwo : Type 0
SeveralAreTwo = (graph : CxxGraph) (class base : ℕ) (path other : List ℕ) → (subobjects graph class base ≡ found.Several path other) ↔ ((more : List (List ℕ)) × (base_paths graph class base ≡ path ∷ other ∷ more))
