-- The subobjects of a class that are of a base class (10.1), by the paths of direct bases that lead to them.
use Rattle.std.specs.Prelude.{ℕ, zero, suc, nat_eq, if◌then◌else◌, List, [], ◌∷◌, ◌++◌, map, length, Option, Some, None}
use Rattle.std.specs.List.{slice_get}
use Rattle.cxx_model.specs.Facts.Declarations.{CxxFact, CxxGraph, Declares}
use Rattle.cxx_model.specs.Facts.Declarations as facts
use Rattle.cxx_subobjects.specs.declared.bases.Subobjects.{Subobjects}
use Rattle.cxx_subobjects.specs.declared.bases.Subobjects.TheVariants as found

-- 10.1: an object of the class itself is the one that no base leads to
abbrev pub own_path : ℕ → ℕ → List (List ℕ)
own_path class base = if nat_eq class base then [] ∷ [] else []

-- paths with the position of a base in front
abbrev pub behind_all : ℕ → List (List ℕ) → List (List ℕ)
behind_all index paths = map (λ path. index ∷ path) paths

-- 10: the paths through a base, if a fact names it as one of the class
abbrev pub through_fact : (ℕ → List (List ℕ)) → ℕ → Option CxxFact → List (List ℕ)
through_fact paths class None = []
through_fact paths class (Some fact) = by fact.what
  where
    by : Declares → List (List ℕ)
    by (facts.ancestor derived parent index access) = if nat_eq derived.0 class then behind_all index (paths parent.0) else []
    by _ = []

-- 10.1: The paths from a class to its subobjects of a base class, as the facts before some count say. A base has there the
-- paths that it had when it was named, since it was complete before (10).
abbrev pub base_paths_before : List CxxFact → ℕ → ℕ → ℕ → List (List ℕ)
base_paths_before all zero class base = own_path class base
base_paths_before all (suc n) class base = base_paths_before all n class base ++ through_fact (λ parent. base_paths_before all n parent base) class (slice_get all n)

-- 10.1: The paths from a class to its subobjects of a base class, each the positions of direct bases from 1, in the order of
-- paths; from a class to itself the empty one.
unfoldable pub base_paths : CxxGraph → ℕ → ℕ → List (List ℕ)
base_paths graph class base = base_paths_before graph.facts (length graph.facts) class base

abbrev pub first_two : List (List ℕ) → Subobjects
first_two [] = found.None
first_two (path ∷ []) = found.One path
first_two (path ∷ other ∷ more) = found.Several path other

-- 10.1, 10.2: whether a base class is ambiguous, by the first two paths to it
unfoldable pub subobjects : CxxGraph → ℕ → ℕ → Subobjects
subobjects graph class base = first_two (base_paths graph class base)
