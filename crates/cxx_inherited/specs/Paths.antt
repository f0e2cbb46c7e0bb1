-- Paths that share their ends.
use Rattle.std.specs.Prelude.{ℕ, suc, ◌≤◌, List, [], ◌∷◌, ◌++◌}
use Rattle.cxx_members.specs.Ways.{path_at}
use Rattle.cxx_inherited.specs.declared.paths.Step.{Step}

-- some paths, and one for each step: the position of a base, and on by an earlier path
abbrev pub paths_from : List (List ℕ) → List Step → List (List ℕ)
paths_from paths [] = paths
paths_from paths (step ∷ steps) = paths_from (paths ++ (step.index ∷ path_at paths step.rest) ∷ []) steps

-- the first path leads nowhere
abbrev pub paths_of : List Step → List (List ℕ)
paths_of steps = paths_from ([] ∷ []) steps

-- Each step goes on by an earlier path, where there are so many before the first.
abbrev pub AreLinked : ℕ → List Step → Type 0
AreLinked count [] = Unit {0}
AreLinked count (step ∷ steps) = (step.rest ≤ count) × AreLinked (suc count) steps
