-- Paths that share their ends.
use Rattle.std.specs.Prelude.{ℕ, ◌≡◌, ◌<◌, ◌≤◌, List, [], ◌∷◌, ◌++◌, length, slice_index_or}
use Rattle.cxx_subobjects.specs.declared.steps.Step.{Step}

abbrev pub path_at : List (List ℕ) → ℕ → List ℕ
path_at paths n = slice_index_or paths n []

unfoldable pub paths_after : List (List ℕ) → List Step → List (List ℕ)
paths_after paths [] = paths
paths_after paths (step ∷ steps) = paths_after (paths ++ (step.index ∷ path_at paths step.rest) ∷ []) steps

-- the empty path, and then the path of each step
unfoldable pub paths_of : List Step → List (List ℕ)
paths_of steps = paths_after ([] ∷ []) steps

-- each step leads to an earlier path
abbrev pub AreEarlier : List Step → Type 0
AreEarlier steps = (n : ℕ) (step : Step) → n < length steps → (slice_index_or steps n step).rest ≤ n

-- Each path keeps its number.
pub record Grows (old new : List Step) : Type 0 where
  pub more : length old ≤ length new
  pub same : (n : ℕ) → n ≤ length old → path_at (paths_of new) n ≡ path_at (paths_of old) n
