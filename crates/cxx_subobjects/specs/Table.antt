-- What is kept of the paths to one base class.
use Rattle.std.specs.Prelude.{ℕ, ◌≡◌, ◌≤◌, nat_eq, if◌then◌else◌, List, ◌∷◌, length, Option, Some, None}
use Rattle.cxx_subobjects.specs.declared.bases.Subobjects.{Subobjects}
use Rattle.cxx_subobjects.specs.declared.bases.Subobjects.TheVariants as found
use Rattle.cxx_subobjects.specs.declared.steps.Step.{Step}
use Rattle.cxx_subobjects.specs.declared.table.Kept.{Kept}
use Rattle.cxx_subobjects.specs.declared.table.Kept.TheVariants as kept
use Rattle.cxx_subobjects.specs.Paths.{first_two}
use Rattle.cxx_subobjects.specs.Steps.{AreEarlier, path_at, paths_of}

abbrev pub kept_at : List (List ℕ) → Kept → Subobjects
kept_at paths kept.None = found.None
kept_at paths (kept.One n) = found.One (path_at paths n)
kept_at paths (kept.Several m n) = found.Several (path_at paths m) (path_at paths n)

abbrev pub IsKnown : ℕ → Kept → Type 0
IsKnown count kept.None = Unit {0}
IsKnown count (kept.One n) = n ≤ count
IsKnown count (kept.Several m n) = (m ≤ count) × (n ≤ count)

-- of some paths and more behind them
abbrev pub joined : Subobjects → Subobjects → Subobjects
joined found.None other = other
joined (found.One path) found.None = found.One path
joined (found.One path) (found.One other) = found.Several path other
joined (found.One path) (found.Several other more) = found.Several path other
joined (found.Several path other) more = found.Several path other

-- with the position of a base in front
abbrev pub behind : ℕ → Subobjects → Subobjects
behind index found.None = found.None
behind index (found.One path) = found.One (index ∷ path)
behind index (found.Several path other) = found.Several (index ∷ path) (index ∷ other)

abbrev pub own_kept : ℕ → ℕ → Kept
own_kept class base = if nat_eq class base then kept.One 0 else kept.None

abbrev pub entry_in : ℕ → ℕ → Option Kept → Kept
entry_in base class None = own_kept class base
entry_in base class (Some kept) = kept

-- what is known of a class
abbrev pub entry_of : ℕ → (ℕ → Option Kept) → ℕ → Kept
entry_of base entries class = entry_in base class (entries class)

-- the numbers in the entries are those of paths
pub record AreKnown (steps : List Step) (entries : ℕ → Option Kept) : Type 0 where
  pub earlier : AreEarlier steps
  pub known : (class : ℕ) (kept : Kept) → entries class ≡ Some kept → IsKnown (length steps) kept

-- Each class has the first two of its paths.
abbrev pub IsTable : ℕ → List Step → (ℕ → Option Kept) → (ℕ → List (List ℕ)) → Type 0
IsTable base steps entries paths = (class : ℕ) → kept_at (paths_of steps) (entry_of base entries class) ≡ first_two (paths class)
