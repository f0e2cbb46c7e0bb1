-- A name alone, and one with parts before it, behind an object (3.4.5).
use Rattle.std.specs.Prelude.{ℕ, ◌≡◌, ◌<◌, ◌≤◌, List, [], ◌∷◌, length, refl}
use Rattle.std.proofs.Common.{ap, arith, get_or}
use Rattle.cxx_model.specs.declared.tree.PathPart.{PathPart}
use Rattle.cxx_model.specs.declared.types.ClassId.{ClassId}
use Rattle.cxx_model.specs.Facts.Declarations.{CxxGraph, spelled}
use Rattle.cxx_meaning.specs.Lookups.Wanted.{before_colons}
use Rattle.cxx_reading.specs.declared.region.Region.TheVariants as region
use Rattle.cxx_reading.specs.Paths.{sought_in}
use Rattle.cxx_tree.specs.Arena.{path_part_at, path_parts_at}
use Rattle.cxx_paths.specs.Behind.{first_found, first_of}

pub alone_is : (graph : CxxGraph) (scope : ℕ) (class : ClassId) (parts : List PathPart) → length parts < 2 → region.Class class ≡ first_of graph scope class (path_parts_at parts)
alone_is graph scope class [] short = refl
alone_is graph scope class (one ∷ []) short = refl
alone_is graph scope class (one ∷ two ∷ others) short = absurd (omega (arith, short))

pub several_is : (graph : CxxGraph) (scope : ℕ) (class : ClassId) (parts : List PathPart) (part : PathPart) → 2 ≤ length parts → part ≡ get_or parts 0 part → first_found scope class (sought_in graph before_colons (region.Class class) (spelled (path_part_at part).word)) ≡ first_of graph scope class (path_parts_at parts)
several_is graph scope class [] part several is = absurd (omega (arith, several))
several_is graph scope class (one ∷ []) part several is = absurd (omega (arith, several))
several_is graph scope class (one ∷ two ∷ others) part several is = ap (λ (p : PathPart). first_found scope class (sought_in graph before_colons (region.Class class) (spelled (path_part_at p).word))) is
