-- The functions that the types of arguments find (3.4.2).
use Rattle.std.specs.Prelude.{ℕ, ◌≡◌, List, Result, Ok, Err, refl}
use Rattle.std.proofs.Common.{◌∙◌}
use Rattle.cxx_answers.specs.Answers.{found_in_sets}
use Rattle.cxx_found.specs.Associated as lookup
use Rattle.cxx_found.specs.Associated.{AreFoundBy}
use Rattle.cxx_meaning.specs.Lookups.Associated.{associated}
use Rattle.cxx_model.specs.declared.lookup.Associated.{Associated}
use Rattle.cxx_model.specs.declared.types.ClassId.{ClassId}
use Rattle.cxx_model.specs.declared.types.FactId.{FactId}
use Rattle.cxx_model.specs.Facts.Declarations.{CxxGraph, spelled}
use Rattle.cxx_model.specs.Types.Trees.{CxxType}

same_sets : (graph : CxxGraph) (word : List ℕ) (sets : Result Associated ClassId) → lookup.found_in_sets graph (spelled word) sets ≡ found_in_sets graph word sets
same_sets graph word (Ok sets) = refl
same_sets graph word (Err class) = refl

pub found_in : (graph : CxxGraph) (types : List CxxType) (word : List ℕ) (found : List FactId) → AreFoundBy graph types (spelled word) found → found ≡ found_in_sets graph word (associated graph types)
found_in graph types word found are = are ∙ same_sets graph word (associated graph types)
