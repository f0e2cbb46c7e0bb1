-- Trees by their numbers, and the one that stands first.
use Rattle.std.proofs.Common.{◌≡◌, ◌<◌, ℕ, zero, suc, List, [], ◌∷◌, length, option_map, refl, arith}
use Rattle.std.specs.List.{slice_get}
use Rattle.cxx_model.specs.declared.facts.Fact.{Fact}
use Rattle.cxx_model.specs.declared.types.TreeId.{TreeId}
use Rattle.cxx_model.specs.Facts.Declarations.{fact_at, facts_at}
use Rattle.cxx_model.specs.Types.Trees.{CxxType}
use Rattle.cxx_reading.specs.Trees.{no_trees}
use Rattle.cxx_tree.specs.Held.{Held}
use Rattle.cxx_statement_text.specs.Written.{parts_in}

pub none_first : (held : Held) (parts : List TreeId) → length parts < 1 → parts_in held parts ≡ no_trees
none_first held [] short = refl
none_first held (n ∷ parts) short = absurd (omega arith)

-- a declaration by its number
pub fact_is : (types : List CxxType) (facts : List Fact) (n : ℕ) → slice_get (facts_at types facts) n ≡ option_map (fact_at types) (slice_get facts n)
fact_is types [] n = refl
fact_is types (fact ∷ facts) zero = refl
fact_is types (fact ∷ facts) (suc n) = fact_is types facts n
