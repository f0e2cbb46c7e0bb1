-- The rank of a sequence is the worst one of its steps.
use Rattle.std.specs.Prelude.{◌≡◌, Bool, true, false, Option, Some, None, refl}
use Rattle.std.proofs.Common.{sym}
use Rattle.cxx_model.specs.declared.sequence.Rank.{Rank}
use Rattle.cxx_model.specs.declared.sequence.Rank.TheVariants.{Exact, Promotion, Conversion}
use Rattle.cxx_model.specs.declared.sequence.Second.{Second}
use Rattle.cxx_model.specs.Choice.Standard.{rank_of_step, worse_rank}
use Rattle.cxx_model.specs.Types.Trees.{CxxType}
use Rattle.cxx_meaning.specs.Conversions.Standard.{rank_of}
use Rattle.cxx_meaning_laws.specs.Ranks.{worst_rank}
use Rattle.cxx_meaning_laws.specs.Subsequences.{converted, qualified_at_last}

none_is_worse : (one : Rank) → worse_rank one Exact ≡ one
none_is_worse Exact = refl
none_is_worse Promotion = refl
none_is_worse Conversion = refl

pub worst_of_steps : (second : Option Second) (third : Bool) (gives : CxxType) → rank_of second ≡ worst_rank (converted second gives (qualified_at_last third gives))
worst_of_steps None false gives = refl
worst_of_steps None true gives = refl
worst_of_steps (Some does) false gives = sym (none_is_worse (rank_of_step does))
worst_of_steps (Some does) true gives = sym (none_is_worse (rank_of_step does))
