-- The rank of a sequence by those of its steps (13.3.3.1.1, table 9).
use Rattle.std.specs.Prelude.{List, [], ◌∷◌}
use Rattle.cxx_model.specs.declared.sequence.Rank.{Rank}
use Rattle.cxx_model.specs.declared.sequence.Rank.TheVariants.{Exact}
use Rattle.cxx_model.specs.Choice.Standard.{rank_of_step, worse_rank}
use Rattle.cxx_meaning_laws.specs.Subsequences.{CxxAction, CxxStep, converts, qualifies}

-- table 9: a qualification is exact
abbrev pub rank_of_action : CxxAction → Rank
rank_of_action (converts does) = rank_of_step does
rank_of_action qualifies = Exact

-- the worst rank of some steps, and exact where there is none
abbrev pub worst_rank : List CxxStep → Rank
worst_rank [] = Exact
worst_rank (step ∷ later) = worse_rank (rank_of_action step.does) (worst_rank later)
