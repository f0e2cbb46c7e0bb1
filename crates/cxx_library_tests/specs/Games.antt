-- Contests whose outcome is plain.
use Rattle.std.proofs.Common.{ℕ, ◌+◌, ◌%◌, ◌==◌, nat_lt, Bool, arith}
use Rattle.cxx_champion.specs.Contests.{IsAsymmetric}
use Rattle.cxx_library_tests.specs.declared.games.Rule.{Rule}
use Rattle.cxx_library_tests.specs.declared.games.Rule.TheVariants.{LaterWins, Circle}

abbrev pub wins_by : Rule → ℕ → ℕ → Bool
wins_by LaterWins first second = nat_lt second first
wins_by Circle first second = (first + 1) % 3 == second

pub rule_asymmetric : (rule : Rule) (size : ℕ) → IsAsymmetric (wins_by rule) size
rule_asymmetric LaterWins size i j below_i below_j won = grind (arith, won)
rule_asymmetric Circle size i j below_i below_j won = grind (arith, won)
