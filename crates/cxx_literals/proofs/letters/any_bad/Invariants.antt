use Rattle.std.proofs.Common.{◌≡◌, length}
use Rattle.std.specs.List.{list_any}
use Rattle.cxx_model.specs.Text.Spelling.{letters, is_bad_letter}
use Rattle.cxx_literals.proofs.letters.any_bad.Given as goal

abbrev pub invariant-loop-rest : goal.invariant-loop-rest
invariant-loop-rest l = list_any (is_bad_letter l.wide) (letters 0 l.rest) ≡ list_any (is_bad_letter l.wide) (letters 0 l.body)

abbrev pub decreases-loop-rest : goal.decreases-loop-rest
decreases-loop-rest l = length l.rest
