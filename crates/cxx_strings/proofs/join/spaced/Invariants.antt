use Rattle.std.proofs.Common.{◌≡◌, length}
use Rattle.cxx_strings.specs.SideBySide.{strings_from}
use Rattle.cxx_strings.specs.Spacing.{written, written_of}
use Rattle.cxx_strings.proofs.join.spaced.Given as goal

abbrev pub invariant-loop-rest : goal.invariant-loop-rest
invariant-loop-rest l = written l.spaced.items (strings_from 0 l.fresh l.rest) ≡ written_of l.text

abbrev pub decreases-loop-rest : goal.decreases-loop-rest
decreases-loop-rest l = length l.rest
