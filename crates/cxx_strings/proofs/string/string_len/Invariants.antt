use Rattle.std.proofs.Common.{take, false}
use Rattle.cxx_model.specs.Text.Spelling.{literal_ending}
use Rattle.cxx_model.specs.Text.Continuing.{Goes}
use Rattle.cxx_strings.proofs.string.string_len.Given as goal

abbrev pub invariant-loop-i : goal.invariant-loop-i
invariant-loop-i l = Goes (literal_ending 34 false) (literal_ending 34 l.escaped) (take l.i l.rest)
