use Rattle.std.proofs.Common.{take}
use Rattle.std.specs.Prelude.{false}
use Rattle.cxx_model.specs.Text.Spelling.{comment_ending}
use Rattle.cxx_model.specs.Text.Continuing.{Goes}
use Rattle.cxx_strings.proofs.blanks.comment_len.Given as goal

abbrev pub invariant-loop-i : goal.invariant-loop-i
invariant-loop-i l = Goes (comment_ending false) (comment_ending l.star) (take l.i l.rest)
