use Rattle.std.proofs.Common.{◌≡◌, take, false}
use Rattle.std.specs.List.{list_any}
use Rattle.cxx_model.specs.Text.Spelling.{is_newline}
use Rattle.cxx_strings.proofs.blanks.line_len.Given as goal

abbrev pub invariant-loop-i : goal.invariant-loop-i
invariant-loop-i l = list_any is_newline (take l.i l.rest) ≡ false
