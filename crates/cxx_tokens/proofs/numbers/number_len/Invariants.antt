use Rattle.std.proofs.Common.{◌≡◌, true, take}
use Rattle.cxx_model.specs.Text.Spelling.{is_number_rest}
use Rattle.cxx_model.specs.Text.Continuing.{last_of}
use Rattle.cxx_tokens.proofs.numbers.number_len.Given as goal

abbrev pub invariant-loop-i : goal.invariant-loop-i
invariant-loop-i l = (is_number_rest l.first (take l.i l.rest) ≡ true) × (l.last ≡ last_of l.first (take l.i l.rest))
