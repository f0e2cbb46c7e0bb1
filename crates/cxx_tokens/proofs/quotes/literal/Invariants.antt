use Rattle.std.proofs.Common.{take, false}
use Rattle.cxx_model.specs.Text.Spelling.{literal_ending}
use Rattle.cxx_model.specs.Text.Continuing.{Goes}
use Rattle.cxx_tokens.proofs.quotes.literal.Given as goal

abbrev pub invariant-loop-i : goal.invariant-loop-i
invariant-loop-i l = Goes (literal_ending l.quote false) (literal_ending l.quote l.escaped) (take l.i l.rest)
