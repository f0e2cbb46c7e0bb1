use Rattle.cxx_written.proofs.ReadLines.{words_are_tokens}
use Rattle.cxx_written.proofs.printed_lines.words_are_tokens.Goals as goal

pub returns : goal.returns
returns c = words_are_tokens
