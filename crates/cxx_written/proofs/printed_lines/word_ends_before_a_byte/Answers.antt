use Rattle.cxx_written.proofs.Ends.{stands_before}
use Rattle.cxx_written.proofs.printed_lines.word_ends_before_a_byte.Goals as goal

pub returns : goal.returns
returns c = stands_before
