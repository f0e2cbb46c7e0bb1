use Rattle.cxx_written.proofs.Ends.{line_if_apart}
use Rattle.cxx_written.proofs.printed_lines.apart_words_are_a_line.Goals as goal

pub returns : goal.returns
returns c = line_if_apart
