use Rattle.cxx_written.proofs.ReadWords.{read_is_spelled}
use Rattle.cxx_written.proofs.printed_lines.read_words_are_spelled.Goals as goal

pub returns : goal.returns
returns c = read_is_spelled
