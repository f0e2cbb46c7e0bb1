use Rattle.cxx_page.proofs.Texts.{has_lines}
use Rattle.cxx_page.proofs.laws.lines_are_texts.Goals as goal

pub returns : goal.returns
returns c = has_lines
