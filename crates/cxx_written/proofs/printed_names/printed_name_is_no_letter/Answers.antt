use Rattle.cxx_written.proofs.Names.{printed_is_longer, printed_is_no_letter}
use Rattle.cxx_written.proofs.printed_names.printed_name_is_no_letter.Goals as goal

pub returns-clause-longer : goal.returns-clause-longer
returns-clause-longer c = printed_is_longer

pub returns-clause-no_letter : goal.returns-clause-no_letter
returns-clause-no_letter c = printed_is_no_letter
