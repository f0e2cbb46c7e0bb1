use Rattle.cxx_written.proofs.Names.{printed_again}
use Rattle.cxx_written.proofs.printed_names.printed_name_is_printed_over.Goals as goal

pub returns : goal.returns
returns c = printed_again
