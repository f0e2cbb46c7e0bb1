use Rattle.cxx_written.proofs.Names.{printed_is_name}
use Rattle.cxx_written.proofs.printed_names.printed_name_is_a_name.Goals as goal

pub returns : goal.returns
returns c = printed_is_name
