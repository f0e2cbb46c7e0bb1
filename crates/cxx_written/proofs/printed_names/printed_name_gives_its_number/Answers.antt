use Rattle.cxx_written.proofs.Names.{same_number}
use Rattle.cxx_written.proofs.printed_names.printed_name_gives_its_number.Goals as goal

pub returns : goal.returns
returns c = same_number
