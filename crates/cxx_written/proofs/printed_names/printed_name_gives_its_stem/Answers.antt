use Rattle.cxx_written.proofs.Names.{same_stem}
use Rattle.cxx_written.proofs.printed_names.printed_name_gives_its_stem.Goals as goal

pub returns : goal.returns
returns c = same_stem
