use Rattle.cxx_written.proofs.Names.{stem_again}
use Rattle.cxx_written.proofs.printed_names.printed_name_keeps_its_stem.Goals as goal

pub returns : goal.returns
returns c = stem_again
