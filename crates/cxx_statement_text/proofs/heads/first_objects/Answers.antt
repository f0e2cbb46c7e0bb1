use Rattle.cxx_statement_text.proofs.Printing.{none_there}
use Rattle.cxx_statement_text.proofs.heads.first_objects.Goals as goal

pub returns-in-empty : goal.returns-in-empty
returns-in-empty c = none_there c.args.state.now c.args.parts.now c.no_objects.result.items c.in-empty.len_below c.no_objects.ensures
